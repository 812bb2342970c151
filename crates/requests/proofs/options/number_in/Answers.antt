use Rattle.std.proofs.Common.{lit<, refl}
use Rattle.std.specs.Str.Parse.{ExplainsUnsignedError, HasUnsignedDigitsIfOk, ParsesUnsigned}
use Rattle.clap.specs.Words.{found_of}
use Rattle.requests.specs.Prelude.{u16_max}
use Rattle.requests.proofs.OptionLemmas.{number_read}
use Rattle.requests.proofs.options.number_in.Goals as goal

pub returns : goal.returns
returns c =
    number_read _ (λ bs r. ParsesUnsigned 16 10 bs r × ExplainsUnsignedError 10 bs r × HasUnsignedDigitsIfOk bs r) 16 u16_max refl (lit< tt) (λ u x g. g.0)
    c.args.name.now (found_of c.args.matches.now) c.get_one.result c.get_one.ensures.none c.get_one.ensures.value
