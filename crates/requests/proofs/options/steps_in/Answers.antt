use Rattle.std.proofs.Common.{◌∙◌, ap, lit<, refl, codes}
use Rattle.std.specs.Prelude.{unwrap_or}
use Rattle.std.specs.Str.Parse.{ExplainsUnsignedError, HasUnsignedDigitsIfOk, ParsesUnsigned}
use Rattle.clap.specs.Words.{found_of}
use Rattle.requests.specs.Prelude.{u64_max}
use Rattle.requests.proofs.OptionLemmas.{number_read}
use Rattle.requests.proofs.options.steps_in.Goals as goal

pub returns : goal.returns
returns c =
    c.unwrap_or.ensures ∙ ap (λ o. unwrap_or o 10000000) (number_read _ (λ bs r. ParsesUnsigned 64 10 bs r × ExplainsUnsignedError 10 bs r × HasUnsignedDigitsIfOk bs r) 64 u64_max refl (lit< tt) (λ u x g. g.0)
    (codes "steps") (found_of c.args.matches.now) c.get_one.result c.get_one.ensures.none c.get_one.ensures.value)
