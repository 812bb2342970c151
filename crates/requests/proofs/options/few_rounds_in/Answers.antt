use Rattle.std.proofs.Common.{arith, lit<, refl, rules}
use Rattle.std.specs.Str.Parse.{ExplainsUnsignedError, HasUnsignedDigitsIfOk, ParsesUnsigned}
use Rattle.clap.specs.Words.{found_of, rows_of}
use Rattle.requests.proofs.OptionLemmas.{number_kept, number_read}
use Rattle.requests.proofs.options.few_rounds_in.Goals as goal
use Rattle.trf16_report.specs.declared.limits.TheConstants.{MOST_ROUNDS}

pub returns : goal.returns
returns c =
    number_kept MOST_ROUNDS 255 c.args.name.now (rows_of (found_of c.args.matches.now)) c.get_one.result c.filter.result (omega arith)
    (number_read _ (λ bs r. ParsesUnsigned 8 10 bs r × ExplainsUnsignedError 10 bs r × HasUnsignedDigitsIfOk bs r) 8 255 refl (lit< tt) (λ u x g. g.0)
    c.args.name.now (found_of c.args.matches.now) c.get_one.result c.get_one.ensures.none c.get_one.ensures.value)
    (search rules)
