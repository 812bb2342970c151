use Rattle.std.proofs.Common.{◌∙◌, ap, arith, codes, rules}
use Rattle.std.specs.Prelude.{unwrap_or}
use Rattle.clap.specs.Words.{found_of, rows_of}
use Rattle.requests.specs.Prelude.{u16_max}
use Rattle.requests.proofs.OptionLemmas.{number_kept}
use Rattle.requests.proofs.options.bye_in.Goals as goal

pub returns : goal.returns
returns c =
    c.unwrap_or.ensures ∙ ap (λ o. unwrap_or o 2) (number_kept 2 u16_max (codes "bye") (rows_of (found_of c.args.matches.now)) c.number_in.result c.filter.result (omega arith)
    c.number_in.ensures (search rules))
