use Rattle.std.proofs.Common.{◌≡◌, map, option_map, subst}
use Rattle.trf16_report.specs.Prelude.{Sheet, line_back}
use Rattle.trf16_writer.proofs.back.taken_back.Goals as goal

pub returns : goal.returns
returns c =
    subst (λ (sheet : Sheet). c.with_bare_absences.result ≡ record sheet { carried = map (option_map (line_back sheet.utf8)) sheet.carried })
    c.in_ok-turned.ensures c.with_bare_absences.ensures
