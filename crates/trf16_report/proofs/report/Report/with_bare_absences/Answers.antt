use Rattle.std.proofs.Common.{ℕ, true, List, Option, map, refl, ap, ◌∙◌}
use Rattle.trf16_report.specs.Prelude.{lines, lines_carried, line_back, Sheet, entry_of}
use Rattle.std.specs.Prelude.{option_map}
use Rattle.trf16_report.proofs.BackLemmas.{HasLinesBack, carried-back, tells_back, apart_back}
use Rattle.trf16_report.proofs.report.Report.with_bare_absences.Goals as goal

pub invariant_of-report : goal.invariant_of-report
invariant_of-report c =
    let r = c.report.inside in
    let all = lines r.text.now in
    let said = lines_carried r.bare_absences r.utf8 all r.bye in
    let left = lines_carried true r.utf8 all r.bye in
    let back : HasLinesBack said left = record { columns = refl; lines = carried-back r.bare_absences r.utf8 all } in
    let players = map (λ e. entry_of e.1) r.players.entries in
    let whole : HasLinesBack (record said { players = players }) (record left { players = players }) = record { columns = refl; lines = carried-back r.bare_absences r.utf8 all } in (
      c.report.invariant.0,
      c.report.invariant.1,
      c.report.invariant.2,
      c.report.invariant.3,
      c.report.invariant.4,
      tells_back r.notes c.forget_absences.new.self said left back c.forget_absences.ensures.absent c.forget_absences.ensures.firsts c.forget_absences.ensures.together c.report.invariant.5,
      c.report.invariant.6,
      apart_back r.apart (record said { players = players }) (record left { players = players }) whole refl c.report.invariant.7,
    )

pub returns : goal.returns
returns c =
    let r = c.report.inside in
    let made : List (Option (List ℕ)) → Sheet =
    λ carried. record { utf8 = r.utf8; carried = carried; players = map (λ e. entry_of e.1) r.players.entries; total = r.total; initial = r.initial; bye = r.bye } in
    ap made (carried-back r.bare_absences r.utf8 (lines r.text.now))
    ∙ ap (λ (sheet : Sheet). record sheet { carried = map (option_map (line_back sheet.utf8)) sheet.carried }) c.report.view_is
