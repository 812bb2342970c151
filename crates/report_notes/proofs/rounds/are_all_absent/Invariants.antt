use Rattle.std.proofs.Common.{◌≡◌, map}
use Rattle.std.specs.List.{list_all}
use Rattle.trf16_report.specs.Prelude.{absent, entry_of}
use Rattle.report_notes.specs.Rounds.{are_all_absent}
use Rattle.report_notes.proofs.rounds.are_all_absent.Given as goal

abbrev pub invariant-loop-player : goal.invariant-loop-player
invariant-loop-player l = list_all (λ entry. absent l.report entry.start) (map entry_of l.player-iterator) ≡ are_all_absent l.report
