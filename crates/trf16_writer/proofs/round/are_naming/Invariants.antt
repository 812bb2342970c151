use Rattle.std.proofs.Common.{◌≡◌, drop, nat_eq}
use Rattle.std.specs.List.{list_any}
use Rattle.trf16_report.specs.Prelude.{named_by}
use Rattle.trf16_writer.proofs.round.are_naming.Given as goal

abbrev pub invariant-loop-board : goal.invariant-loop-board
invariant-loop-board l = list_any (nat_eq l.start) (named_by (drop l.board-index l.boards)) ≡ list_any (nat_eq l.start) (named_by l.boards)
