use Rattle.std.proofs.Common.{◌≡◌, ◌++◌, map, length}
use Rattle.std.specs.Prelude.{option_map}
use Rattle.trf16_report.specs.Prelude.{entry_of, lines_text, renumbered_line}
use Rattle.trf16_writer.specs.StartTable.{new_in}
use Rattle.trf16_writer.proofs.renumbering.text_of.Given as goal

abbrev pub invariant-loop-line : goal.invariant-loop-line
invariant-loop-line l =
    l.text.items ++ lines_text l.report.utf8 (map (option_map (renumbered_line l.report.utf8 (new_in l.new))) l.lines) (map entry_of l.players.rest.now)
    ≡ lines_text l.report.utf8 (map (option_map (renumbered_line l.report.utf8 (new_in l.new))) l.report.carried) (map entry_of l.players-2)

abbrev pub decreases-loop-line : goal.decreases-loop-line
decreases-loop-line l = length l.lines
