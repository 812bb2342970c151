-- The rounds so far and those to come make all of them.
use Rattle.std.proofs.Common.{◌≡◌, ◌++◌, ◌≤◌}
use Rattle.markup.specs.Prelude.{node_text}
use Rattle.sheets.specs.Parts.{each_down}
use Rattle.sheets.specs.Rounds.{round_section}
use Rattle.trf16_report.specs.declared.limits.TheConstants.{MOST_ROUNDS}
use Rattle.sheets.proofs.page.put_rounds.Given as goal

abbrev pub invariant-loop-left : goal.invariant-loop-left
invariant-loop-left l =
    (l.page ++ node_text (each_down (round_section l.report l.dates) l.left)
    ≡ l.initial.page ++ node_text (each_down (round_section l.report l.dates) l.initial.left))
    × (l.left ≤ MOST_ROUNDS)

abbrev pub decreases-loop-left : goal.decreases-loop-left
decreases-loop-left l = l.left
