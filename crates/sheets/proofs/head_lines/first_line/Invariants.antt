-- The first line of the kind among those to come is that of all lines.
use Rattle.std.proofs.Common.{◌≡◌, length}
use Rattle.sheets.specs.HeadLines.{first_of_kind, first_line}
use Rattle.sheets.proofs.head_lines.first_line.Given as goal

abbrev pub invariant-loop-carried : goal.invariant-loop-carried
invariant-loop-carried l = first_of_kind l.utf8 l.kind l.lines ≡ first_line l.report l.kind

abbrev pub decreases-loop-carried : goal.decreases-loop-carried
decreases-loop-carried l = length l.lines
