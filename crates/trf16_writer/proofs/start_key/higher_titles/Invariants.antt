use Rattle.std.proofs.Common.{◌≡◌, ◌+◌, ◌≤◌, length}
use Rattle.trf16_report.specs.Prelude.{words, titles, place_among}
use Rattle.trf16_writer.proofs.start_key.higher_titles.Given as goal

abbrev pub invariant-loop-higher : goal.invariant-loop-higher
invariant-loop-higher l = (l.count + place_among (words l.rest) l.title ≡ place_among titles l.title) × (l.count + length (words l.rest) ≤ 8)

abbrev pub decreases-loop-higher : goal.decreases-loop-higher
decreases-loop-higher l = length l.rest
