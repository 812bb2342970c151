use Rattle.std.proofs.Common.{◌≡◌}
use Rattle.player_lines.specs.PlayerTexts.{with_number}
use Rattle.player_lines.proofs.PlayerLemmas.{along}
use Rattle.player_lines.proofs.player_line.place.Given as goal

abbrev pub invariant-loop-at : goal.invariant-loop-at
invariant-loop-at l = (with_number l.number l.numbers.items ≡ along l.number l.numbers.items l.at) × (l.numbers.items ≡ l.initial.numbers.items)
