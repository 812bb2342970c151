use Rattle.std.proofs.Common.{length}
use Rattle.player_lines.proofs.player_line.+ascending_numbers.Given as goal

abbrev pub decreases-ascending_numbers : goal.decreases-ascending_numbers
decreases-ascending_numbers l = length l.numbers.now
