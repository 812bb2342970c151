use Rattle.std.proofs.Common.{length}
use Rattle.dutch_player.proofs.colours.+alternate_colour.Given as goal

abbrev pub decreases-alternate_colour : goal.decreases-alternate_colour
decreases-alternate_colour l = length l.mine.now
