use Rattle.std.proofs.Common.{length}
use Rattle.command_line.proofs.instead.+settled_in.Given as goal

abbrev pub decreases-settled_in : goal.decreases-settled_in
decreases-settled_in l = length l.stages.now
