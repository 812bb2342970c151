use Rattle.std.proofs.Common.{length}
use Rattle.command_line.proofs.instead.+shared_in.Given as goal

abbrev pub decreases-shared_in : goal.decreases-shared_in
decreases-shared_in l = length l.stages.now
