use Rattle.std.proofs.Common.{◌-◌, vec_len}
use Rattle.replies.specs.Prelude.{most_read}
use Rattle.replies.proofs.InputLemmas.{HasRead}
use Rattle.replies.proofs.input.read_input.Given as goal

abbrev pub invariant-loop-piece : goal.invariant-loop-piece
invariant-loop-piece g l = HasRead (g.R.Source.left l.initial.reader) (g.R.Source.left l.reader) l.bytes.items
    (g.R.Source.failures l.initial.reader) (g.R.Source.failures l.reader)
    (g.R.Source.calls l.initial.reader) (g.R.Source.calls l.reader)

abbrev pub decreases-loop-piece : goal.decreases-loop-piece
decreases-loop-piece g l = most_read - vec_len l.bytes
