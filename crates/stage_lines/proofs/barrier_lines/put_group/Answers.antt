-- The pieces are those who have the label.
use Rattle.stage_lines.specs.BarrierTexts.{group_line, group_words}
use Rattle.stage_lines.proofs.barrier_lines.put_group.Goals as goal

pub returns : goal.returns
unfolding group_line group_words
returns c = rw (c.as_slice.ensures.value, c.as_slice-2.ensures.value, c.in_ok-seats.ensures) at c.say.ensures
