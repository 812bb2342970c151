use Rattle.std.proofs.Common.{rules}
use Rattle.replies.specs.Prelude.{front_text}
use Rattle.replies.proofs.notes.put_front.Goals as goal

pub returns-in-NoPlayer : goal.returns-in-NoPlayer
unfolding front_text
returns-in-NoPlayer c = rw c.in-NoPlayer.is (search rules)

pub returns-in-BeforeName : goal.returns-in-BeforeName
unfolding front_text
returns-in-BeforeName c = rw c.in-BeforeName.is c.put_line-in-BeforeName.ensures

pub returns-in-RatingAbove : goal.returns-in-RatingAbove
unfolding front_text
returns-in-RatingAbove c = rw c.in-RatingAbove.is (search rules)

pub returns-in-BehindColumn : goal.returns-in-BehindColumn
unfolding front_text
returns-in-BehindColumn c = rw c.in-BehindColumn.is (search rules)
