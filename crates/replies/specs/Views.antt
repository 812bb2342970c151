-- The report that a command answers on: the one that was read, or that one as it stood before a round.
use Rattle.std.specs.Prelude.{ℕ, Option, Some, None, Result, Ok, Err}
use Rattle.std.specs.Option.{ok_or}
use Rattle.trf16_report.specs.Prelude.{Sheet, before_round}
use Rattle.trf16_report.specs.declared.fault.Fault.{Fault}
use Rattle.replies.specs.Statuses.{Answer, refusal, round_not_reached}
use Rattle.replies.specs.declared.views.Unseen.{Unseen}
use Rattle.replies.specs.declared.views.Unseen.TheVariants.{Refused, NotReached}

-- the report of a verdict, as it stood before the round that is asked for, if one is; else why there is none: the report is refused, or it
-- does not reach the round [own]
abbrev pub seen_before : Option ℕ → Result Sheet Fault → Result Sheet Unseen
seen_before round (Err fault) = Err (Refused fault)
seen_before None (Ok sheet) = Ok sheet
seen_before (Some round) (Ok sheet) = ok_or (before_round sheet round) (NotReached round)

-- why there is no report to answer on [with seen_before]
abbrev pub unseen_answer : Unseen → Answer
unseen_answer (Refused fault) = refusal fault
unseen_answer (NotReached round) = round_not_reached round
