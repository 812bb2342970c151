use Rattle.dutch_listing.proofs.Nexts.{step-holding}
use Rattle.dutch_listing.proofs.candidates.Candidates.next.Goals as goal

pub returns-clause-answer : goal.returns-clause-answer
returns-clause-answer g c = step-holding _ _ _ c.put_next-step.new.candidate c.put_next-step.result c.with_candidate.result c.with_candidate.ensures c.put_next-step.ensures.answer

pub returns-clause-too_many_left : goal.returns-clause-too_many_left
returns-clause-too_many_left g c many = step-holding _ _ _ c.put_next-step.new.candidate c.put_next-step.result c.with_candidate.result c.with_candidate.ensures (c.put_next-step.ensures.too_many_left many)

pub returns-clause-ended : goal.returns-clause-ended
returns-clause-ended g c = step-holding _ _ _ c.put_next-step.new.candidate c.put_next-step.result c.with_candidate.result c.with_candidate.ensures c.put_next-step.ensures.ended

pub returns-clause-after_end : goal.returns-clause-after_end
returns-clause-after_end g c told = step-holding _ _ _ c.put_next-step.new.candidate c.put_next-step.result c.with_candidate.result c.with_candidate.ensures (c.put_next-step.ensures.after_end told)
