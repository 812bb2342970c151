-- The pairs are those of a candidate that can be chosen, and no shape that has one costs less.
use Rattle.std.proofs.Common.{◌≡◌, Bool, true, false, Ok}
use Rattle.dutch_arrangements.specs.Prelude.{MatchDrawn}
use Rattle.dutch_sequence.specs.declared.steps.Stopped.{Stopped}
use Rattle.dutch_choice.proofs.MatchedCandidates.{told}
use Rattle.dutch_choice.proofs.certified.shape_by.Goals as goal

drawn_yes : (A B C : Type 0) (b : Bool) → b ≡ true → MatchDrawn {E = Stopped} (Ok b) A B C → A
drawn_yes A B C true e h = h
drawn_yes A B C false e h = absurd (cc)

pub returns-clause-answer : goal.returns-clause-answer
returns-clause-answer c =
    told c.args.players.now c.args.partners.now c.requires.matching c.matched_shape-shape.ensures.sound c.matched_shape-shape.ensures.few c.args.floor.now
    c.requires.floor c.matched_shape-shape.result c.matched_shape-shape.ensures.value (c.is_reached.ensures c.if-not-is_reached.false)
    (drawn_yes _ _ _ c.in_ok-can_be_chosen.field-0 c.if-not-branch.false c.in_ok-can_be_chosen.ensures.answer)
