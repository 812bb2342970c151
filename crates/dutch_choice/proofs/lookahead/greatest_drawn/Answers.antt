-- The shape that is told is the greatest of all, so the first legal arrangement of it is drawn.
use Rattle.std.proofs.Common.{◌≡◌, Bool, true, false, Ok, IfSome, Option, Some, subst}
use Rattle.dutch_arrangements.specs.Prelude.{MatchDrawn}
use Rattle.dutch_arrangements.specs.declared.bracket.Shape.{Shape}
use Rattle.dutch_sequence.specs.declared.steps.Stopped.{Stopped}
use Rattle.dutch_player.specs.Prelude.{Facts}
use Rattle.dutch_choice.specs.AlwaysShapes.{IsAlwaysShape}
use Rattle.dutch_bracket.specs.Prelude.{Reached}
use Rattle.dutch_choice.proofs.AlwaysShapes.{always_fits, always_greatest}
use Rattle.dutch_choice.proofs.lookahead.greatest_drawn.Goals as goal

drawn_yes : (A B C : Type 0) (b : Bool) → b ≡ true → MatchDrawn {E = Stopped} (Ok b) A B C → A
drawn_yes A B C true e h = h
drawn_yes A B C false e h = absurd (cc)

matched_of : (facts : Facts) (reached : Reached) (matched : Option Shape) (shape : Shape) → matched ≡ Some shape → IfSome matched (IsAlwaysShape facts reached)
    → IsAlwaysShape facts reached shape
matched_of facts reached matched shape e known = subst (λ (o : Option Shape). IfSome o (IsAlwaysShape facts reached)) e known

pub first-requires-clause-fits : goal.first-requires-clause-fits
first-requires-clause-fits c =
    let legal = c.args.legal.now in
    let facts = legal.rule.now.field.now in
    let reached = legal.rule.now.reached.now in
    always_fits facts reached c.in-Some.shape (matched_of facts reached c.args.matched c.in-Some.shape c.in-Some.is c.requires.matched) legal.bracket.now c.requires.frame

pub returns-clause-answer : goal.returns-clause-answer
returns-clause-answer c =
    let legal = c.args.legal.now in
    let facts = legal.rule.now.field.now in
    let reached = legal.rule.now.reached.now in (
      always_greatest facts reached c.in-Some.shape (matched_of facts reached c.args.matched c.in-Some.shape c.in-Some.is c.requires.matched) legal.bracket.now c.requires.frame,
      drawn_yes _ _ _ c.in_ok-first.field-0 c.if-branch.true c.in_ok-first.ensures.answer,
    )
