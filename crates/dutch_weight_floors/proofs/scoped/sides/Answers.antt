-- One more number is told where it stands.
use Rattle.std.proofs.Common.{◌≡◌, ℕ, ◌+◌, ◌-◌, ◌<◌, ◌≤◌, List, [], ◌∷◌, ◌++◌, length, length-append, get_or, inl, inr, ap, subst, sym, ◌∙◌, arith}
use Rattle.std.proofs.lemmas.List.{get_or_append_left, get_or_push}
use Rattle.dutch_bracket.specs.Prelude.{Reached}
use Rattle.dutch_weighing.proofs.WrittenNumbers.{at_most}
use Rattle.dutch_weight_floors.specs.declared.scope.Standing.{Standing}
use Rattle.dutch_weight_floors.specs.Prelude.{Scope, TellsSides, standing_of}
use Rattle.dutch_weight_floors.proofs.scoped.sides.Goals as goal

one_more : (mdps : ℕ) (scope : Scope) (old : List Standing) (side : Standing) (place : ℕ) → TellsSides mdps scope old → length old ≡ place
    → side ≡ standing_of mdps scope (place + 1) → (a : ℕ) (d : Standing) → 0 < a → a ≤ place + 1
    → get_or (old ++ (side ∷ [])) (a - 1) d ≡ standing_of mdps scope a
one_more mdps scope old side place told count is a d some few = elim (at_most a place) [
  | inl le ↦ get_or_append_left old (side ∷ []) d (a - 1) (omega (arith, some, le, count)) ∙ told a d some (omega (arith, le, count))
  | inr more ↦
      get_or_push old side d (a - 1) (omega (arith, more, few, count))
      ∙ is
      ∙ ap (standing_of mdps scope) (let e : place + 1 ≡ a = omega (arith, more, few) in e)
]

pub loop-place-preserved : goal.loop-place-preserved
loop-place-preserved c =
    let mdps = c.mdps-mdps.ensures ∙ ap (λ (r : Reached). r.mdps) c.reached.ensures.value in
    let is = c.standing.ensures ∙ ap (λ m. standing_of m c.args.scope.now (c.loop-place.place + 1)) mdps in
    let count : length c.push.new.self.items ≡ c.loop-place.place + 1 =
    omega (arith, simp length-append at (ap length c.push.ensures.items), c.loop-place.invariant.1) in (
      (λ a d some few.
          subst (λ (sides : List Standing). get_or sides (a - 1) d ≡ standing_of c.args.context.now.reached.mdps c.args.scope.now a) (sym c.push.ensures.items)
          (one_more c.args.context.now.reached.mdps c.args.scope.now c.loop-place.sides.items c.standing.result c.loop-place.place
          c.loop-place.invariant.0 c.loop-place.invariant.1 is a d some (omega (arith, few, count)))),
      count,
    )
