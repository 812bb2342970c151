-- One number more has its mark; at last what pairs cost is as before, but for those who are marked.
use Rattle.std.proofs.Common.{◌≡◌, ℕ, ◌+◌, ◌<◌, ◌⊎◌, Bool, true, false, not, List, [], ◌∷◌, ◌++◌, length, length-append, inl, inr, sym, ap, subst, ◌∙◌, arith}
use Rattle.std.proofs.lemmas.Bool.{not-false}
use Rattle.std.proofs.lemmas.List.{get_or_append_left, get_or_past, get_or_push}
use Rattle.dutch_weight_floors.specs.declared.scope.Standing.{Standing}
use Rattle.dutch_weight_floors.specs.declared.scoped.Reach.{Reach}
use Rattle.dutch_weight_floors.specs.Prelude.{KeepsPairs, MarkTurned, Scoped, side_in}
use Rattle.dutch_weight_floors.proofs.OtherScopes.{are_as_before}
use Rattle.dutch_weight_floors.proofs.scoped.Scoped.turned.Goals as goal

in_turn : (a place : ℕ) → (a < place) ⊎ ((a ≡ place) ⊎ (place < a))
in_turn a place = grind arith

abbrev Keeps : Scoped → Scoped → ℕ → Type 0
Keeps s t a = KeepsPairs t.reach (side_in s a) (side_in t a)

one_more : (s t : Scoped) (old : List Bool) (keeps : Bool) (place : ℕ) → MarkTurned old s t → length old ≡ place → (keeps ≡ true → Keeps s t place)
    → MarkTurned (old ++ (not keeps ∷ [])) s t
one_more s t old keeps place marked count told = λ a none. elim (in_turn a place) [
  | inl before ↦ marked a (sym (get_or_append_left old (not keeps ∷ []) true a (omega (arith, before, count))) ∙ none)
  | inr (inl here) ↦
      subst (Keeps s t) (sym here)
      (told (not-false keeps (sym (get_or_push old (not keeps) true a (count ∙ sym here)) ∙ none)))
  | inr (inr behind) ↦
      absurd (let past : true ≡ false =
      sym (get_or_past (old ++ (not keeps ∷ [])) a true (omega (arith, behind, count, length-append old (not keeps ∷ [])))) ∙ none in cc)
]

pub loop-place-preserved : goal.loop-place-preserved
loop-place-preserved c =
    let s : Scoped = c.args.before.now in
    let t : Scoped = c.args.self.now in
    let place : ℕ = c.loop-place.place in
    let keeps : Bool = c.keeps_pairs-keeps_pairs.result in
    let reach = ap (λ (v : Scoped). v.reach) c.self.view_is in
    let told : keeps ≡ true → Keeps s t place = λ yes.
    subst (λ (reach : Reach). KeepsPairs reach (side_in s place) (side_in t place)) reach
    (subst (λ (now : Standing). KeepsPairs c.self.inside.reach (side_in s place) now) c.standing-in-loop-place.ensures
    (subst (λ (before : Standing). KeepsPairs c.self.inside.reach before c.standing-in-loop-place.result) c.standing.ensures (c.keeps_pairs-keeps_pairs.ensures yes))) in
    let is = c.in_ok-push.ensures.items in
    record {
      marked = subst (λ (turned : List Bool). MarkTurned turned s t) (sym is)
          (one_more s t c.loop-place.turned.items keeps place c.loop-place.invariant.marked c.loop-place.invariant.count told);
      count = omega (arith, ap length is, length-append c.loop-place.turned.items (not keeps ∷ []), c.loop-place.invariant.count);
    }

pub returns : goal.returns
returns c = are_as_before c.args.before.now c.args.self.now c.loop-place.turned.items c.requires c.loop-place.invariant.marked
