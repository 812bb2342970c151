-- The next number is one of a player, whether it is put or not.
use Rattle.std.proofs.Common.{◌≡◌, ℕ, ◌≤◌, ◌<◌, ◌+◌, List, [], ◌∷◌, ◌++◌, All, Vec, Global, length, length-append, sym, ap, subst, ◌∙◌, arith}
use Rattle.std.proofs.lemmas.List.Elements.{All-push}
use Rattle.dutch_weight_floors.specs.Prelude.{IsReached, Scoped, size_by}
use Rattle.dutch_weight_floors.proofs.unpaired_graph.numbers_beside.Goals.{then-not-is_in+in_ok-push, else-not-is_in}
use Rattle.dutch_weight_floors.proofs.unpaired_graph.numbers_beside.Goals as goal

abbrev AreSome : Scoped → ℕ → List ℕ → Type 0
AreSome s most numbers = All (IsReached s) numbers × (length numbers ≤ most)

one_more : (s : Scoped) (old new : List ℕ) (above : ℕ) → new ≡ old ++ ((above + 1) ∷ []) → above < size_by s.reach s.weighing → AreSome s above old → AreSome s (above + 1) new
one_more s old new above is less some =
    subst (λ (numbers : List ℕ). AreSome s (above + 1) numbers) (sym is)
    (All-push (IsReached s) old (above + 1) some.0 (omega arith, omega (arith, less)), omega (arith, some.1, length-append old ((above + 1) ∷ [])))

same : (s : Scoped) (old new : List ℕ) (above : ℕ) → new ≡ old → AreSome s above old → AreSome s (above + 1) new
same s old new above is some = subst (λ (numbers : List ℕ). AreSome s (above + 1) numbers) (sym is) (some.0, omega (arith, some.1))

pub loop-above-preserved : goal.loop-above-preserved
loop-above-preserved c =
    let s : Scoped = c.args.scoped.now in
    let old : List ℕ = c.loop-above.numbers.items in
    let new : List ℕ = c.if-not-is_in.numbers.items in
    let less : c.loop-above.above < size_by s.reach s.weighing = omega (arith, c.loop-above-test.true, c.size-above-end.ensures.value) in
    let was : AreSome s c.loop-above.above old = (c.loop-above.invariant.inside, c.loop-above.invariant.few) in
    let is : AreSome s (c.loop-above.above + 1) new = elim c.if-not-is_in.branch [
      | then-not-is_in+in_ok-push w ↦
          one_more s old new c.loop-above.above (ap (λ (v : Vec ℕ Global). v.items) w.numbers-is ∙ w.in_ok-push.ensures.items) less was
      | else-not-is_in w ↦ same s old new c.loop-above.above (ap (λ (v : Vec ℕ Global). v.items) w.numbers-is) was
    ] in
    record { inside = is.0; few = is.1 }
