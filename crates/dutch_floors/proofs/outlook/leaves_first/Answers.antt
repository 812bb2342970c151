-- Where no number is left, none of the first Limbo is to come exactly where all of it is passed.
use Rattle.std.proofs.Common.{◌≡◌, ℕ, zero, suc, ◌+◌, ◌-◌, ◌≤◌, ◌<◌, nat_eq, false, not, cond, List, [], ◌∷◌, map, refl, sym, ap, ◌∙◌, arith}
use Rattle.std.proofs.lemmas.Bool.{eq-eqb, ne_eqb}
use Rattle.dutch_arrangements.specs.Prelude.{left_of, is_member, is_same, numbers_from}
use Rattle.dutch_bracket.specs.Prelude.{Reached, seat_of, score_at}
use Rattle.dutch_bracket.proofs.ArrangementParts.{next_number, no_number}
use Rattle.dutch_floors.proofs.outlook.leaves_first.Goals as goal

none_left : (f : ℕ → ℕ) (p n k : ℕ) → n - p ≡ k → p ≤ n → nat_eq p n ≡ is_same [] (map f (numbers_from (p + 1) k))
none_left f p n zero e le = eq-eqb p n (omega (arith, e, le))
none_left f p n (suc k) e le = ne_eqb p n (λ same. omega (arith, e, same))

one_left : (f : ℕ → ℕ) (i n : ℕ) (s1 : List ℕ) → i < n → is_member (i + 1) s1 ≡ false → false ≡ is_same (map f (left_of (numbers_from (i + 1) (n - i)) s1)) []
one_left f i n s1 h free =
    let rest = left_of (numbers_from ((i + 1) + 1) (n - (i + 1))) s1 in
    sym (ap (λ xs. is_same (map f (left_of xs s1)) []) (next_number i n h) ∙ ap (λ b. is_same (map f (cond (not b) ((i + 1) ∷ rest) rest)) []) free)

pub returns-then-passed-moved_down : goal.returns-then-passed-moved_down
returns-then-passed-moved_down c =
    let n = c.mdps-moved_down.result in
    let p = c.loop-above.passed in
    let i = c.loop-above.above in
    let f : ℕ → ℕ = λ i. score_at c.args.shaped.now.context.now.facts (seat_of c.args.shaped.now.context.now.reached.seats i) in
    one_left f i n c.args.s1.now (omega (arith, c.loop-above-test.true)) (sym c.if-not-contains.ensures.value)
    ∙ ap (λ xs. is_same (map f (left_of (numbers_from (i + 1) (n - i)) c.args.s1.now)) (map f xs)) (sym (no_number p n (omega (arith, c.if-passed-moved_down.true))))
    ∙ (rw (c.mdps-moved_down.ensures ∙ ap (λ (reached : Reached). reached.mdps) c.reached.ensures.value) c.loop-above.invariant.same)

pub returns : goal.returns
returns c =
    let n = c.mdps-moved_down.result in
    let p = c.loop-above.passed in
    let f : ℕ → ℕ = λ i. score_at c.args.shaped.now.context.now.facts (seat_of c.args.shaped.now.context.now.reached.seats i) in
    let counted : n ≡ c.args.shaped.now.context.now.reached.mdps = c.mdps-moved_down.ensures ∙ ap (λ (reached : Reached). reached.mdps) c.reached.ensures.value in
    let ended = no_number c.loop-above.above n (omega (arith, c.loop-above-test.false)) in
    none_left f p n (n - p) refl (omega (arith, c.loop-above.invariant.within, counted))
    ∙ ap (λ xs. is_same (map f (left_of xs c.args.s1.now)) (map f (numbers_from (p + 1) (n - p)))) (sym ended)
    ∙ (rw counted c.loop-above.invariant.same)
