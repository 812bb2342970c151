use Rattle.std.proofs.Common.{◌≡◌, ◌<◌, ℕ, ◌+◌, if◌then◌else◌, List, length, drop, get_or, arith, ap, ◌∙◌}
use Rattle.std.proofs.lemmas.Bool.{eq-eqb, ne_eqb}
use Rattle.std.proofs.lemmas.List.{at_drop_more, at_drop_all}
use Rattle.dutch_sequence.specs.Prelude.{place_in}
use Rattle.dutch_sequence.proofs.transposition.place_in.Goals as goal

-- the number is the next of the pool
here : (pool : List ℕ) (number i : ℕ) → i < length pool → get_or pool i 0 ≡ number → place_in (drop i pool) number ≡ 0
here pool number i within is =
    at_drop_more (λ rest. place_in rest number) pool i 0 within
    ∙ ap (λ b. if b then 0 else 1 + place_in (drop (i + 1) pool) number) (eq-eqb (get_or pool i 0) number is)

-- the next of the pool is another one
later : (pool : List ℕ) (number i : ℕ) → i < length pool → (get_or pool i 0 ≡ number → ⊥) → place_in (drop i pool) number ≡ 1 + place_in (drop (i + 1) pool) number
later pool number i within is_not =
    at_drop_more (λ rest. place_in rest number) pool i 0 within
    ∙ ap (λ b. if b then 0 else 1 + place_in (drop (i + 1) pool) number) (ne_eqb (get_or pool i 0) number is_not)

pub returns-then-other-number-clause-place : goal.returns-then-other-number-clause-place
returns-then-other-number-clause-place c =
    omega (arith, c.loop-other.invariant.so_far, here c.args.pool.now c.args.number c.loop-other.other-index c.loop-other-test.true c.if-other-number.true)

pub loop-other-preserved : goal.loop-other-preserved
loop-other-preserved c = record {
  at_place = omega (arith, c.loop-other.invariant.at_place);
  so_far = omega (arith, c.loop-other.invariant.so_far, later c.args.pool.now c.args.number c.loop-other.other-index c.loop-other-test.true c.if-other-number.false);
}

pub returns-clause-place : goal.returns-clause-place
returns-clause-place c =
    omega (arith, c.loop-other.invariant.so_far, at_drop_all (λ rest. place_in rest c.args.number) c.args.pool.now c.loop-other.other-index c.loop-other-test.false)
