use Rattle.std.proofs.Common.{◌≡◌, ◌<◌, ℕ, ◌+◌, if◌then◌else◌, List, length, drop, get_or, slice_index, arith, ap, ◌∙◌}
use Rattle.std.proofs.lemmas.Bool.{eq-eqb, ne_eqb}
use Rattle.std.proofs.lemmas.List.{at_drop_more, at_drop_all}
use Rattle.dutch_sequence.specs.Prelude.{front_with}
use Rattle.dutch_sequence.proofs.Turns.{at_index}
use Rattle.dutch_sequence.proofs.limbo.front_with.Goals as goal

-- the next place has another score
ends : (scores : List ℕ) (score : ℕ) (places : List ℕ) (i : ℕ) → i < length places → (slice_index scores (get_or places i 0) ≡ score → ⊥) → front_with scores score (drop i places) ≡ 0
ends scores score places i within differs =
    at_drop_more (front_with scores score) places i 0 within
    ∙ ap (λ b. if b then 1 + front_with scores score (drop (i + 1) places) else 0) (ne_eqb (slice_index scores (get_or places i 0)) score differs)

-- the next place has the score
goes_on : (scores : List ℕ) (score : ℕ) (places : List ℕ) (i : ℕ) → i < length places → slice_index scores (get_or places i 0) ≡ score → front_with scores score (drop i places) ≡ 1 + front_with scores score (drop (i + 1) places)
goes_on scores score places i within same =
    at_drop_more (front_with scores score) places i 0 within
    ∙ ap (λ b. if b then 1 + front_with scores score (drop (i + 1) places) else 0) (eq-eqb (slice_index scores (get_or places i 0)) score same)

pub bounds-scores-place : goal.bounds-scores-place
bounds-scores-place c =
    at_index (λ place. place < length c.args.scores.now) c.args.places.now c.loop-place.place-index c.requires.within c.loop-place-test.true

pub returns-then-scores-place-clause-count : goal.returns-then-scores-place-clause-count
returns-then-scores-place-clause-count c =
    omega (arith, c.loop-place.invariant.so_far, ends c.args.scores.now c.args.score c.args.places.now c.loop-place.place-index c.loop-place-test.true c.if-scores-place.true)

pub loop-place-preserved : goal.loop-place-preserved
loop-place-preserved c = record {
  at_place = omega (arith, c.loop-place.invariant.at_place);
  so_far = omega (arith, c.loop-place.invariant.so_far, goes_on c.args.scores.now c.args.score c.args.places.now c.loop-place.place-index c.loop-place-test.true c.if-scores-place.false);
}

pub returns-clause-count : goal.returns-clause-count
returns-clause-count c =
    omega (arith, c.loop-place.invariant.so_far, at_drop_all (front_with c.args.scores.now c.args.score) c.args.places.now c.loop-place.place-index c.loop-place-test.false)
