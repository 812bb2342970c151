use Rattle.std.proofs.Common.{arith, ◌≡◌, ◌+◌, ◌-◌, ◌<◌, ◌≤◌, inl, inr, true, false, nat_le, length, slice_index, refl, sym, ◌∙◌, subst}
use Rattle.std.proofs.lemmas.Bool.{and_from, cases_lt, le-leb}
use Rattle.dutch_bracket.specs.Prelude.{is_number}
use Rattle.dutch_sequence.proofs.Turns.{at_index}
use Rattle.dutch_bracket.proofs.AllLemmas.{all_at}
use Rattle.dutch_candidates.proofs.conditions.are_left.Goals.{then-number-last-via-then-number-last, then-number-last-via-else-number-last+then-not-has}
use Rattle.dutch_candidates.proofs.conditions.are_left.Goals as goal

pub returns-then-number-last : goal.returns-then-number-last
returns-then-number-last c =
    let i = c.loop-number.number-index in
    let down = c.args.down.now in
    let seats = c.args.reached.now.seats in (
      (λ e. let bad : false ≡ true = e in cc),
      λ left.
          let here : (0 < slice_index down i) × (slice_index down i ≤ length seats) =
          at_index (λ n. (0 < n) × (n ≤ length seats)) down i left.numbers c.loop-number-test.true in
          elim c.then-number-last.branch [
            | then-number-last-via-then-number-last w ↦
                elim (cases_lt 0 i) [
                  | inl later ↦
                      let same : i - 1 + 1 ≡ i = omega (arith, later) in
                      let step : slice_index down (i - 1) < slice_index down i =
                      subst (λ k. slice_index down (i - 1) < slice_index down k) same (left.ascend (i - 1) (omega (arith, same, c.loop-number-test.true))) in
                      absurd (omega (arith, step, c.loop-number.invariant.last later, w.if-number-last.true))
                  | inr first ↦
                      absurd (omega (arith, here.0, c.loop-number.invariant.first (omega (arith, first)), w.if-number-last.true))
                ]
            | then-number-last-via-else-number-last+then-not-has w ↦
                let yes : is_number c.args.reached.now (slice_index down i) ≡ true =
                and_from (nat_le 1 (slice_index down i)) (nat_le (slice_index down i) (length seats)) (le-leb 1 (slice_index down i) (omega (arith, here.0)))
                (le-leb (slice_index down i) (length seats) here.1) in
                sym w.if-not-has.true ∙ w.has.ensures ∙ yes
          ],
    )

pub returns : goal.returns
returns c =
    let numbers = c.loop-number.invariant.numbers in
    let all = c.loop-number-test.false in (
      (λ e. record {
        numbers = all_at (λ n. (0 < n) × (n ≤ length c.args.reached.now.seats)) c.args.down.now (λ i lt. numbers i (omega (arith, lt, all)));
        ascend = (λ i lt. c.loop-number.invariant.ascend i (omega (arith, lt, all)));
      }),
      λ left. refl,
    )
