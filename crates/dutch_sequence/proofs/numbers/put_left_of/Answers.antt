use Rattle.std.proofs.Common.{◌≡◌, ◌+◌, ◌∷◌, ◌++◌, [], ℕ, Bool, true, false, cond, length, take, get_or, ◌∙◌, ap, subst, sym, not, arith}
use Rattle.std.specs.List.{filter}
use Rattle.std.specs.List.Sorted.{IsStrictlyIncreasing}
use Rattle.std.proofs.lemmas.Bool.{not_from_true, not_from_false}
use Rattle.std.proofs.lemmas.List.{take_all, take_more, append-nil}
use Rattle.std.proofs.lemmas.List.Elements.{filter-append}
use Rattle.std.proofs.lemmas.List.Kept.{IsStrictlyIncreasing-filter}
use Rattle.dutch_sequence.specs.Prelude.{is_member, left_of}
use Rattle.dutch_sequence.proofs.numbers.put_left_of.Goals as goal
use Rattle.dutch_sequence.proofs.numbers.put_left_of.Goals.{then-not-contains, else-not-contains}

pub loop-number-preserved : goal.loop-number-preserved
loop-number-preserved c =
    let test : ℕ → Bool = λ x. not (is_member x c.args.taken.now) in
    let next : ℕ = get_or c.args.numbers.now c.loop-number.number-index 0 in
    let old = c.loop-number.invariant in
    let more : filter test (take (c.loop-number.number-index + 1) c.args.numbers.now) ≡ filter test (take c.loop-number.number-index c.args.numbers.now) ++ cond (test next) (next ∷ []) [] =
    ap (filter test) (take_more c.args.numbers.now c.loop-number.number-index 0 c.loop-number-test.true)
    ∙ filter-append test (take c.loop-number.number-index c.args.numbers.now) (next ∷ []) in
    elim c.if-not-contains.branch [
      | then-not-contains w ↦
          let passes : test next ≡ true = not_from_false _ (sym c.contains.ensures.value ∙ w.if-not-contains.true) in
          record {
            items = ap (λ v. v.items) w.left-is ∙ w.push.ensures.items ∙ ap (λ xs. xs ++ next ∷ []) old.items
                ∙ sym (more ∙ ap (λ b. left_of (take c.loop-number.number-index c.args.numbers.now) c.args.taken.now ++ cond b (next ∷ []) []) passes);
            fits = omega (arith, ap (λ v. length v.items) w.left-is, w.push.ensures.len, old.fits);
          }
      | else-not-contains w ↦
          let fails : test next ≡ false = not_from_true _ (sym c.contains.ensures.value ∙ w.if-not-contains.false) in
          record {
            items = ap (λ v. v.items) w.left-is ∙ old.items
                ∙ sym (more ∙ ap (λ b. left_of (take c.loop-number.number-index c.args.numbers.now) c.args.taken.now ++ cond b (next ∷ []) []) fails ∙ append-nil (left_of (take c.loop-number.number-index c.args.numbers.now) c.args.taken.now));
            fits = omega (arith, ap (λ v. length v.items) w.left-is, old.fits);
          }
    ]

pub returns-clause-items : goal.returns-clause-items
returns-clause-items c =
    c.loop-number.invariant.items ∙ ap (λ numbers. left_of numbers c.args.taken.now) (take_all c.loop-number.number-index c.args.numbers.now c.loop-number-test.false)

pub returns-clause-ascends : goal.returns-clause-ascends
returns-clause-ascends c =
    λ rises. subst IsStrictlyIncreasing
    (sym (c.loop-number.invariant.items ∙ ap (λ numbers. left_of numbers c.args.taken.now) (take_all c.loop-number.number-index c.args.numbers.now c.loop-number-test.false)))
    (IsStrictlyIncreasing-filter (λ x. not (is_member x c.args.taken.now)) c.args.numbers.now rises)
