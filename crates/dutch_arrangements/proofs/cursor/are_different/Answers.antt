use Rattle.std.proofs.Common.{◌≡◌, ℕ, ◌+◌, ◌<◌, Bool, true, false, not, ◌&&◌, List, length, drop, get_or, sym, ◌∙◌, ap}
use Rattle.std.proofs.lemmas.List.{at_drop_more, at_drop_all}
use Rattle.dutch_arrangements.specs.Prelude.{is_member, are_different}
use Rattle.dutch_arrangements.proofs.cursor.are_different.Goals as goal

-- the next number, where it is known whether it comes once more
next_of : (numbers : List ℕ) (i : ℕ) (again : Bool) → i < length numbers → is_member (get_or numbers i 0) (drop (i + 1) numbers) ≡ again → are_different (drop i numbers) ≡ (not again && are_different (drop (i + 1) numbers))
next_of numbers i again within is =
    at_drop_more are_different numbers i 0 within ∙ ap (λ b. not b && are_different (drop (i + 1) numbers)) is

pub returns-then-contains : goal.returns-then-contains
returns-then-contains c =
    let again : is_member (get_or c.args.numbers.now c.loop-i.i 0) (drop (c.loop-i.i + 1) c.args.numbers.now) ≡ true =
    ap (is_member (get_or c.args.numbers.now c.loop-i.i 0)) (sym c.split_at.ensures.back) ∙ sym c.contains.ensures.value ∙ c.if-contains.true in
    sym (next_of c.args.numbers.now c.loop-i.i true c.loop-i-test.true again) ∙ c.loop-i.invariant

pub loop-i-preserved : goal.loop-i-preserved
loop-i-preserved c =
    let once : is_member (get_or c.args.numbers.now c.loop-i.i 0) (drop (c.loop-i.i + 1) c.args.numbers.now) ≡ false =
    ap (is_member (get_or c.args.numbers.now c.loop-i.i 0)) (sym c.split_at.ensures.back) ∙ sym c.contains.ensures.value ∙ c.if-contains.false in
    sym (next_of c.args.numbers.now c.loop-i.i false c.loop-i-test.true once) ∙ c.loop-i.invariant

pub returns : goal.returns
returns c = sym (at_drop_all are_different c.args.numbers.now c.loop-i.i c.loop-i-test.false) ∙ c.loop-i.invariant
