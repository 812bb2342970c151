-- The three parts put one behind another are the floor.
use Rattle.std.proofs.Common.{◌≡◌, ℕ, ◌+◌, ◌-◌, ◌*◌, ◌≤◌, false, nat_lt, cond, List, [], ◌++◌, map, length, ap, sym, ◌∙◌, arith}
use Rattle.std.proofs.lemmas.Bool.Decides.{nat_tests}
use Rattle.dutch_bracket.specs.Prelude.{repeated, placed_all, floor_below}
use Rattle.dutch_floors.specs.FirstValues.{floor_length, floor_held}
use Rattle.dutch_bracket.proofs.Places.{placed_all_append}
use Rattle.dutch_sequence.specs.declared.numbers.TheConstants.{LIMIT}
use Rattle.dutch_floors.proofs.first_value.floor_held.Goals as goal

held_is : (down : List ℕ) (least residents pairs evens twos : ℕ) (all none first second : List ℕ) → evens ≡ pairs - length down → twos ≡ (length down + residents) - 2 * pairs
    → length down + (evens + twos) ≤ LIMIT → none ≡ [] → first ≡ placed_all none (map (λ x. x - least) down) → second ≡ placed_all first (repeated 0 evens)
    → all ≡ placed_all second (repeated 2 twos) → all ≡ floor_held down least residents pairs
held_is down least residents pairs evens twos all none first second e t few start one two three =
    let room : nat_lt LIMIT (floor_length (length down) residents pairs) ≡ false = (let le : floor_length (length down) residents pairs ≤ LIMIT = omega (arith, few, e, t) in grind (arith, nat_tests)) in
    let above : List ℕ = map (λ x. x - least) down in
    three
    ∙ ap (λ xs. placed_all xs (repeated 2 twos)) (two ∙ ap (λ xs. placed_all xs (repeated 0 evens)) (one ∙ ap (λ xs. placed_all xs above) start))
    ∙ ap (λ k. placed_all (placed_all (placed_all [] above) (repeated 0 evens)) (repeated 2 k)) t
    ∙ ap (λ k. placed_all (placed_all (placed_all [] above) (repeated 0 k)) (repeated 2 ((length down + residents) - 2 * pairs))) e
    ∙ sym (placed_all_append (placed_all [] above) (repeated 0 (pairs - length down)) (repeated 2 ((length down + residents) - 2 * pairs)))
    ∙ sym (placed_all_append [] above (repeated 0 (pairs - length down) ++ repeated 2 ((length down + residents) - 2 * pairs)))
    ∙ ap (λ b. cond b [] (floor_below down least residents pairs)) (sym room)

pub returns : goal.returns
returns c =
    held_is c.args.down.now c.args.least c.args.residents c.args.pairs c.saturating_sub-evens.result c.saturating_sub-twos.result
    c.put_times-2.new.numbers.items c.new-numbers.result.items c.put_above.new.numbers.items c.put_times.new.numbers.items
    c.saturating_sub-evens.ensures c.saturating_sub-twos.ensures (omega (arith, c.if-down-evens-gt-LIMIT.false)) c.new-numbers.ensures
    c.put_above.ensures.items c.put_times.ensures.items c.put_times-2.ensures.items
