use Rattle.std.proofs.Common.{◌≡◌, ◌++◌, ℕ, Bool, true, false, List, [], ◌∷◌, map, length, length-append, sym, ◌∙◌, ap, append_assoc, arith}
use Rattle.std.specs.List.{filter}
use Rattle.std.proofs.lemmas.List.{length-map, map-append}
use Rattle.dutch_sequence.specs.Prelude.{numbers_from, count_of, is_fixed, value_of}
use Rattle.dutch_sequence.proofs.Asked.{filter-room}
use Rattle.dutch_sequence.proofs.Members.{filter-more, filter-no_more}
use Rattle.dutch_sequence.proofs.exchange.put_fixed.Goals as goal
use Rattle.dutch_sequence.proofs.exchange.put_fixed.Goals.{then-is_fixed, else-is_fixed}

pub push-requires : goal.push-requires
push-requires c =
    let stage = c.args.stage.now in
    let fixed = c.args.fixed.now in
    let test : ℕ → Bool = is_fixed fixed.taken.now fixed.limit c.args.known in
    let value : ℕ → ℕ = value_of stage.pool.now stage.k fixed.side in
    let n : ℕ = c.loop-place.place in
    let count : ℕ = count_of stage.pool.now stage.k fixed.side in
    let room = filter-room test n count (omega (arith, c.count_at-place-end.ensures)) (sym c.is_fixed.ensures ∙ c.if-is_fixed.true) in
    omega (
      arith,
      ap length c.loop-place.invariant.so_far,
      length-append c.args.numbers.now.items (map value (filter test (numbers_from 0 n))),
      length-map (filter test (numbers_from 0 n)) value,
      length-map (filter test (numbers_from 0 count)) value,
      room,
      c.requires.room,
    )

pub loop-place-preserved : goal.loop-place-preserved
loop-place-preserved c =
    let stage = c.args.stage.now in
    let fixed = c.args.fixed.now in
    let test : ℕ → Bool = is_fixed fixed.taken.now fixed.limit c.args.known in
    let value : ℕ → ℕ = value_of stage.pool.now stage.k fixed.side in
    let n : ℕ = c.loop-place.place in
    let before : List ℕ = c.args.numbers.now.items in
    let old = c.loop-place.invariant in
    elim c.if-is_fixed.branch [
      | then-is_fixed w ↦
          let passes : test n ≡ true = sym c.is_fixed.ensures ∙ w.if-is_fixed.true in
          record {
            so_far = ap (λ v. v.items) w.numbers-is ∙ w.push.ensures.items
                ∙ ap (λ x. c.loop-place.numbers.items ++ x ∷ []) w.value_at.ensures.value
                ∙ ap (λ xs. xs ++ value n ∷ []) old.so_far
                ∙ append_assoc before (map value (filter test (numbers_from 0 n))) (value n ∷ [])
                ∙ ap (λ xs. before ++ xs) (sym (map-append value (filter test (numbers_from 0 n)) (n ∷ [])))
                ∙ ap (λ xs. before ++ map value xs) (sym (filter-more test n passes));
          }
      | else-is_fixed w ↦
          let fails : test n ≡ false = sym c.is_fixed.ensures ∙ w.if-is_fixed.false in
          record {
            so_far = ap (λ v. v.items) w.numbers-is ∙ old.so_far ∙ ap (λ xs. before ++ map value xs) (sym (filter-no_more test n fails));
          }
    ]
