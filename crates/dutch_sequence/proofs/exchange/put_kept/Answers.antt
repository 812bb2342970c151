use Rattle.std.proofs.Common.{◌≡◌, ℕ, suc, ◌+◌, ◌-◌, ◌<◌, Bool, true, false, cond, not, List, [], ◌∷◌, ◌++◌, map, reverse, length, refl, sym, ◌∙◌, ap, arith, slice_index}
use Rattle.std.specs.List.{filter}
use Rattle.dutch_sequence.specs.Prelude.{is_member, numbers_from, value_of}
use Rattle.std.proofs.lemmas.List.{reverse-append}
use Rattle.std.proofs.lemmas.Bool.{not_from_true, not_from_false}
use Rattle.dutch_sequence.specs.declared.exchange.Side.TheVariants.{Out}
use Rattle.dutch_sequence.proofs.exchange.put_kept.Goals as goal
use Rattle.dutch_sequence.proofs.exchange.put_kept.Goals.{then-not-contains, else-not-contains}

-- the numbers kept so far, lowest first
so_far : (ℕ → ℕ) → (ℕ → Bool) → ℕ → ℕ → List ℕ
so_far value test first count = reverse (map value (filter test (numbers_from first count)))

-- one number more
more : (value : ℕ → ℕ) (test : ℕ → Bool) (k position : ℕ) → position < k → so_far value test (k - (position + 1)) (position + 1) ≡ cond (test (k - 1 - position)) (so_far value test (k - position) position ++ value (k - 1 - position) ∷ []) (so_far value test (k - position) position)
unfolding so_far
more value test k position h =
    ap (λ n. reverse (map value (filter test (numbers_from (k - (position + 1)) n)))) (let e : position + 1 ≡ suc position = omega arith in e)
    ∙ ap (λ n. reverse (map value (filter test (n ∷ numbers_from (suc n) position)))) (let e : k - (position + 1) ≡ k - 1 - position = omega arith in e)
    ∙ ap (λ n. reverse (map value (filter test ((k - 1 - position) ∷ numbers_from n position)))) (let e : suc (k - 1 - position) ≡ k - position = omega arith in e)
    ∙ elim (test (k - 1 - position)) as (λ b. reverse (map value (cond b ((k - 1 - position) ∷ filter test (numbers_from (k - position) position)) (filter test (numbers_from (k - position) position)))) ≡ cond b (reverse (map value (filter test (numbers_from (k - position) position))) ++ value (k - 1 - position) ∷ []) (reverse (map value (filter test (numbers_from (k - position) position))))) [
      | true ↦ reverse-append (value (k - 1 - position) ∷ []) (map value (filter test (numbers_from (k - position) position)))
      | false ↦ refl
    ]

pub loop-position-preserved : goal.loop-position-preserved
unfolding so_far
loop-position-preserved c =
    let value : ℕ → ℕ = value_of c.args.sides.now.pool.now c.args.sides.now.k Out in
    let test : ℕ → Bool = λ place. not (is_member place c.args.outs.now) in
    let position : ℕ = c.loop-position.position in
    let step = more value test c.args.sides.now.k position (omega arith) in
    let number : value (c.args.sides.now.k - 1 - position) ≡ slice_index c.args.sides.now.pool.now position =
    ap (slice_index c.args.sides.now.pool.now) (let e : c.args.sides.now.k - 1 - (c.args.sides.now.k - 1 - position) ≡ position = omega arith in e) in
    let old : List ℕ = so_far value test (c.args.sides.now.k - position) position in
    elim c.if-not-contains.branch [
      | then-not-contains w ↦
          let passed : test (c.args.sides.now.k - 1 - position) ≡ true = not_from_false _ (sym c.contains.ensures.value ∙ w.if-not-contains.true) in
          record {
            items = ap (λ v. v.items) w.numbers-is ∙ w.push.ensures.items
                ∙ ap (λ xs. xs ++ slice_index c.args.sides.now.pool.now position ∷ []) c.loop-position.invariant.items
                ∙ ap (λ x. old ++ x ∷ []) (sym number)
                ∙ sym (step ∙ ap (λ b. cond b (old ++ value (c.args.sides.now.k - 1 - position) ∷ []) old) passed);
            fits = omega (arith, ap (λ v. length v.items) w.numbers-is, w.push.ensures.len, c.loop-position.invariant.fits);
          }
      | else-not-contains w ↦
          let failed : test (c.args.sides.now.k - 1 - position) ≡ false = not_from_true _ (sym c.contains.ensures.value ∙ w.if-not-contains.false) in
          record {
            items = ap (λ v. v.items) w.numbers-is ∙ c.loop-position.invariant.items
                ∙ sym (step ∙ ap (λ b. cond b (old ++ value (c.args.sides.now.k - 1 - position) ∷ []) old) failed);
            fits = omega (arith, ap (λ v. length v.items) w.numbers-is, c.loop-position.invariant.fits);
          }
    ]
