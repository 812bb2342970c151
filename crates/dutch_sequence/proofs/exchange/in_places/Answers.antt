use Rattle.std.proofs.Common.{◌≡◌, ◌<◌, ◌-◌, ℕ, Bool, true, false, [], ◌∷◌, ◌++◌, length, sym, ◌∙◌, ap, arith, subst}
use Rattle.std.specs.List.{AllByRecursion}
use Rattle.dutch_sequence.specs.Prelude.{is_member, value_of}
use Rattle.dutch_sequence.specs.declared.exchange.Side.TheVariants.{In}
use Rattle.dutch_sequence.proofs.Members.{filter-more, filter-no_more, within-push}
use Rattle.dutch_sequence.proofs.exchange.in_places.Goals as goal
use Rattle.dutch_sequence.proofs.exchange.in_places.Goals.{then-contains, else-contains}

pub loop-place-preserved : goal.loop-place-preserved
loop-place-preserved c =
    let test : ℕ → Bool = λ place. is_member (value_of c.args.sides.now.pool.now c.args.sides.now.k In place) c.args.set.now in
    let n : ℕ = c.loop-place.place in
    let old = c.loop-place.invariant in
    elim c.if-contains.branch [
      | then-contains w ↦
          let passes : test n ≡ true = sym c.contains.ensures.value ∙ w.if-contains.true in
          let is = ap (λ v. v.items) w.places-is ∙ w.push.ensures.items in
          record {
            so_far = is ∙ ap (λ xs. xs ++ n ∷ []) old.so_far ∙ sym (filter-more test n passes);
            within = subst (AllByRecursion (λ place. place < (length c.args.sides.now.pool.now - c.args.sides.now.k))) (sym is) (within-push (length c.args.sides.now.pool.now - c.args.sides.now.k) n c.loop-place.places.items (omega arith) old.within);
            fits = omega (arith, ap (λ v. length v.items) w.places-is, w.push.ensures.len, old.fits);
          }
      | else-contains w ↦
          let fails : test n ≡ false = sym c.contains.ensures.value ∙ w.if-contains.false in
          record {
            so_far = ap (λ v. v.items) w.places-is ∙ old.so_far ∙ sym (filter-no_more test n fails);
            within = subst (AllByRecursion (λ place. place < (length c.args.sides.now.pool.now - c.args.sides.now.k))) (sym (ap (λ v. v.items) w.places-is)) old.within;
            fits = omega (arith, ap (λ v. length v.items) w.places-is, old.fits);
          }
    ]
