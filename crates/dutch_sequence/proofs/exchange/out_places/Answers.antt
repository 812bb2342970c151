use Rattle.std.proofs.Common.{◌≡◌, ◌<◌, ℕ, Bool, true, false, not, [], ◌∷◌, ◌++◌, length, sym, ◌∙◌, ap, arith, subst}
use Rattle.std.specs.List.{AllByRecursion}
use Rattle.std.proofs.lemmas.Bool.{not_from_true, not_from_false}
use Rattle.dutch_sequence.specs.Prelude.{is_member, value_of}
use Rattle.dutch_sequence.specs.declared.exchange.Side.TheVariants.{Out}
use Rattle.dutch_sequence.proofs.Members.{filter-more, filter-no_more, within-push}
use Rattle.dutch_sequence.proofs.exchange.out_places.Goals as goal
use Rattle.dutch_sequence.proofs.exchange.out_places.Goals.{then-not-contains, else-not-contains}

pub loop-place-preserved : goal.loop-place-preserved
loop-place-preserved c =
    let test : ℕ → Bool = λ place. not (is_member (value_of c.args.sides.now.pool.now c.args.sides.now.k Out place) c.args.set.now) in
    let n : ℕ = c.loop-place.place in
    let old = c.loop-place.invariant in
    elim c.if-not-contains.branch [
      | then-not-contains w ↦
          let passes : test n ≡ true = not_from_false _ (sym c.contains.ensures.value ∙ w.if-not-contains.true) in
          let is = ap (λ v. v.items) w.places-is ∙ w.push.ensures.items in
          record {
            so_far = is ∙ ap (λ xs. xs ++ n ∷ []) old.so_far ∙ sym (filter-more test n passes);
            within = subst (AllByRecursion (λ place. place < c.args.sides.now.k)) (sym is) (within-push c.args.sides.now.k n c.loop-place.places.items (omega arith) old.within);
            fits = omega (arith, ap (λ v. length v.items) w.places-is, w.push.ensures.len, old.fits);
          }
      | else-not-contains w ↦
          let fails : test n ≡ false = not_from_true _ (sym c.contains.ensures.value ∙ w.if-not-contains.false) in
          record {
            so_far = ap (λ v. v.items) w.places-is ∙ old.so_far ∙ sym (filter-no_more test n fails);
            within = subst (AllByRecursion (λ place. place < c.args.sides.now.k)) (sym (ap (λ v. v.items) w.places-is)) old.within;
            fits = omega (arith, ap (λ v. length v.items) w.places-is, old.fits);
          }
    ]
