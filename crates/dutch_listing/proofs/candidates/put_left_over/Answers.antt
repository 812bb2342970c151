use Rattle.std.proofs.Common.{◌≡◌, ◌+◌, ◌∷◌, ◌++◌, [], ℕ, Bool, true, false, cond, length, ◌∙◌, ap, sym, not, arith}
use Rattle.std.specs.List.{filter}
use Rattle.std.proofs.lemmas.Bool.{not_from_true, not_from_false}
use Rattle.std.proofs.lemmas.List.{append-nil}
use Rattle.std.proofs.lemmas.List.Elements.{filter-append}
use Rattle.dutch_arrangements.specs.Prelude.{is_member, numbers_from, Arrangement, left_of, paired}
use Rattle.dutch_sequence.proofs.Counts.{member-four}
use Rattle.dutch_sequence.proofs.Members.{numbers-append}
use Rattle.dutch_listing.proofs.candidates.put_left_over.Goals as goal
use Rattle.dutch_listing.proofs.candidates.put_left_over.Goals.{then-not-is_paired, else-not-is_paired}

pub loop-place-preserved : goal.loop-place-preserved
loop-place-preserved c =
    let a : Arrangement = c.args.lists.now in
    let place = c.loop-place.place in
    let test : ℕ → Bool = λ x. not (is_member x (paired a)) in
    let next : ℕ = 1 + place in
    let old = c.loop-place.invariant in
    let more : filter test (numbers_from 1 (place + 1)) ≡ filter test (numbers_from 1 place) ++ cond (test next) (next ∷ []) [] =
    ap (filter test) (numbers-append 1 place 1) ∙ filter-append test (numbers_from 1 place) (next ∷ []) in
    let asked : c.is_paired.result ≡ is_member next (paired a) = c.is_paired.ensures ∙ sym (member-four next a.s1 a.s2 a.s1r a.s2r) in
    elim c.if-not-is_paired.branch [
      | then-not-is_paired w ↦
          let passes : test next ≡ true = not_from_false _ (sym asked ∙ w.if-not-is_paired.true) in
          record {
            items = ap (λ v. v.items) w.left-is ∙ w.push.ensures.items ∙ ap (λ xs. xs ++ next ∷ []) old.items
                ∙ sym (more ∙ ap (λ b. left_of (numbers_from 1 place) (paired a) ++ cond b (next ∷ []) []) passes);
            fits = omega (arith, ap (λ v. length v.items) w.left-is, w.push.ensures.len, old.fits);
          }
      | else-not-is_paired w ↦
          let fails : test next ≡ false = not_from_true _ (sym asked ∙ w.if-not-is_paired.false) in
          record {
            items = ap (λ v. v.items) w.left-is ∙ old.items
                ∙ sym (more ∙ ap (λ b. left_of (numbers_from 1 place) (paired a) ++ cond b (next ∷ []) []) fails ∙ append-nil (left_of (numbers_from 1 place) (paired a)));
            fits = omega (arith, ap (λ v. length v.items) w.left-is, old.fits);
          }
    ]
