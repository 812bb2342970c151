-- The next lower scoregroup is the front of the lower seats with one score.
use Rattle.std.proofs.Common.{◌≡◌, ℕ, zero, suc, ◌<◌, Bool, true, false, ◌==◌, cond, List, [], ◌∷◌, length, take, get_or, refl, sym, ap, ◌∙◌, subst, arith}
use Rattle.std.proofs.lemmas.List.{length-take}
use Rattle.std.proofs.lemmas.Bool.{eqb-true}
use Rattle.dutch_arrangements.specs.Prelude.{down, Candidate}
use Rattle.dutch_player.specs.Prelude.{Facts}
use Rattle.dutch_bracket.specs.Prelude.{score_at, Reached, IsAbove, frame_of, Quality, front_with, first_group, scoregroups, quality_of, IsNext, quality}
use Rattle.dutch_bracket.proofs.GroupLemmas.{first_group_is}

-- the seat at a place of a front has the score, and is that at the same place of all
abbrev pub IsAt : Facts → ℕ → List ℕ → List ℕ → ℕ → Type 0
IsAt facts score front xs i = (score_at facts (get_or front i 0) ≡ score) × (i < length xs) × (get_or front i 0 ≡ get_or xs i 0)

module _ (facts : Facts) where
  front_at : (score x : ℕ) (xs : List ℕ) (i : ℕ) (t : Bool) → (score_at facts x == score) ≡ t
      → ((j : ℕ) → j < length (take (front_with facts score xs) xs) → IsAt facts score (take (front_with facts score xs) xs) xs j)
      → i < length (take (cond t (suc (front_with facts score xs)) 0) (x ∷ xs)) → IsAt facts score (take (cond t (suc (front_with facts score xs)) 0) (x ∷ xs)) (x ∷ xs) i
  front_at score x xs i false e rest h = let bad : ⊥ = omega (arith, h) in absurd bad
  front_at score x xs zero true e rest h = (eqb-true (score_at facts x) score e, omega arith, refl)
  front_at score x xs (suc i) true e rest h =
      let later = rest i (omega (arith, h)) in
      (later.0, omega (arith, later.1), later.2)

  at_front : (score : ℕ) (xs : List ℕ) (i : ℕ) → i < length (take (front_with facts score xs) xs) → IsAt facts score (take (front_with facts score xs) xs) xs i
  at_front score [] i h = let bad : ⊥ = omega (arith, h) in absurd bad
  at_front score (x ∷ xs) i h = front_at score x xs i (score_at facts x == score) refl (λ j g. at_front score xs j g) h

  -- the seats of one score at the front of some
  abbrev pub group_of : ℕ → List ℕ → List ℕ
  group_of x xs = x ∷ take (front_with facts (score_at facts x) xs) xs

  group_at : (x : ℕ) (xs : List ℕ) (i : ℕ) → i < length (group_of x xs) → IsAt facts (score_at facts x) (group_of x xs) (x ∷ xs) i
  group_at x xs zero h = (refl, omega arith, refl)
  group_at x xs (suc i) h =
      let later = at_front (score_at facts x) xs i (omega (arith, h)) in
      (later.0, omega (arith, later.1), later.2)

  group_is_next : (reached : Reached) (x : ℕ) (xs : List ℕ) → IsAbove facts reached (x ∷ xs) → IsNext facts reached (group_of x xs)
  group_is_next reached x xs above = record {
    inside = λ i h.
        let p = group_at x xs i h in
        omega (arith, p.2, above.inside i p.1);
    few =
        let n = front_with facts (score_at facts x) xs in
        omega (arith, length-take n xs, above.few);
    same = λ i j h g. (group_at x xs i h).0 ∙ sym (group_at x xs j g).0;
    below = λ i j h g.
        let p = group_at x xs j g in
        omega (arith, ap (score_at facts) p.2, above.below i j h p.1);
    there = λ k. omega arith;
  }

  none_is_next : (reached : Reached) → IsAbove facts reached [] → IsNext facts reached []
  none_is_next reached above = record {
    inside = λ i h. let bad : ⊥ = omega (arith, h) in absurd bad;
    few = above.few;
    same = λ i j h g. let bad : ⊥ = omega (arith, h) in absurd bad;
    below = λ i j h g. let bad : ⊥ = omega (arith, g) in absurd bad;
    there = above.there;
  }

  pub first_is_next : (reached : Reached) (lower : List ℕ) → IsAbove facts reached lower → IsNext facts reached (first_group facts (scoregroups facts lower))
  first_is_next reached [] above = none_is_next reached above
  first_is_next reached (x ∷ xs) above =
      subst (λ groups. IsNext facts reached (first_group facts groups)) (sym (first_group_is facts x xs)) (group_is_next reached x xs above)

  -- the first scoregroup of the lower seats is the next one
  pub is_next : (reached : Reached) (lower next : List ℕ) → next ≡ first_group facts (scoregroups facts lower) → IsAbove facts reached lower → IsNext facts reached next
  is_next reached lower next e above = subst (λ group. IsNext facts reached group) (sym e) (first_is_next reached lower above)

  -- the quality of a candidate, by its lists
  pub quality_at : (reached : Reached) (lower next : List ℕ) (candidate : Candidate) (found : Quality) → next ≡ first_group facts (scoregroups facts lower)
      → candidate.down ≡ down (frame_of facts reached) candidate.lists → found ≡ quality facts reached next candidate
      → found ≡ quality_of facts reached lower candidate.lists
  unfolding quality_of
  quality_at reached lower next candidate found e left h =
      h ∙ ap (λ group. quality facts reached group candidate) e
      ∙ ap (λ down. quality facts reached (first_group facts (scoregroups facts lower)) (record { lists = candidate.lists; down = down })) left
