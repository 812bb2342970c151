-- Two downfloaters of a candidate who may meet, not both moved down, make a candidate with one pair more (C.04.3 C.5).
use Rattle.std.proofs.Common.{◌≡◌, ℕ, ◌+◌, ◌<◌, ◌≤◌, Bool, true, false, not, ◌||◌, List, [], ◌∷◌, ◌++◌, length, refl, sym, ap, ◌∙◌, arith, subst, inl, inr, ◌⊎◌}
use Rattle.std.specs.List.{AllByRecursion}
use Rattle.std.proofs.lemmas.Bool.{and_parts, and_from}
use Rattle.dutch_arrangements.specs.declared.bracket.Shape.{Shape}
use Rattle.dutch_arrangements.specs.Prelude.{all_meet, HasArrangement, HasOneMore, TakesPair, by_place, pairs_by_number, players_in, IsIn, Arrangement, Fits, Frame, arrangements, down, is_legal, leaves_one, paired, players_of}
use Rattle.dutch_listing.proofs.FormArrangements.{form-arrangement, lists-in, paired-pairs, pairs-paired}
use Rattle.dutch_listing.proofs.FormInsertions.{all-inserted, inserted-players, players-inserted, takes-pair}
use Rattle.dutch_arrangements.proofs.NoneTwice.{in-left, left-in}
use Rattle.dutch_sequence.proofs.Skipping.{all-behind}
use Rattle.dutch_bracket.proofs.AllLemmas.{all_join}
use Rattle.dutch_candidates.proofs.MateLists.{fits_arrangement}
use Rattle.dutch_rounds.proofs.WalkLemmas.{all_front}
use Rattle.dutch_bracket.specs.Prelude.{IsGreater}

module _ (meets : ℕ → ℕ → Bool) where
  -- the two of a pair may meet
  abbrev Meet : ℕ × ℕ → Type 0
  Meet pair = meets pair.0 pair.1 ≡ true

  meet_by_place : (xs ys : List ℕ) → all_meet meets xs ys ≡ true → AllByRecursion Meet (by_place xs ys)
  meet_by_place [] ys h = tt
  meet_by_place (x ∷ xs) [] h = tt
  meet_by_place (x ∷ xs) (y ∷ ys) h = let both = and_parts (meets x y) (all_meet meets xs ys) h in (both.0, meet_by_place xs ys both.1)

  by_place_meet : (xs ys : List ℕ) → AllByRecursion Meet (by_place xs ys) → all_meet meets xs ys ≡ true
  by_place_meet [] ys h = refl
  by_place_meet (x ∷ xs) [] h = refl
  by_place_meet (x ∷ xs) (y ∷ ys) h = and_from (meets x y) (all_meet meets xs ys) h.0 (by_place_meet xs ys h.1)

  module _ (may_be_left : ℕ → Bool) (frame : Frame) (not_last : frame.last ≡ false) where
    legal_pairs : (a : Arrangement) → is_legal meets may_be_left frame a ≡ true → AllByRecursion Meet (pairs_by_number a)
    legal_pairs a h =
        let both = and_parts (all_meet meets a.s1 a.s2) _ h in
        let rest = and_parts (all_meet meets a.s1r a.s2r) (not frame.last || leaves_one may_be_left (down frame a)) both.1 in
        all_join Meet (by_place a.s1 a.s2) (by_place a.s1r a.s2r) (meet_by_place a.s1 a.s2 both.0) (meet_by_place a.s1r a.s2r rest.0)

    pub pairs_legal : (a : Arrangement) → AllByRecursion Meet (pairs_by_number a) → is_legal meets may_be_left frame a ≡ true
    pairs_legal a h =
        and_from (all_meet meets a.s1 a.s2) _ (by_place_meet a.s1 a.s2 (all_front Meet (by_place a.s1 a.s2) (by_place a.s1r a.s2r) h))
        (and_from (all_meet meets a.s1r a.s2r) (not frame.last || leaves_one may_be_left (down frame a))
        (by_place_meet a.s1r a.s2r (all-behind Meet (by_place a.s1 a.s2) (by_place a.s1r a.s2r) h))
        (ap (λ t. not t || leaves_one may_be_left (down frame a)) not_last))

    -- an arrangement with a pair more
    pub record Larger (shape : Shape) (a : Arrangement) (x y : ℕ) : Type 0 where
      pub larger : Shape
      pub lists : Arrangement
      pub greater : IsGreater larger shape
      pub fits : Fits frame larger
      pub arranged : IsIn lists (arrangements frame larger)
      pub legal : is_legal meets may_be_left frame lists ≡ true
      pub still_down : (z : ℕ) → IsIn z (down frame lists) → IsIn z (down frame a) × (z ≡ x → ⊥) × (z ≡ y → ⊥)
      pub down_still : (z : ℕ) → IsIn z (down frame a) → (z ≡ x → ⊥) → (z ≡ y → ⊥) → IsIn z (down frame lists)

    module _ (within : frame.mdps ≤ length frame.scores) (shape : Shape) (a : Arrangement) (x y : ℕ) (fewer : shape.mdps ≤ shape.pairs)
        (inside : IsIn a (arrangements frame shape)) (legal : is_legal meets may_be_left frame a ≡ true)
        (x_down : IsIn x (down frame a)) (y_down : IsIn y (down frame a)) (rises : x < y) (resident : frame.mdps < y) (may : meets x y ≡ true) where
      taken : TakesPair frame shape a (x, y)
      taken = takes-pair frame shape a x y within fewer inside x_down y_down rises resident

      made : HasArrangement frame taken.larger taken.pairs
      made = form-arrangement frame taken.larger taken.pairs within taken.in_form

      still_fewer : (s t : Shape) → HasOneMore s t → s.mdps ≤ s.pairs → t.mdps ≤ t.pairs
      still_fewer s t more h = let p : t.pairs ≡ s.pairs + 1 = more.pairs in elim more.mdps [ inl same ↦ omega (arith, same, p, h) | inr one ↦ omega (arith, one, p, h) ]

      front : List (ℕ × ℕ)
      front = taken.inserted.front

      behind : List (ℕ × ℕ)
      behind = taken.inserted.behind

      all_paired : (z : ℕ) → IsIn z (paired made.lists) → ((z ≡ x) ⊎ (z ≡ y)) ⊎ IsIn z (paired a)
      unfolding front behind
      all_paired z m =
          let own = paired-pairs frame taken.larger made.lists within (lists-in frame taken.larger made.lists within made.inside) z m in
          elim (players-inserted z (x, y) front behind (subst (λ ps. IsIn z (players_in ps)) (made.same ∙ taken.inserted.after) own)) [
            | inl here ↦ inl here
            | inr old ↦
                inr (pairs-paired frame shape a within (lists-in frame shape a within inside) z (subst (λ ps. IsIn z (players_in ps)) (sym taken.inserted.before) old))
          ]

      still_paired : (z : ℕ) → ((z ≡ x) ⊎ (z ≡ y)) ⊎ IsIn z (paired a) → IsIn z (paired made.lists)
      unfolding front behind
      still_paired z m =
          let old : ((z ≡ x) ⊎ (z ≡ y)) ⊎ IsIn z (players_in (front ++ behind)) = elim m [
            | inl here ↦ inl here
            | inr other ↦
                inr (subst (λ ps. IsIn z (players_in ps)) taken.inserted.before (paired-pairs frame shape a within (lists-in frame shape a within inside) z other))
          ] in
          pairs-paired frame taken.larger made.lists within (lists-in frame taken.larger made.lists within made.inside) z
          (subst (λ ps. IsIn z (players_in ps)) (sym (made.same ∙ taken.inserted.after)) (inserted-players z (x, y) front behind old))

      pub one_larger : Larger shape a x y
      unfolding front behind
      one_larger = record {
        larger = taken.larger;
        lists = made.lists;
        greater = inl (let p : taken.larger.pairs ≡ shape.pairs + 1 = taken.one_more.pairs in omega (arith, p));
        fits = fits_arrangement frame taken.larger made.lists within (still_fewer shape taken.larger taken.one_more fewer) made.inside;
        arranged = made.inside;
        legal = pairs_legal made.lists
            (subst (AllByRecursion Meet) (sym (made.same ∙ taken.inserted.after))
            (all-inserted Meet (x, y) front behind may (subst (AllByRecursion Meet) taken.inserted.before (legal_pairs a legal))));
        still_down = λ z m.
            let off = in-left z (players_of frame) (paired made.lists) m in (
              left-in z (players_of frame) (paired a) off.0 (λ n. off.1 (still_paired z (inr n))),
              λ e. off.1 (still_paired z (inl (inl e))),
              λ e. off.1 (still_paired z (inl (inr e))),
            );
        down_still = λ z m ne ne'.
            let off = in-left z (players_of frame) (paired a) m in
            left-in z (players_of frame) (paired made.lists) off.0 (λ n. elim (all_paired z n) [
              | inl (inl e) ↦ ne e
              | inl (inr e) ↦ ne' e
              | inr other ↦ off.1 other
            ]);
      }
