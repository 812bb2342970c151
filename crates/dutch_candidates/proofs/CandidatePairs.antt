-- Who stands in which list of a candidate, and what its pairs are by place (C.04.3 B.2, B.3).
use Rattle.std.proofs.Common.{◌≡◌, ℕ, ◌+◌, ◌<◌, ◌≤◌, Bool, true, false, nat_le, List, [], ◌∷◌, ◌++◌, All, length, sum_by, inl, inr, refl, sym, ap, ◌∙◌, arith}
use Rattle.std.proofs.lemmas.Bool.{and_parts, le-leb}
use Rattle.std.proofs.lemmas.Bool.Decides.{nat_tests}
use Rattle.std.proofs.lemmas.List.{length-map}
use Rattle.std.proofs.lemmas.List.Elements.{All-cons}
use Rattle.std.proofs.lemmas.List.Sums.{sum_by-cons}
use Rattle.dual.specs.Prelude.{in_both}
use Rattle.dutch_arrangements.specs.declared.bracket.Shape.{Shape}
use Rattle.dutch_arrangements.specs.Prelude.{numbers_from, all_meet, IsIn, by_place, IsMovedDown, IsResident, Frame, Arrangement, residents_of, left_of}
use Rattle.dutch_arrangements.proofs.CursorSets.{AreLists}
use Rattle.dutch_listing.proofs.FormArrangements.{lists-in, in-moved_down, in-residents}
use Rattle.dutch_sequence.proofs.Members.{numbers-append}
use Rattle.dutch_arrangements.proofs.NoneTwice.{in-left}
use Rattle.dutch_player.specs.Prelude.{Facts}
use Rattle.dutch_bracket.specs.Prelude.{Reached, frame_of, score_at}
use Rattle.dutch_bracket.proofs.LegalPairs.{IsArranged}
use Rattle.dutch_bracket.proofs.Totals.{total, total_append}

-- ---- sums

pub numbers_total : (w : ℕ → ℕ) (first more count : ℕ) → total w (numbers_from first (more + count)) ≡ total w (numbers_from first more) + total w (numbers_from (first + more) count)
numbers_total w first more count =
    ap (total w) (numbers-append first more count) ∙ total_append w (numbers_from first more) (numbers_from (first + more) count)

-- the players of two lists, place by place
pub places_total : (w : ℕ → ℕ) (firsts seconds : List ℕ) → length firsts ≡ length seconds → sum_by (in_both w) (by_place firsts seconds) ≡ total w firsts + total w seconds
places_total w [] [] e = refl
places_total w [] (b ∷ seconds) e = absurd (omega (arith, e))
places_total w (a ∷ firsts) [] e = absurd (omega (arith, e))
places_total w (a ∷ firsts) (b ∷ seconds) e =
    omega (arith, sum_by-cons (in_both w) (a, b) (by_place firsts seconds), places_total w firsts seconds (omega (arith, e)))

-- pairs of two lists whose players meet, before others
pub all_onto : (P : ℕ × ℕ → Type 0) (meets : ℕ → ℕ → Bool) (A B : ℕ → Type 0) → ((x y : ℕ) → A x → B y → meets x y ≡ true → P (x, y))
    → (firsts seconds : List ℕ) → ((z : ℕ) → IsIn z firsts → A z) → ((z : ℕ) → IsIn z seconds → B z) → all_meet meets firsts seconds ≡ true
    → (rest : List (ℕ × ℕ)) → All P rest → All P (by_place firsts seconds ++ rest)
all_onto P meets A B each [] seconds as' bs meet rest all = all
all_onto P meets A B each (a ∷ firsts) [] as' bs meet rest all = all
all_onto P meets A B each (a ∷ firsts) (b ∷ seconds) as' bs meet rest all =
    let parts = and_parts (meets a b) (all_meet meets firsts seconds) meet in
    All-cons P (a, b) (by_place firsts seconds ++ rest) (each a b (as' a (inl refl)) (bs b (inl refl)) parts.0)
    (all_onto P meets A B each firsts seconds (λ z m. as' z (inr m)) (λ z m. bs z (inr m)) parts.1 rest all)

pub low : (a q : ℕ) → a ≤ q → nat_le a q ≡ true
low a q h = le-leb a q h

pub high : (a q : ℕ) → q < a → nat_le a q ≡ false
high a q h = grind (arith, nat_tests)

-- ---- the pairs of an arrangement

module _ (facts : Facts) (reached : Reached) (shape : Shape) (a : Arrangement) (within : reached.mdps ≤ length reached.seats) (legal : IsArranged facts reached shape a) where
  abbrev frame : Frame
  frame = frame_of facts reached

  abbrev n : ℕ
  n = length reached.seats

  count : length frame.scores ≡ n
  count = length-map reached.seats (score_at facts)

  inside : frame.mdps ≤ length frame.scores
  inside = omega (arith, within, count)

  pub lists : AreLists frame shape a
  lists = lists-in frame shape a inside legal.arranged

  pub first_count : length a.s1 ≡ length a.s2
  first_count = lists.s1.count ∙ sym lists.s2.count

  pub other_count : length a.s1r ≡ length a.s2r
  other_count = lists.s1r.count ∙ sym lists.s2r.count

  pub s1_low : (z : ℕ) → IsIn z a.s1 → IsMovedDown frame z
  s1_low z m = in-moved_down frame z (lists.s1.within z m)

  pub s2_high : (z : ℕ) → IsIn z a.s2 → IsResident frame z
  s2_high z m = in-residents frame z inside (lists.s2.within z m)

  pub s1r_high : (z : ℕ) → IsIn z a.s1r → IsResident frame z
  s1r_high z m = in-residents frame z inside (in-left z (residents_of frame) a.s2 (lists.s1r.within z m)).0

  pub s2r_high : (z : ℕ) → IsIn z a.s2r → IsResident frame z
  s2r_high z m =
      in-residents frame z inside (in-left z (residents_of frame) a.s2 (in-left z (left_of (residents_of frame) a.s2) a.s1r (lists.s2r.within z m)).0).0
