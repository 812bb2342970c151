-- Pairs in form are those of an arrangement, and the pairs of each arrangement are in form.
use Rattle.std.proofs.Common.{◌≡◌, ℕ, ◌+◌, ◌-◌, ◌≤◌, List, [], ◌∷◌, ◌++◌, map, length, refl, sym, ap, ◌∙◌, arith, subst, inl, inr, ◌⊎◌, length-append}
use Rattle.std.specs.List.{AllByRecursion}
use Rattle.std.proofs.lemmas.List.{length-map}
use Rattle.dutch_arrangements.specs.declared.bracket.Shape.{Shape}
use Rattle.dutch_arrangements.specs.Prelude.{IsIn, Frame, Arrangement, arrangements, residents_of, left_of, remainder_pairs, paired, moved_down_of, by_place, pairs_by_number, players_in, NoneTwice, IsMovedDown, IsResident, IsInForm, HasArrangement}
use Rattle.dutch_sequence.proofs.Orders.{all_members, IsIn-append, IsIn-front, IsIn-back}
use Rattle.dutch_arrangements.proofs.CursorSets.{AreLists, lists-are, numbers-within}
use Rattle.dutch_arrangements.proofs.CursorArrangements.{of-in, in-of, are-lists}
use Rattle.dutch_arrangements.proofs.NoneTwice.{different-twice, twice-different, rises-twice, twice-join, twice-front, twice-back, twice-apart, left-in, in-left, players-append, first-in, second-in, seconds-twice, halves-apart, firsts-rise, places-are, places-count, place-in, in-place, places-twice, places-all, places-ascend}
use Rattle.dutch_sequence.proofs.FoundPaths.{in-numbers}

-- the lists of an arrangement, as sets and tuples
pub lists-in : (frame : Frame) (shape : Shape) (a : Arrangement) → frame.mdps ≤ length frame.scores → IsIn a (arrangements frame shape) → AreLists frame shape a
lists-in frame shape a within m = lists-are frame shape a (in-of frame shape a within m)

pub in-lists : (frame : Frame) (shape : Shape) (a : Arrangement) → frame.mdps ≤ length frame.scores → AreLists frame shape a → IsIn a (arrangements frame shape)
in-lists frame shape a within are = of-in frame shape a within (are-lists frame shape a are)

pub moved_down-in : (frame : Frame) (z : ℕ) → IsMovedDown frame z → IsIn z (moved_down_of frame)
moved_down-in frame z h = in-numbers z 1 frame.mdps (omega (arith, h.0)) (omega (arith, h.1))

pub in-moved_down : (frame : Frame) (z : ℕ) → IsIn z (moved_down_of frame) → IsMovedDown frame z
in-moved_down frame z m = let h = numbers-within 1 frame.mdps z m in (omega (arith, h.0), omega (arith, h.1))

pub resident-in : (frame : Frame) (z : ℕ) → IsResident frame z → IsIn z (residents_of frame)
resident-in frame z h =
    in-numbers z (frame.mdps + 1) (length frame.scores - frame.mdps) (omega (arith, h.0)) (omega (arith, h.0, h.1))

pub in-residents : (frame : Frame) (z : ℕ) → frame.mdps ≤ length frame.scores → IsIn z (residents_of frame) → IsResident frame z
in-residents frame z within m =
    let h = numbers-within (frame.mdps + 1) (length frame.scores - frame.mdps) z m in (omega (arith, h.0), omega (arith, h.1, within))

-- who is first, and who is second, of pairs of which something holds
firsts-of : (P : ℕ → Type 0) (Q : ℕ → Type 0) (pairs : List (ℕ × ℕ)) → AllByRecursion (λ (pair : ℕ × ℕ). P pair.0 × Q pair.1) pairs → (z : ℕ) → IsIn z (map (λ (p : ℕ × ℕ). p.0) pairs) → P z
firsts-of P Q [] all z m = absurd m
firsts-of P Q (p ∷ pairs) all z (inl same) = subst P (sym same) all.0.0
firsts-of P Q (p ∷ pairs) all z (inr m) = firsts-of P Q pairs all.1 z m

seconds-of : (P : ℕ → Type 0) (Q : ℕ → Type 0) (pairs : List (ℕ × ℕ)) → AllByRecursion (λ (pair : ℕ × ℕ). P pair.0 × Q pair.1) pairs → (z : ℕ) → IsIn z (map (λ (p : ℕ × ℕ). p.1) pairs) → Q z
seconds-of P Q [] all z m = absurd m
seconds-of P Q (p ∷ pairs) all z (inl same) = subst Q (sym same) all.0.1
seconds-of P Q (p ∷ pairs) all z (inr m) = seconds-of P Q pairs all.1 z m

module _ (frame : Frame) (shape : Shape) (pairs : List (ℕ × ℕ)) (form : IsInForm frame shape pairs) where
  abbrev front : List (ℕ × ℕ)
  front = form.moved_down

  abbrev others : List (ℕ × ℕ)
  others = form.others

  abbrev firsts : List (ℕ × ℕ) → List ℕ
  firsts ps = map (λ (p : ℕ × ℕ). p.0) ps

  abbrev seconds : List (ℕ × ℕ) → List ℕ
  seconds ps = map (λ (p : ℕ × ℕ). p.1) ps

  -- the four lists that the pairs are
  abbrev four : Arrangement
  four = record { s1 = firsts front; s2 = seconds front; s1r = firsts others; s2r = seconds others }

  both_twice : NoneTwice (players_in front ++ players_in others)
  both_twice = subst NoneTwice (ap players_in form.parts ∙ players-append front others) form.none_twice

  front_twice : NoneTwice (players_in front)
  front_twice = twice-front (players_in front) (players_in others) both_twice

  others_twice : NoneTwice (players_in others)
  others_twice = twice-back (players_in front) (players_in others) both_twice

  apart : (z : ℕ) → IsIn z (players_in front) → IsIn z (players_in others) → ⊥
  apart = twice-apart (players_in front) (players_in others) both_twice

  other_count : length others ≡ remainder_pairs shape
  other_count = omega (arith, ap length form.parts, length-append front others, form.count, form.moved_down_count)

  -- a resident who is in none of the first pairs
  free : (z : ℕ) → IsResident frame z → IsIn z (players_in others) → IsIn z (left_of (residents_of frame) (seconds front))
  free z of' m = left-in z (residents_of frame) (seconds front) (resident-in frame z of') (λ n. apart z (second-in z front n) m)

  four_lists : AreLists frame shape four
  four_lists = record {
    s1 = record {
      rises = firsts-rise front form.moved_down_ascend;
      within = λ z m. moved_down-in frame z (firsts-of (IsMovedDown frame) (IsResident frame) front form.of_moved_down z m);
      count = length-map front (λ (p : ℕ × ℕ). p.0) ∙ form.moved_down_count;
    };
    s2 = record {
      different = twice-different (seconds front) (seconds-twice front front_twice);
      within = λ z m. resident-in frame z (seconds-of (IsMovedDown frame) (IsResident frame) front form.of_moved_down z m);
      count = length-map front (λ (p : ℕ × ℕ). p.1) ∙ form.moved_down_count;
    };
    s1r = record {
      rises = firsts-rise others form.others_ascend;
      within = λ z m. free z (firsts-of (IsResident frame) (IsResident frame) others form.of_residents z m) (first-in z others m);
      count = length-map others (λ (p : ℕ × ℕ). p.0) ∙ other_count;
    };
    s2r = record {
      different = twice-different (seconds others) (seconds-twice others others_twice);
      within = λ z m. left-in z (left_of (residents_of frame) (seconds front)) (firsts others)
          (free z (seconds-of (IsResident frame) (IsResident frame) others form.of_residents z m) (second-in z others m))
          (λ n. halves-apart others others_twice z n m);
      count = length-map others (λ (p : ℕ × ℕ). p.1) ∙ other_count;
    };
  }

  pub form_arranged : frame.mdps ≤ length frame.scores → HasArrangement frame shape pairs
  form_arranged within = record {
    lists = four;
    inside = in-lists frame shape four within four_lists;
    same = ap (λ ps. ps ++ by_place (firsts others) (seconds others)) (places-are front) ∙ ap (λ ps. front ++ ps) (places-are others) ∙ sym form.parts;
  }

pub form-arrangement : (frame : Frame) (shape : Shape) (pairs : List (ℕ × ℕ)) → frame.mdps ≤ length frame.scores → IsInForm frame shape pairs
    → HasArrangement frame shape pairs
form-arrangement frame shape pairs within form = form_arranged frame shape pairs form within

-- ---- the pairs of an arrangement

module _ (frame : Frame) (shape : Shape) (a : Arrangement) (within : frame.mdps ≤ length frame.scores) (lists : AreLists frame shape a) where
  -- B.3: whom the pairs name, and who is paired
  pub pairs-paired : (z : ℕ) → IsIn z (players_in (pairs_by_number a)) → IsIn z (paired a)
  pairs-paired z m =
      elim (IsIn-append z (players_in (by_place a.s1 a.s2)) (players_in (by_place a.s1r a.s2r)) (subst (IsIn z) (players-append (by_place a.s1 a.s2) (by_place a.s1r a.s2r)) m)) [
        | inl front ↦ elim (place-in z a.s1 a.s2 front) [
          | inl one ↦ IsIn-front z a.s1 (a.s2 ++ (a.s1r ++ a.s2r)) one
          | inr two ↦ IsIn-back z a.s1 (a.s2 ++ (a.s1r ++ a.s2r)) (IsIn-front z a.s2 (a.s1r ++ a.s2r) two)
        ]
        | inr back ↦
            IsIn-back z a.s1 (a.s2 ++ (a.s1r ++ a.s2r)) (IsIn-back z a.s2 (a.s1r ++ a.s2r)
            (elim (place-in z a.s1r a.s2r back) [ inl three ↦ IsIn-front z a.s1r a.s2r three | inr four ↦ IsIn-back z a.s1r a.s2r four ]))
      ]

  first_count : length a.s1 ≡ length a.s2
  first_count = lists.s1.count ∙ sym lists.s2.count

  other_counts : length a.s1r ≡ length a.s2r
  other_counts = lists.s1r.count ∙ sym lists.s2r.count

  in_front : (z : ℕ) → IsIn z a.s1 ⊎ IsIn z a.s2 → IsIn z (players_in (pairs_by_number a))
  in_front z m =
      subst (IsIn z) (sym (players-append (by_place a.s1 a.s2) (by_place a.s1r a.s2r)))
      (IsIn-front z (players_in (by_place a.s1 a.s2)) (players_in (by_place a.s1r a.s2r)) (in-place z a.s1 a.s2 first_count m))

  in_back : (z : ℕ) → IsIn z a.s1r ⊎ IsIn z a.s2r → IsIn z (players_in (pairs_by_number a))
  in_back z m =
      subst (IsIn z) (sym (players-append (by_place a.s1 a.s2) (by_place a.s1r a.s2r)))
      (IsIn-back z (players_in (by_place a.s1 a.s2)) (players_in (by_place a.s1r a.s2r)) (in-place z a.s1r a.s2r other_counts m))

  pub paired-pairs : (z : ℕ) → IsIn z (paired a) → IsIn z (players_in (pairs_by_number a))
  paired-pairs z m =
      elim (IsIn-append z a.s1 (a.s2 ++ (a.s1r ++ a.s2r)) m) [
        | inl one ↦ in_front z (inl one)
        | inr later ↦ elim (IsIn-append z a.s2 (a.s1r ++ a.s2r) later) [
          | inl two ↦ in_front z (inr two)
          | inr rest ↦ in_back z (IsIn-append z a.s1r a.s2r rest)
        ]
      ]

  s2_resident : (z : ℕ) → IsIn z a.s2 → IsResident frame z
  s2_resident z m = in-residents frame z within (lists.s2.within z m)

  s1_moved_down : (z : ℕ) → IsIn z a.s1 → IsMovedDown frame z
  s1_moved_down z m = in-moved_down frame z (lists.s1.within z m)

  s1r_free : (z : ℕ) → IsIn z a.s1r → IsResident frame z × (IsIn z a.s2 → ⊥)
  s1r_free z m =
      let left = in-left z (residents_of frame) a.s2 (lists.s1r.within z m) in (in-residents frame z within left.0, left.1)

  s2r_free : (z : ℕ) → IsIn z a.s2r → (IsResident frame z × (IsIn z a.s2 → ⊥)) × (IsIn z a.s1r → ⊥)
  s2r_free z m =
      let off = in-left z (left_of (residents_of frame) a.s2) a.s1r (lists.s2r.within z m) in
      let left = in-left z (residents_of frame) a.s2 off.0 in
      ((in-residents frame z within left.0, left.1), off.1)

  never_both : (z : ℕ) → IsMovedDown frame z → IsResident frame z → ⊥
  never_both z low high = omega (arith, low.1, high.0)

  halves_apart : (z : ℕ) → IsIn z a.s1 ⊎ IsIn z a.s2 → IsIn z a.s1r ⊎ IsIn z a.s2r → ⊥
  halves_apart z (inl one) (inl three) = never_both z (s1_moved_down z one) (s1r_free z three).0
  halves_apart z (inl one) (inr four) = never_both z (s1_moved_down z one) (s2r_free z four).0.0
  halves_apart z (inr two) (inl three) = (s1r_free z three).1 two
  halves_apart z (inr two) (inr four) = (s2r_free z four).0.1 two

  all_twice : NoneTwice (players_in (pairs_by_number a))
  all_twice =
      subst NoneTwice (sym (players-append (by_place a.s1 a.s2) (by_place a.s1r a.s2r)))
      (twice-join (players_in (by_place a.s1 a.s2)) (players_in (by_place a.s1r a.s2r))
      (places-twice a.s1 a.s2 (rises-twice a.s1 lists.s1.rises) (different-twice a.s2 lists.s2.different)
      (λ z m n. never_both z (s1_moved_down z m) (s2_resident z n)))
      (places-twice a.s1r a.s2r (rises-twice a.s1r lists.s1r.rises) (different-twice a.s2r lists.s2r.different) (λ z m n. (s2r_free z n).1 m))
      (λ z m n. halves_apart z (place-in z a.s1 a.s2 m) (place-in z a.s1r a.s2r n)))

  pub arrangement-form : shape.mdps ≤ shape.pairs → IsInForm frame shape (pairs_by_number a)
  arrangement-form fewer = record {
    moved_down = by_place a.s1 a.s2;
    others = by_place a.s1r a.s2r;
    parts = refl;
    count = omega (
      arith,
      length-append (by_place a.s1 a.s2) (by_place a.s1r a.s2r),
      places-count a.s1 a.s2 first_count,
      places-count a.s1r a.s2r other_counts,
      lists.s1.count,
      lists.s1r.count,
      fewer,
    );
    moved_down_count = places-count a.s1 a.s2 first_count ∙ lists.s1.count;
    of_moved_down = places-all (IsMovedDown frame) (IsResident frame) a.s1 a.s2 (all_members (IsMovedDown frame) a.s1 s1_moved_down) (all_members (IsResident frame) a.s2 s2_resident);
    of_residents = places-all (IsResident frame) (IsResident frame) a.s1r a.s2r
        (all_members (IsResident frame) a.s1r (λ z m. (s1r_free z m).0))
        (all_members (IsResident frame) a.s2r (λ z m. (s2r_free z m).0.0));
    moved_down_ascend = places-ascend a.s1 a.s2 lists.s1.rises;
    others_ascend = places-ascend a.s1r a.s2r lists.s1r.rises;
    none_twice = all_twice;
  }

pub form-of : (frame : Frame) (shape : Shape) (a : Arrangement) → frame.mdps ≤ length frame.scores → shape.mdps ≤ shape.pairs → IsIn a (arrangements frame shape)
    → IsInForm frame shape (pairs_by_number a)
form-of frame shape a within fewer m = arrangement-form frame shape a within (lists-in frame shape a within m) fewer
