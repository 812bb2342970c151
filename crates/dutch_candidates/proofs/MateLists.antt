-- Mates among the players of a bracket, of whom no two are moved down, are the pairs of an arrangement; its downfloaters are their
-- own mates.
use Rattle.std.proofs.Common.{◌≡◌, ℕ, ◌+◌, ◌-◌, ◌<◌, ◌≤◌, Bool, true, not, cond, ◌||◌, ◌==◌, ltb, List, [], ◌∷◌, ◌++◌, map, length, refl, sym, ap, ◌∙◌, arith, subst, inl, inr}
use Rattle.std.specs.List.{filter}
use Rattle.std.proofs.lemmas.List.{length-map}
use Rattle.std.proofs.lemmas.Bool.{false_from_ne_true, cases_eq, cases_order, cases_lt, eq-eqb, ne_eqb, ltb-true, lt-ltb, not_from_false, not-true, and_from, true≢false, or_right}
use Rattle.dutch_arrangements.specs.declared.bracket.Shape.{Shape}
use Rattle.dutch_arrangements.specs.Prelude.{is_member, all_meet, moved_down_of, NoneTwice, IsMovedDown, IsResident, IsIn, Frame, Arrangement, Fits, arrangements, candidates, down, is_legal, leaves_one, left_of, paired, players_of, residents_of}
use Rattle.dutch_arrangements.proofs.CursorSets.{AreLists, numbers-within}
use Rattle.dutch_sequence.proofs.Orders.{in-member, member-in, Rises-filter, IsIn-append, IsIn-front, IsIn-back, IsIn-map, map-IsIn, IsIn-filter, filter-IsIn}
use Rattle.dutch_listing.proofs.FormArrangements.{in-lists, moved_down-in, in-moved_down, resident-in, in-residents}
use Rattle.dutch_arrangements.proofs.NoneTwice.{in-left, left-in, rises-twice, twice-different}
use Rattle.dutch_sequence.proofs.StageSets.{Climbs-length}
use Rattle.dutch_bracket.specs.Prelude.{has_member}
use Rattle.dutch_bracket.proofs.ArrangementParts.{numbers_rise, parts_of}
use Rattle.dutch_bracket.proofs.ShapeSearch.{has_in}

-- a shape with an arrangement has room
pub fits_arrangement : (frame : Frame) (shape : Shape) (a : Arrangement) → frame.mdps ≤ length frame.scores → shape.mdps ≤ shape.pairs → IsIn a (arrangements frame shape) → Fits frame shape
fits_arrangement frame shape a within fewer m =
    let parts = parts_of frame shape a within m in
    record {
      within_pairs = fewer;
      within_moved_down = omega (arith, Climbs-length 1 (1 + frame.mdps) a.s1 (omega arith) parts.s1, parts.s1_count);
      residents_enough = omega (arith, parts.left);
    }

-- what passes a test stands among what passes it
pub has_kept : (p : Arrangement → Bool) (a : Arrangement) (all : List Arrangement) → IsIn a all → p a ≡ true → has_member (filter p all) ≡ true
has_kept p a all m e = has_in a (filter p all) (filter-IsIn p a all m e)

-- two tests that say the same of each member keep the same
filter_as : (p q : ℕ → Bool) (xs : List ℕ) → ((x : ℕ) → IsIn x xs → p x ≡ q x) → filter p xs ≡ filter q xs
filter_as p q [] same = refl
filter_as p q (x ∷ xs) same =
    ap (λ t. cond t (x ∷ filter p xs) (filter p xs)) (same x (inl refl))
    ∙ ap (λ (ys : List ℕ). cond (q x) (x ∷ ys) ys) (filter_as p q xs (λ y m. same y (inr m)))

pub twice_map : (f : ℕ → ℕ) (xs : List ℕ) → NoneTwice xs → ((x y : ℕ) → IsIn x xs → IsIn y xs → f x ≡ f y → x ≡ y) → NoneTwice (map f xs)
twice_map f [] twice apart = tt
twice_map f (x ∷ xs) twice apart = (
  λ m.
      let from = IsIn-map f (f x) xs m in
      let same : x ≡ from.0 = apart x from.0 (inl refl) (inr from.2) from.1 in twice.0 (subst (λ y. IsIn y xs) (sym same) from.2),
  twice_map f xs twice.1 (λ y z m n. apart y z (inr m) (inr n)),
)

all_meet_mates : (meets : ℕ → ℕ → Bool) (mate : ℕ → ℕ) (xs : List ℕ) → ((x : ℕ) → IsIn x xs → meets x (mate x) ≡ true) → all_meet meets xs (map mate xs) ≡ true
all_meet_mates meets mate [] each = refl
all_meet_mates meets mate (x ∷ xs) each =
    and_from (meets x (mate x)) (all_meet meets xs (map mate xs)) (each x (inl refl)) (all_meet_mates meets mate xs (λ y m. each y (inr m)))

one_left : (may_be_left : ℕ → Bool) (xs : List ℕ) → NoneTwice xs → ((x : ℕ) → IsIn x xs → may_be_left x ≡ true) → ((x y : ℕ) → IsIn x xs → IsIn y xs → x ≡ y) → leaves_one may_be_left xs ≡ true
one_left may_be_left [] twice may same = refl
one_left may_be_left (x ∷ []) twice may same = may x (inl refl)
one_left may_be_left (x ∷ y ∷ xs) twice may same = absurd (twice.0 (inl (same x y (inl refl) (inr (inl refl)))))

-- a number of a bracket
abbrev pub IsNumber : Frame → ℕ → Type 0
IsNumber frame x = (0 < x) × (x ≤ length frame.scores)

-- each number has a mate, whose mate it is; no two moved-down players are mates
pub record NumberMates (frame : Frame) (mate : ℕ → ℕ) : Type 0 where
  pub inside : (x : ℕ) → IsNumber frame x → IsNumber frame (mate x)
  pub back : (x : ℕ) → IsNumber frame x → mate (mate x) ≡ x
  pub apart : (x : ℕ) → IsMovedDown frame x → mate x ≤ frame.mdps → mate x ≡ x

module _ (frame : Frame) (mate : ℕ → ℕ) (within : frame.mdps ≤ length frame.scores) (mates : NumberMates frame mate) where
  abbrev has_mate : ℕ → Bool
  has_mate x = not (mate x == x)

  abbrev goes_first : ℕ → Bool
  goes_first x = ltb x (mate x)

  abbrev s1 : List ℕ
  s1 = filter has_mate (moved_down_of frame)

  abbrev s2 : List ℕ
  s2 = map mate s1

  abbrev s1r : List ℕ
  s1r = filter goes_first (residents_of frame)

  abbrev s2r : List ℕ
  s2r = map mate s1r

  -- the arrangement of the mates
  abbrev pub of_mates : Arrangement
  of_mates = record { s1 = s1; s2 = s2; s1r = s1r; s2r = s2r }

  abbrev pub mates_shape : Shape
  mates_shape = record { pairs = length s1 + length s1r; mdps = length s1 }

  low_number : (x : ℕ) → IsMovedDown frame x → IsNumber frame x
  low_number x h = (h.0, omega (arith, h.1, within))

  high_number : (x : ℕ) → IsResident frame x → IsNumber frame x
  high_number x h = (omega (arith, h.0), h.1)

  in_s1 : (x : ℕ) → IsIn x s1 → IsMovedDown frame x × (mate x ≡ x → ⊥)
  in_s1 x m =
      let kept = IsIn-filter has_mate x (moved_down_of frame) m in
      (in-moved_down frame x kept.0, λ e. true≢false (sym (eq-eqb (mate x) x e) ∙ not-true (mate x == x) kept.1))

  s1_in : (x : ℕ) → IsMovedDown frame x → (mate x ≡ x → ⊥) → IsIn x s1
  s1_in x h ne = filter-IsIn has_mate x (moved_down_of frame) (moved_down-in frame x h) (not_from_false (mate x == x) (ne_eqb (mate x) x ne))

  in_s1r : (x : ℕ) → IsIn x s1r → IsResident frame x × (x < mate x)
  in_s1r x m =
      let kept = IsIn-filter goes_first x (residents_of frame) m in (in-residents frame x within kept.0, ltb-true x (mate x) kept.1)

  s1r_in : (x : ℕ) → IsResident frame x → x < mate x → IsIn x s1r
  s1r_in x h lt = filter-IsIn goes_first x (residents_of frame) (resident-in frame x h) (lt-ltb x (mate x) lt)

  -- mates differ where those whose mates they are do
  injective : (x y : ℕ) → IsNumber frame x → IsNumber frame y → mate x ≡ mate y → x ≡ y
  injective x y h g e = sym (mates.back x h) ∙ ap mate e ∙ mates.back y g

  -- the opponents of moved-down players
  in_s2 : (z : ℕ) → IsIn z s2 → IsResident frame z × IsMovedDown frame (mate z)
  in_s2 z m =
      let from = IsIn-map mate z s1 m in
      let x = from.0 in
      let of' = in_s1 x from.2 in
      let number = low_number x of'.0 in
      let high : IsResident frame (mate x) = elim (cases_lt frame.mdps (mate x)) [
        | inl above ↦ (above, (mates.inside x number).1)
        | inr low ↦ absurd (of'.1 (mates.apart x of'.0 low))
      ] in
      (subst (IsResident frame) (sym from.1) high, subst (IsMovedDown frame) (sym (ap mate from.1 ∙ mates.back x number)) of'.0)

  in_s2r : (z : ℕ) → IsIn z s2r → IsResident frame z × IsIn (mate z) s1r × (mate z < z)
  in_s2r z m =
      let from = IsIn-map mate z s1r m in
      let x = from.0 in
      let of' = in_s1r x from.2 in
      let number = high_number x of'.0 in
      let own : mate z ≡ x = ap mate from.1 ∙ mates.back x number in
      let less : x < mate x = of'.1 in
      let is : z ≡ mate x = from.1 in
      ((omega (arith, of'.0.0, less, is), omega (arith, (mates.inside x number).1, is)), subst (λ y. IsIn y s1r) (sym own) from.2, omega (arith, own, less, is))

  -- a resident who is not the mate of a moved-down player
  free : (z : ℕ) → IsResident frame z → frame.mdps < mate z → IsIn z (left_of (residents_of frame) s2)
  free z h above = left-in z (residents_of frame) s2 (resident-in frame z h) (λ m. let low : mate z ≤ frame.mdps = (in_s2 z m).1.1 in omega (arith, low, above))

  mates_lists : AreLists frame mates_shape of_mates
  mates_lists = record {
    s1 = record {
      rises = Rises-filter has_mate (moved_down_of frame) (numbers_rise 1 frame.mdps);
      within = λ x m. (IsIn-filter has_mate x (moved_down_of frame) m).0;
      count = refl;
    };
    s2 = record {
      different = twice-different s2 (twice_map mate s1 (rises-twice s1 (Rises-filter has_mate (moved_down_of frame) (numbers_rise 1 frame.mdps)))
          (λ x y m n e. injective x y (low_number x (in_s1 x m).0) (low_number y (in_s1 y n).0) e));
      within = λ z m. resident-in frame z (in_s2 z m).0;
      count = length-map s1 mate;
    };
    s1r = record {
      rises = Rises-filter goes_first (residents_of frame) (numbers_rise (frame.mdps + 1) (length frame.scores - frame.mdps));
      within = λ x m.
          let of' = in_s1r x m in
          let less : x < mate x = of'.1 in free x of'.0 (omega (arith, of'.0.0, less));
      count = omega arith;
    };
    s2r = record {
      different = twice-different s2r (twice_map mate s1r (rises-twice s1r (Rises-filter goes_first (residents_of frame) (numbers_rise (frame.mdps + 1) (length frame.scores - frame.mdps))))
          (λ x y m n e. injective x y (high_number x (in_s1r x m).0) (high_number y (in_s1r y n).0) e));
      within = λ z m.
          let of' = in_s2r z m in
          left-in z (left_of (residents_of frame) s2) s1r (free z of'.0 (in_s1r (mate z) of'.1).0.0)
          (λ n.
          let less : mate z < z = of'.2 in omega (arith, (in_s1r z n).1, less));
      count = omega (arith, length-map s1r mate);
    };
  }

  pub mates_arranged : IsIn of_mates (arrangements frame mates_shape)
  mates_arranged = in-lists frame mates_shape of_mates within mates_lists

  pub mates_fit : Fits frame mates_shape
  mates_fit = fits_arrangement frame mates_shape of_mates within (omega arith) mates_arranged

  -- who has a mate is paired
  paired_mates : (z : ℕ) → IsNumber frame z → (mate z ≡ z → ⊥) → IsIn z (paired of_mates)
  paired_mates z h ne =
      let inside = mates.inside z h in
      let back = mates.back z h in
      elim (cases_lt frame.mdps z) [
        | inr low ↦ IsIn-front z s1 (s2 ++ (s1r ++ s2r)) (s1_in z (h.0, low) ne)
        | inl high ↦
            IsIn-back z s1 (s2 ++ (s1r ++ s2r)) (elim (cases_lt frame.mdps (mate z)) [
              | inr low ↦
                  IsIn-front z s2 (s1r ++ s2r) (subst (λ y. IsIn y s2) back (map-IsIn mate (mate z) s1 (s1_in (mate z) (inside.0, low) (λ e. ne (sym e ∙ back)))))
              | inl above ↦
                  IsIn-back z s2 (s1r ++ s2r) (elim (cases_order z (mate z)) [
                    | inl same ↦ absurd (ne (sym same))
                    | inr (inl less) ↦ IsIn-front z s1r s2r (s1r_in z (high, h.1) less)
                    | inr (inr more) ↦
                        IsIn-back z s1r s2r (subst (λ y. IsIn y s2r) back (map-IsIn mate (mate z) s1r (s1r_in (mate z) (above, inside.1) (omega (arith, more, back)))))
                  ])
            ])
      ]

  pub down_alone : (z : ℕ) → IsIn z (down frame of_mates) → IsNumber frame z × (mate z ≡ z)
  down_alone z m =
      let off = in-left z (players_of frame) (paired of_mates) m in
      let h = numbers-within 1 (length frame.scores) z off.0 in
      let number : IsNumber frame z = (omega (arith, h.0), omega (arith, h.1)) in
      (number, elim (cases_eq (mate z) z) [ inl same ↦ same | inr ne ↦ absurd (off.1 (paired_mates z number ne)) ])

  -- and nobody else is
  paired_mate : (z : ℕ) → IsIn z (paired of_mates) → mate z ≡ z → ⊥
  paired_mate z m own =
      elim (IsIn-append z s1 (s2 ++ (s1r ++ s2r)) m) [
        | inl first ↦ (in_s1 z first).1 own
        | inr rest ↦ elim (IsIn-append z s2 (s1r ++ s2r) rest) [
          | inl second ↦ (let h = in_s2 z second in omega (arith, h.0.0, h.1.1, own))
          | inr later ↦ elim (IsIn-append z s1r s2r later) [
            | inl third ↦ (let less : z < mate z = (in_s1r z third).1 in omega (arith, less, own))
            | inr fourth ↦ (let less : mate z < z = (in_s2r z fourth).2 in omega (arith, less, own))
          ]
        ]
      ]

  left_alone : (z : ℕ) → IsIn z (players_of frame) → not (is_member z (paired of_mates)) ≡ (mate z == z)
  left_alone z m =
      let h = numbers-within 1 (length frame.scores) z m in
      elim (cases_eq (mate z) z) [
        | inl own ↦
            ap not (false_from_ne_true (is_member z (paired of_mates)) (λ there. paired_mate z (member-in z (paired of_mates) there) own))
            ∙ sym (eq-eqb (mate z) z own)
        | inr ne ↦
            ap not (in-member z (paired of_mates) (paired_mates z (omega (arith, h.0), omega (arith, h.1)) ne)) ∙ sym (ne_eqb (mate z) z ne)
      ]

  -- the downfloaters are those who are their own mates
  pub down_is : down frame of_mates ≡ filter (λ z. mate z == z) (players_of frame)
  down_is = filter_as (λ z. not (is_member z (paired of_mates))) (λ z. mate z == z) (players_of frame) left_alone

  module _ (meets : ℕ → ℕ → Bool) (may_be_left : ℕ → Bool) (met : (x : ℕ) → IsNumber frame x → (mate x ≡ x → ⊥) → meets x (mate x) ≡ true) where
    -- mates who meet are a candidate, if those whom it leaves over may be
    pub legal_member : (not frame.last || leaves_one may_be_left (down frame of_mates)) ≡ true → IsIn of_mates (candidates meets may_be_left frame mates_shape)
    legal_member left =
        filter-IsIn (is_legal meets may_be_left frame) of_mates (arrangements frame mates_shape) mates_arranged
        (and_from (all_meet meets s1 s2) _ (all_meet_mates meets mate s1 (λ x m. let h = in_s1 x m in met x (low_number x h.0) h.1))
        (and_from (all_meet meets s1r s2r) _
        (all_meet_mates meets mate s1r (λ x m. let h = in_s1r x m in met x (high_number x h.0) (λ e. let less : x < mate x = h.1 in omega (arith, e, less)))) left))

    legal_if : (not frame.last || leaves_one may_be_left (down frame of_mates)) ≡ true → has_member (candidates meets may_be_left frame mates_shape) ≡ true
    legal_if left = has_in of_mates (candidates meets may_be_left frame mates_shape) (legal_member left)

    pub mates_candidate : ((x y : ℕ) → IsNumber frame x → IsNumber frame y → mate x ≡ x → mate y ≡ y → x ≡ y) → ((x : ℕ) → IsNumber frame x → mate x ≡ x → may_be_left x ≡ true)
        → has_member (candidates meets may_be_left frame mates_shape) ≡ true
    mates_candidate one may =
        legal_if (or_right (not frame.last) (leaves_one may_be_left (down frame of_mates)) (one_left may_be_left (down frame of_mates)
        (rises-twice (down frame of_mates) (Rises-filter (λ x. not (is_member x (paired of_mates))) (players_of frame) (numbers_rise 1 (length frame.scores))))
        (λ x m. let h = down_alone x m in may x h.0 h.1)
        (λ x y m n. let h = down_alone x m in let g = down_alone y n in one x y h.0 g.0 h.1 g.1)))
