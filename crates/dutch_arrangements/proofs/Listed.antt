-- The levels of a listing together are the arrangements whose pairs may meet.
use Rattle.std.proofs.Common.{◌≡◌, ℕ, Bool, true, false, ◌&&◌, cond, List, [], ◌∷◌, ◌++◌, map, length, None, refl, sym, ◌∙◌, ap, inl, inr}
use Rattle.std.specs.List.{filter, flat_map}
use Rattle.std.proofs.lemmas.Bool.{cases_Bool}
use Rattle.dutch_arrangements.specs.declared.bracket.Shape.{Shape}
use Rattle.dutch_arrangements.specs.Prelude.{subsets, tuples, all_meet, numbers_from, IsIn, sorted, lower_first, exchanges, exchange_cmp, limbo_exchanges, limbo_cmp, Frame, Arrangement, residents_of, moved_down_scores, left_of, remainder_pairs, with_s2r, with_s1r, with_s2, arrangements, is_legal, candidates, joined, arranged, in_s1r, in_s2, in_s1, in_bracket, pairs_meet, may_leave}
use Rattle.dutch_sequence.proofs.Lists.{filter-flat_map, flat_map-filter, flat_map-same, filter-same, filter-filter}
use Rattle.dutch_sequence.proofs.Sets.{sorted-in}
use Rattle.dutch_sequence.proofs.Counts.{subsets-length}
use Rattle.dutch_sequence.proofs.Members.{filter-map}

pub joined-map : {A B : Type 0} (f : A → List B) (xs : List A) → joined (map f xs) ≡ flat_map f xs
joined-map f [] = refl
joined-map f (x ∷ xs) = ap (λ rest. f x ++ rest) (joined-map f xs)

-- two maps that agree on the members of a list
pub flat_map-members : {A B : Type 0} (f g : A → List B) (xs : List A) → ((x : A) → IsIn x xs → f x ≡ g x) → flat_map f xs ≡ flat_map g xs
flat_map-members f g [] same = refl
flat_map-members f g (x ∷ xs) same =
    ap (λ front. front ++ flat_map f xs) (same x (inl refl)) ∙ ap (λ rest. g x ++ rest) (flat_map-members f g xs (λ y m. same y (inr m)))

pub flat_map-none : {A B : Type 0} (f : A → List B) (xs : List A) → ((x : A) → f x ≡ []) → flat_map f xs ≡ []
flat_map-none f [] none = refl
flat_map-none f (x ∷ xs) none = ap (λ front. front ++ flat_map f xs) (none x) ∙ flat_map-none f xs none

pub filter-none : {A : Type 0} (p : A → Bool) (xs : List A) → ((x : A) → p x ≡ false) → filter p xs ≡ []
filter-none p [] none = refl
filter-none p (x ∷ xs) none = ap (λ b. cond b (x ∷ filter p xs) (filter p xs)) (none x) ∙ filter-none p xs none

and-assoc : (a b c : Bool) → ((a && b) && c) ≡ (a && (b && c))
and-assoc true b c = refl
and-assoc false b c = refl

module _ (meets : ℕ → ℕ → Bool) (frame : Frame) (shape : Shape) where
  -- with S1, S2 and S1R chosen
  pub s2r-listed : (s1 s2 s1r : List ℕ) → all_meet meets s1 s2 ≡ true → length s1r ≡ remainder_pairs shape → in_s1r meets s1 s2 (left_of (residents_of frame) s2) None s1r ≡ filter (pairs_meet meets) (with_s2r frame shape s1 s2 s1r)
  unfolding in_s1r
  s2r-listed s1 s2 s1r met same =
      let pool = left_of (left_of (residents_of frame) s2) s1r in
      ap (λ k. map (arranged s1 s2 s1r) (filter (all_meet meets s1r) (sorted lower_first (tuples pool k)))) same
      ∙ ap (map (arranged s1 s2 s1r))
      (filter-same (all_meet meets s1r) (λ s2r. all_meet meets s1 s2 && all_meet meets s1r s2r) (sorted lower_first (tuples pool (remainder_pairs shape)))
      (λ s2r. ap (λ b. b && all_meet meets s1r s2r) (sym met)))
      ∙ sym (filter-map (pairs_meet meets) (arranged s1 s2 s1r) (sorted lower_first (tuples pool (remainder_pairs shape))))

  s2r-barred : (s1 s2 s1r : List ℕ) → all_meet meets s1 s2 ≡ false → filter (pairs_meet meets) (with_s2r frame shape s1 s2 s1r) ≡ []
  s2r-barred s1 s2 s1r barred =
      let pool = left_of (left_of (residents_of frame) s2) s1r in
      filter-map (pairs_meet meets) (arranged s1 s2 s1r) (sorted lower_first (tuples pool (remainder_pairs shape)))
      ∙ ap (map (arranged s1 s2 s1r))
      (filter-none (λ s2r. all_meet meets s1 s2 && all_meet meets s1r s2r) (sorted lower_first (tuples pool (remainder_pairs shape)))
      (λ s2r. ap (λ b. b && all_meet meets s1r s2r) barred))

  pub exchange-length : (s2 s1r : List ℕ) → IsIn s1r (exchanges (left_of (residents_of frame) s2) (remainder_pairs shape)) → length s1r ≡ remainder_pairs shape
  exchange-length s2 s1r m =
      let pool = left_of (residents_of frame) s2 in
      subsets-length pool (remainder_pairs shape) s1r (sorted-in (exchange_cmp pool (remainder_pairs shape)) s1r (subsets pool (remainder_pairs shape)) m)

  -- with S1 and S2 chosen
  pub s1r-listed : (s1 s2 : List ℕ) → all_meet meets s1 s2 ≡ true → in_s2 meets (remainder_pairs shape) s1 (residents_of frame) None s2 ≡ filter (pairs_meet meets) (with_s1r frame shape s1 s2)
  unfolding in_s2
  s1r-listed s1 s2 met =
      let pool = left_of (residents_of frame) s2 in
      let sets = exchanges pool (remainder_pairs shape) in
      joined-map (in_s1r meets s1 s2 pool None) sets
      ∙ flat_map-members (in_s1r meets s1 s2 pool None) (λ s1r. filter (pairs_meet meets) (with_s2r frame shape s1 s2 s1r)) sets
      (λ s1r m. s2r-listed s1 s2 s1r met (exchange-length s2 s1r m))
      ∙ sym (filter-flat_map (pairs_meet meets) (with_s2r frame shape s1 s2) sets)

  pub s1r-barred : (s1 s2 : List ℕ) → all_meet meets s1 s2 ≡ false → filter (pairs_meet meets) (with_s1r frame shape s1 s2) ≡ []
  s1r-barred s1 s2 barred =
      let sets = exchanges (left_of (residents_of frame) s2) (remainder_pairs shape) in
      filter-flat_map (pairs_meet meets) (with_s2r frame shape s1 s2) sets
      ∙ flat_map-none (λ s1r. filter (pairs_meet meets) (with_s2r frame shape s1 s2 s1r)) sets (λ s1r. s2r-barred s1 s2 s1r barred)

  pub s1r-either : (s1 s2 : List ℕ) → cond (all_meet meets s1 s2) (in_s2 meets (remainder_pairs shape) s1 (residents_of frame) None s2) [] ≡ filter (pairs_meet meets) (with_s1r frame shape s1 s2)
  s1r-either s1 s2 =
      let block = in_s2 meets (remainder_pairs shape) s1 (residents_of frame) None s2 in
      elim (cases_Bool (all_meet meets s1 s2)) [
        | inl met ↦ ap (λ b. cond b block []) met ∙ s1r-listed s1 s2 met
        | inr barred ↦ ap (λ b. cond b block []) barred ∙ sym (s1r-barred s1 s2 barred)
      ]

  -- with S1 chosen
  pub s2-listed : (s1 : List ℕ) → length s1 ≡ shape.mdps → in_s1 meets (remainder_pairs shape) (residents_of frame) None s1 ≡ filter (pairs_meet meets) (with_s2 frame shape s1)
  unfolding in_s1
  s2-listed s1 same =
      let block : List ℕ → List Arrangement = in_s2 meets (remainder_pairs shape) s1 (residents_of frame) None in
      let lists : List (List ℕ) = sorted lower_first (tuples (residents_of frame) shape.mdps) in
      ap (λ n. joined (map block (filter (all_meet meets s1) (sorted lower_first (tuples (residents_of frame) n))))) same
      ∙ joined-map block (filter (all_meet meets s1) lists)
      ∙ flat_map-filter block (all_meet meets s1) lists
      ∙ flat_map-same (λ s2. cond (all_meet meets s1 s2) (block s2) []) (λ s2. filter (pairs_meet meets) (with_s1r frame shape s1 s2)) lists (λ s2. s1r-either s1 s2)
      ∙ sym (filter-flat_map (pairs_meet meets) (with_s1r frame shape s1) lists)

  pub limbo-length : (s1 : List ℕ) → IsIn s1 (limbo_exchanges (moved_down_scores frame) shape.mdps) → length s1 ≡ shape.mdps
  limbo-length s1 m =
      let numbers = numbers_from 1 (length (moved_down_scores frame)) in
      subsets-length numbers shape.mdps s1 (sorted-in (limbo_cmp (moved_down_scores frame)) s1 (subsets numbers shape.mdps) m)

  -- all of them
  pub s1-listed : in_bracket meets frame shape None ≡ filter (pairs_meet meets) (arrangements frame shape)
  unfolding in_bracket
  s1-listed =
      let block : List ℕ → List Arrangement = in_s1 meets (remainder_pairs shape) (residents_of frame) None in
      let sets = limbo_exchanges (moved_down_scores frame) shape.mdps in
      joined-map block sets
      ∙ flat_map-members block (λ s1. filter (pairs_meet meets) (with_s2 frame shape s1)) sets (λ s1 m. s2-listed s1 (limbo-length s1 m))
      ∙ sym (filter-flat_map (pairs_meet meets) (with_s2 frame shape) sets)

  -- who may meet and who may be left make what is legal
  pub legal-parts : (may_be_left : ℕ → Bool) (xs : List Arrangement) → filter (may_leave may_be_left frame) (filter (pairs_meet meets) xs) ≡ filter (is_legal meets may_be_left frame) xs
  unfolding may_leave
  legal-parts may_be_left xs =
      filter-filter (may_leave may_be_left frame) (pairs_meet meets) xs
      ∙ filter-same (λ a. pairs_meet meets a && may_leave may_be_left frame a) (is_legal meets may_be_left frame) xs
      (λ a. and-assoc (all_meet meets a.s1 a.s2) (all_meet meets a.s1r a.s2r) (may_leave may_be_left frame a))

  pub candidates-listed : (may_be_left : ℕ → Bool) → filter (may_leave may_be_left frame) (in_bracket meets frame shape None) ≡ candidates meets may_be_left frame shape
  candidates-listed may_be_left =
      ap (filter (may_leave may_be_left frame)) s1-listed ∙ legal-parts may_be_left (arrangements frame shape)
