-- What stands behind a cursor: each level that begins at the cursor's list goes on with what stands behind it.
use Rattle.std.proofs.Common.{◌≡◌, ℕ, Bool, true, false, ◌&&◌, cond, if◌then◌else◌, List, [], ◌∷◌, ◌++◌, map, length, Option, Some, None, refl, sym, ◌∙◌, ap, subst, inl, inr}
use Rattle.std.specs.List.{filter, flat_map}
use Rattle.std.proofs.lemmas.List.Elements.{filter-append}
use Rattle.std.proofs.lemmas.Bool.{cases_Bool, true≢false, and_from, and_left}
use Rattle.dutch_arrangements.specs.declared.bracket.Shape.{Shape}
use Rattle.dutch_arrangements.specs.Prelude.{tuples, subsets, all_meet, is_same, from_on, numbers_from, IsIn, sorted, lower_first, exchanges, exchange_cmp, limbo_exchanges, limbo_cmp, Frame, Arrangement, residents_of, moved_down_scores, left_of, remainder_pairs, with_s2r, with_s1r, with_s2, arrangements, is_same_arrangement, behind, rest, is_legal, candidates, AreCandidates, candidates_from, joined, arranged, without_own, blocks_from, in_s1r, s1r_blocks, in_s2, s2_blocks, in_s1, s1_blocks, in_bracket, pairs_meet, may_leave, HasS2, Of, Passes}
use Rattle.dutch_sequence.proofs.Skipping.{all-members, passes-keeps}
use Rattle.dutch_sequence.proofs.FromOn.{is_same-refl, is_same-true, elsewhere}
use Rattle.dutch_sequence.proofs.Lists.{filter-flat_map, flat_map-filter, flat_map-same, filter-same}
use Rattle.dutch_sequence.proofs.Sets.{sorted-in}
use Rattle.dutch_sequence.proofs.Orders.{IsIn-flat_map, IsIn-map}
use Rattle.dutch_arrangements.proofs.Listed.{joined-map, flat_map-members, s2r-listed, s1r-either, s1r-barred, s2-listed, exchange-length, limbo-length, legal-parts, candidates-listed}
use Rattle.dutch_sequence.proofs.Members.{filter-map}

same-refl : (a : Arrangement) → is_same_arrangement a a ≡ true
same-refl a =
    and_from (is_same a.s1 a.s1) (is_same a.s2 a.s2 && (is_same a.s1r a.s1r && is_same a.s2r a.s2r)) (is_same-refl a.s1)
    (and_from (is_same a.s2 a.s2) (is_same a.s1r a.s1r && is_same a.s2r a.s2r) (is_same-refl a.s2)
    (and_from (is_same a.s1r a.s1r) (is_same a.s2r a.s2r) (is_same-refl a.s1r) (is_same-refl a.s2r)))

-- in a list, what stands behind one of its members
behind-later : (a b : Arrangement) (xs : List Arrangement) → is_same_arrangement b a ≡ false → IsIn a (b ∷ xs) → IsIn a xs
behind-later a b xs apart (inl same) = absurd (true≢false (sym (ap (λ c. is_same_arrangement c a) (sym same) ∙ same-refl a) ∙ apart))
behind-later a b xs apart (inr m) = m

behind-append : (a : Arrangement) (xs ys : List Arrangement) → IsIn a xs → behind a (xs ++ ys) ≡ behind a xs ++ ys
behind-append a [] ys m = absurd m
behind-append a (b ∷ xs) ys m =
    elim (cases_Bool (is_same_arrangement b a)) [
      | inl same ↦
          ap (λ t. if t then xs ++ ys else behind a (xs ++ ys)) same
          ∙ sym (ap (λ t. (if t then xs else behind a xs) ++ ys) same)
      | inr apart ↦
          ap (λ t. if t then xs ++ ys else behind a (xs ++ ys)) apart
          ∙ behind-append a xs ys (behind-later a b xs apart m)
          ∙ sym (ap (λ t. (if t then xs else behind a xs) ++ ys) apart)
    ]

behind-pass : (a : Arrangement) (xs ys : List Arrangement) → ((b : Arrangement) → IsIn b xs → is_same_arrangement b a ≡ false) → behind a (xs ++ ys) ≡ behind a ys
behind-pass a [] ys apart = refl
behind-pass a (b ∷ xs) ys apart =
    ap (λ t. if t then xs ++ ys else behind a (xs ++ ys)) (apart b (inl refl)) ∙ behind-pass a xs ys (λ c m. apart c (inr m))

-- through blocks: the rest of the block in which it stands, and the blocks of the later choices
behind-flat_map : (f : List ℕ → List Arrangement) (a : Arrangement) (c : List ℕ) (xs : List (List ℕ)) → ((x : List ℕ) (b : Arrangement) → IsIn b (f x) → is_same x c ≡ false → is_same_arrangement b a ≡ false) → IsIn a (f c) → IsIn c xs → (later : List (List ℕ)) × (from_on c xs ≡ c ∷ later) × ((x : List ℕ) → IsIn x later → IsIn x xs) × (behind a (flat_map f xs) ≡ behind a (f c) ++ flat_map f later)
behind-flat_map f a c [] apart m n = absurd n
behind-flat_map f a c (x ∷ xs) apart m n =
    elim (cases_Bool (is_same x c)) [
      | inl same ↦
          let is : x ≡ c = is_same-true x c same in (
            xs,
            ap (λ t. if t then x ∷ xs else from_on c xs) same ∙ ap (λ y. y ∷ xs) is,
            (λ y k. inr k),
            ap (λ y. behind a (f y ++ flat_map f xs)) is ∙ behind-append a (f c) (flat_map f xs) m,
          )
      | inr other ↦
          let rest = behind-flat_map f a c xs apart m (elsewhere c x xs other n) in (
            rest.0,
            ap (λ t. if t then x ∷ xs else from_on c xs) other ∙ rest.1,
            (λ y k. inr (rest.2 y k)),
            behind-pass a (f x) (flat_map f xs) (λ b k. apart x b k other) ∙ rest.3,
          )
    ]

-- and where each choice is an arrangement
behind-map : (f : List ℕ → Arrangement) (a : Arrangement) (c : List ℕ) (xs : List (List ℕ)) → ((x : List ℕ) → is_same_arrangement (f x) a ≡ is_same x c) → IsIn c xs → (later : List (List ℕ)) × (from_on c xs ≡ c ∷ later) × (behind a (map f xs) ≡ map f later)
behind-map f a c [] same n = absurd n
behind-map f a c (x ∷ xs) same n =
    elim (cases_Bool (is_same x c)) [
      | inl here ↦ (
        xs,
        ap (λ t. if t then x ∷ xs else from_on c xs) here ∙ ap (λ y. y ∷ xs) (is_same-true x c here),
        ap (λ t. if t then map f xs else behind a (map f xs)) (same x ∙ here),
      )
      | inr other ↦
          let rest = behind-map f a c xs same (elsewhere c x xs other n) in (
            rest.0,
            ap (λ t. if t then x ∷ xs else from_on c xs) other ∙ rest.1,
            ap (λ t. if t then map f xs else behind a (map f xs)) (same x ∙ other) ∙ rest.2,
          )
    ]

-- what is left of nothing is nothing
-- whether a list has a member
abbrev has_any : {X : Type 0} → List X → Bool
has_any [] = false
has_any (x ∷ xs) = true

behind-none : (p : Arrangement → Bool) (a : Arrangement) (xs : List Arrangement) → filter p xs ≡ [] → filter p (behind a xs) ≡ []
behind-none p a [] none = refl
behind-none p a (b ∷ xs) none =
    elim (cases_Bool (p b)) [
      | inl passes ↦
          let no : (b ∷ filter p xs) ≡ [] = sym (ap (λ t. cond t (b ∷ filter p xs) (filter p xs)) passes) ∙ none in absurd (true≢false (ap has_any no))
      | inr fails ↦
          let rest : filter p xs ≡ [] = sym (ap (λ t. cond t (b ∷ filter p xs) (filter p xs)) fails) ∙ none in
          elim (is_same_arrangement b a) as (λ t. filter p (if t then xs else behind a xs) ≡ []) [
            | true ↦ rest
            | false ↦ behind-none p a xs rest
          ]
    ]

-- a choice that is barred does not come first among those that are not
first-other : (q : List ℕ → Bool) (c x : List ℕ) → q x ≡ true → q c ≡ false → is_same x c ≡ false
first-other q c x passes fails =
    elim (cases_Bool (is_same x c)) [
      | inl same ↦ absurd (true≢false (sym passes ∙ ap q (is_same-true x c same) ∙ fails))
      | inr other ↦ other
    ]

own-absent : (q : List ℕ → Bool) (own : Arrangement) (xs : List (List ℕ)) → q own.s2r ≡ false → without_own (Some own) (filter q xs) ≡ filter q xs
own-absent q own [] fails = refl
own-absent q own (x ∷ xs) fails =
    elim (cases_Bool (q x)) [
      | inl passes ↦
          ap (λ t. without_own (Some own) (cond t (x ∷ filter q xs) (filter q xs))) passes
          ∙ ap (λ t. if t then filter q xs else x ∷ filter q xs) (first-other q own.s2r x passes fails)
          ∙ sym (ap (λ t. cond t (x ∷ filter q xs) (filter q xs)) passes)
      | inr barred ↦
          ap (λ t. without_own (Some own) (cond t (x ∷ filter q xs) (filter q xs))) barred
          ∙ own-absent q own xs fails
          ∙ sym (ap (λ t. cond t (x ∷ filter q xs) (filter q xs)) barred)
    ]

own-dropped : (q : List ℕ → Bool) (own : Arrangement) (xs : List (List ℕ)) → without_own (Some own) (filter q (own.s2r ∷ xs)) ≡ filter q xs
own-dropped q own xs =
    elim (cases_Bool (q own.s2r)) [
      | inl passes ↦
          ap (λ t. without_own (Some own) (cond t (own.s2r ∷ filter q xs) (filter q xs))) passes
          ∙ ap (λ t. if t then filter q xs else own.s2r ∷ filter q xs) (is_same-refl own.s2r)
      | inr barred ↦
          ap (λ t. without_own (Some own) (cond t (own.s2r ∷ filter q xs) (filter q xs))) barred ∙ own-absent q own xs barred
    ]

module _ (own : Arrangement) (part : Arrangement → List ℕ) (block : Option Arrangement → List ℕ → List Arrangement) where
  -- blocks that begin with the cursor's
  blocks-own : (xs : List (List ℕ)) → joined (blocks_from part block (Some own) (part own ∷ xs)) ≡ block (Some own) (part own) ++ joined (map (block None) xs)
  blocks-own xs = ap (λ t. block (if t then Some own else None) (part own) ++ joined (map (block None) xs)) (is_same-refl (part own))

  -- and those where it is barred
  blocks-absent : (q : List ℕ → Bool) (xs : List (List ℕ)) → q (part own) ≡ false → joined (blocks_from part block (Some own) (filter q xs)) ≡ joined (map (block None) (filter q xs))
  blocks-absent q [] fails = refl
  blocks-absent q (x ∷ xs) fails =
      elim (cases_Bool (q x)) [
        | inl passes ↦
            ap (λ t. joined (blocks_from part block (Some own) (cond t (x ∷ filter q xs) (filter q xs)))) passes
            ∙ ap (λ t. block (if t then Some own else None) x ++ joined (map (block None) (filter q xs))) (first-other q (part own) x passes fails)
            ∙ sym (ap (λ t. joined (map (block None) (cond t (x ∷ filter q xs) (filter q xs)))) passes)
        | inr barred ↦
            ap (λ t. joined (blocks_from part block (Some own) (cond t (x ∷ filter q xs) (filter q xs)))) barred
            ∙ blocks-absent q xs fails
            ∙ sym (ap (λ t. joined (map (block None) (cond t (x ∷ filter q xs) (filter q xs)))) barred)
      ]

third-differs : (p q r t : Bool) → r ≡ false → (p && (q && (r && t))) ≡ false
third-differs true true r t h = ap (λ b. b && t) h
third-differs true false r t h = refl
third-differs false q r t h = refl

second-differs : (p q r : Bool) → q ≡ false → (p && (q && r)) ≡ false
second-differs true q r h = ap (λ b. b && r) h
second-differs false q r h = refl

module _ (frame : Frame) (shape : Shape) where
  -- the lists of a block's arrangements are those that were chosen
  pub chosen-s1r : (s1 s2 s1r : List ℕ) (b : Arrangement) → IsIn b (with_s2r frame shape s1 s2 s1r) → b.s1r ≡ s1r
  chosen-s1r s1 s2 s1r b m =
      ap (λ c. c.s1r) (IsIn-map (arranged s1 s2 s1r) b (sorted lower_first (tuples (left_of (left_of (residents_of frame) s2) s1r) (remainder_pairs shape))) m).1

  pub chosen-s2 : (s1 s2 : List ℕ) (b : Arrangement) → IsIn b (with_s1r frame shape s1 s2) → b.s2 ≡ s2
  chosen-s2 s1 s2 b m =
      let by = IsIn-flat_map (with_s2r frame shape s1 s2) b (exchanges (left_of (residents_of frame) s2) (remainder_pairs shape)) m in
      ap (λ c. c.s2) (IsIn-map (arranged s1 s2 by.0) b (sorted lower_first (tuples (left_of (left_of (residents_of frame) s2) by.0) (remainder_pairs shape))) by.2).1

  pub chosen-s1 : (s1 : List ℕ) (b : Arrangement) → IsIn b (with_s2 frame shape s1) → b.s1 ≡ s1
  chosen-s1 s1 b m =
      let by = IsIn-flat_map (with_s1r frame shape s1) b (sorted lower_first (tuples (residents_of frame) shape.mdps)) m in
      let by' = IsIn-flat_map (with_s2r frame shape s1 by.0) b (exchanges (left_of (residents_of frame) by.0) (remainder_pairs shape)) by.2 in
      ap (λ c. c.s1) (IsIn-map (arranged s1 by.0 by'.0) b (sorted lower_first (tuples (left_of (left_of (residents_of frame) by.0) by'.0) (remainder_pairs shape))) by'.2).1

  -- where an arrangement stands
  pub record Standing (a : Arrangement) : Type 0 where
    pub has_s1 : IsIn a.s1 (limbo_exchanges (moved_down_scores frame) shape.mdps)
    pub under_s1 : IsIn a (with_s2 frame shape a.s1)
    pub has_s2 : IsIn a.s2 (sorted lower_first (tuples (residents_of frame) shape.mdps))
    pub under_s2 : IsIn a (with_s1r frame shape a.s1 a.s2)
    pub has_s1r : IsIn a.s1r (exchanges (left_of (residents_of frame) a.s2) (remainder_pairs shape))
    pub under_s1r : IsIn a (with_s2r frame shape a.s1 a.s2 a.s1r)
    pub has_s2r : IsIn a.s2r (sorted lower_first (tuples (left_of (left_of (residents_of frame) a.s2) a.s1r) (remainder_pairs shape)))

  pub stands : (a : Arrangement) → IsIn a (arrangements frame shape) → Standing a
  stands a m =
      let by1 = IsIn-flat_map (with_s2 frame shape) a (limbo_exchanges (moved_down_scores frame) shape.mdps) m in
      let e1 : by1.0 ≡ a.s1 = sym (chosen-s1 by1.0 a by1.2) in
      let under1 : IsIn a (with_s2 frame shape a.s1) = subst (λ s. IsIn a (with_s2 frame shape s)) e1 by1.2 in
      let by2 = IsIn-flat_map (with_s1r frame shape a.s1) a (sorted lower_first (tuples (residents_of frame) shape.mdps)) under1 in
      let e2 : by2.0 ≡ a.s2 = sym (chosen-s2 a.s1 by2.0 a by2.2) in
      let under2 : IsIn a (with_s1r frame shape a.s1 a.s2) = subst (λ s. IsIn a (with_s1r frame shape a.s1 s)) e2 by2.2 in
      let by3 = IsIn-flat_map (with_s2r frame shape a.s1 a.s2) a (exchanges (left_of (residents_of frame) a.s2) (remainder_pairs shape)) under2 in
      let e3 : by3.0 ≡ a.s1r = sym (chosen-s1r a.s1 a.s2 by3.0 a by3.2) in
      let under3 : IsIn a (with_s2r frame shape a.s1 a.s2 a.s1r) = subst (λ s. IsIn a (with_s2r frame shape a.s1 a.s2 s)) e3 by3.2 in
      let by4 = IsIn-map (arranged a.s1 a.s2 a.s1r) a (sorted lower_first (tuples (left_of (left_of (residents_of frame) a.s2) a.s1r) (remainder_pairs shape))) under3 in
      let e4 : by4.0 ≡ a.s2r = sym (ap (λ c. c.s2r) by4.1) in
      record {
        has_s1 = subst (λ s. IsIn s (limbo_exchanges (moved_down_scores frame) shape.mdps)) e1 by1.1;
        under_s1 = under1;
        has_s2 = subst (λ s. IsIn s (sorted lower_first (tuples (residents_of frame) shape.mdps))) e2 by2.1;
        under_s2 = under2;
        has_s1r = subst (λ s. IsIn s (exchanges (left_of (residents_of frame) a.s2) (remainder_pairs shape))) e3 by3.1;
        under_s1r = under3;
        has_s2r = subst (λ s. IsIn s (sorted lower_first (tuples (left_of (left_of (residents_of frame) a.s2) a.s1r) (remainder_pairs shape)))) e4 by4.2;
      }

  module _ (meets : ℕ → ℕ → Bool) (a : Arrangement) (standing : Standing a) where
    -- S2R
    s2r-same : (x : List ℕ) → is_same_arrangement (arranged a.s1 a.s2 a.s1r x) a ≡ is_same x a.s2r
    s2r-same x =
        ap (λ b. b && (is_same a.s2 a.s2 && (is_same a.s1r a.s1r && is_same x a.s2r))) (is_same-refl a.s1)
        ∙ ap (λ b. b && (is_same a.s1r a.s1r && is_same x a.s2r)) (is_same-refl a.s2)
        ∙ ap (λ b. b && is_same x a.s2r) (is_same-refl a.s1r)

    s2r-behind : all_meet meets a.s1 a.s2 ≡ true → in_s1r meets a.s1 a.s2 (left_of (residents_of frame) a.s2) (Some a) a.s1r ≡ filter (pairs_meet meets) (behind a (with_s2r frame shape a.s1 a.s2 a.s1r))
    unfolding in_s1r
    s2r-behind met =
        let pool = left_of (left_of (residents_of frame) a.s2) a.s1r in
        let arr : List ℕ → Arrangement = arranged a.s1 a.s2 a.s1r in
        let lists : List (List ℕ) = sorted lower_first (tuples pool (remainder_pairs shape)) in
        let split = behind-map arr a a.s2r lists s2r-same standing.has_s2r in
        ap (λ k. map arr (without_own (Some a) (filter (all_meet meets a.s1r) (from_on a.s2r (sorted lower_first (tuples pool k)))))) (exchange-length meets frame shape a.s2 a.s1r standing.has_s1r)
        ∙ ap (λ from. map arr (without_own (Some a) (filter (all_meet meets a.s1r) from))) split.1
        ∙ ap (map arr) (own-dropped (all_meet meets a.s1r) a split.0)
        ∙ ap (map arr)
        (filter-same (all_meet meets a.s1r) (λ s2r. all_meet meets a.s1 a.s2 && all_meet meets a.s1r s2r) split.0
        (λ s2r. ap (λ b. b && all_meet meets a.s1r s2r) (sym met)))
        ∙ sym (filter-map (pairs_meet meets) arr split.0)
        ∙ ap (filter (pairs_meet meets)) (sym split.2)

    -- S1R
    s1r-apart : (x : List ℕ) (b : Arrangement) → IsIn b (with_s2r frame shape a.s1 a.s2 x) → is_same x a.s1r ≡ false → is_same_arrangement b a ≡ false
    s1r-apart x b m other =
        third-differs (is_same b.s1 a.s1) (is_same b.s2 a.s2) (is_same b.s1r a.s1r) (is_same b.s2r a.s2r)
        (ap (λ s. is_same s a.s1r) (chosen-s1r a.s1 a.s2 x b m) ∙ other)

    s1r-behind : all_meet meets a.s1 a.s2 ≡ true → in_s2 meets (remainder_pairs shape) a.s1 (residents_of frame) (Some a) a.s2 ≡ filter (pairs_meet meets) (behind a (with_s1r frame shape a.s1 a.s2))
    unfolding in_s2
    s1r-behind met =
        let rem = left_of (residents_of frame) a.s2 in
        let sets = exchanges rem (remainder_pairs shape) in
        let block = with_s2r frame shape a.s1 a.s2 in
        let split = behind-flat_map block a a.s1r sets s1r-apart standing.under_s1r standing.has_s1r in
        ap (λ from. joined (s1r_blocks meets a.s1 a.s2 rem (Some a) from)) split.1
        ∙ blocks-own a (λ own. own.s1r) (in_s1r meets a.s1 a.s2 rem) split.0
        ∙ ap (λ front. front ++ joined (map (in_s1r meets a.s1 a.s2 rem None) split.0)) (s2r-behind met)
        ∙ ap (λ rest. filter (pairs_meet meets) (behind a (block a.s1r)) ++ rest)
        (joined-map (in_s1r meets a.s1 a.s2 rem None) split.0
        ∙ flat_map-members (in_s1r meets a.s1 a.s2 rem None) (λ s1r. filter (pairs_meet meets) (block s1r)) split.0
        (λ s1r m. s2r-listed meets frame shape a.s1 a.s2 s1r met (exchange-length meets frame shape a.s2 s1r (split.2 s1r m)))
        ∙ sym (filter-flat_map (pairs_meet meets) block split.0))
        ∙ sym (filter-append (pairs_meet meets) (behind a (block a.s1r)) (flat_map block split.0))
        ∙ ap (filter (pairs_meet meets)) (sym split.3)

    -- S2
    s2-apart : (x : List ℕ) (b : Arrangement) → IsIn b (with_s1r frame shape a.s1 x) → is_same x a.s2 ≡ false → is_same_arrangement b a ≡ false
    s2-apart x b m other =
        second-differs (is_same b.s1 a.s1) (is_same b.s2 a.s2) (is_same b.s1r a.s1r && is_same b.s2r a.s2r)
        (ap (λ s. is_same s a.s2) (chosen-s2 a.s1 x b m) ∙ other)

    abbrev s2-whole : List ℕ → List Arrangement
    s2-whole = in_s2 meets (remainder_pairs shape) a.s1 (residents_of frame) None

    s2-rest : (lists : List (List ℕ)) → joined (map s2-whole (filter (all_meet meets a.s1) lists)) ≡ filter (pairs_meet meets) (flat_map (with_s1r frame shape a.s1) lists)
    s2-rest lists =
        joined-map s2-whole (filter (all_meet meets a.s1) lists)
        ∙ flat_map-filter s2-whole (all_meet meets a.s1) lists
        ∙ flat_map-same (λ s2. cond (all_meet meets a.s1 s2) (s2-whole s2) []) (λ s2. filter (pairs_meet meets) (with_s1r frame shape a.s1 s2)) lists (λ s2. s1r-either meets frame shape a.s1 s2)
        ∙ sym (filter-flat_map (pairs_meet meets) (with_s1r frame shape a.s1) lists)

    s2-front : (later : List (List ℕ)) → joined (s2_blocks meets (remainder_pairs shape) a.s1 (residents_of frame) (Some a) (filter (all_meet meets a.s1) (a.s2 ∷ later))) ≡ filter (pairs_meet meets) (behind a (with_s1r frame shape a.s1 a.s2)) ++ joined (map s2-whole (filter (all_meet meets a.s1) later))
    s2-front later =
        let blocks : List (List ℕ) → List Arrangement = λ lists. joined (s2_blocks meets (remainder_pairs shape) a.s1 (residents_of frame) (Some a) lists) in
        let met-later = filter (all_meet meets a.s1) later in
        elim (cases_Bool (all_meet meets a.s1 a.s2)) [
          | inl met ↦
              ap (λ t. blocks (cond t (a.s2 ∷ met-later) met-later)) met
              ∙ blocks-own a (λ own. own.s2) (in_s2 meets (remainder_pairs shape) a.s1 (residents_of frame)) met-later
              ∙ ap (λ front. front ++ joined (map s2-whole met-later)) (s1r-behind met)
          | inr barred ↦
              ap (λ t. blocks (cond t (a.s2 ∷ met-later) met-later)) barred
              ∙ blocks-absent a (λ own. own.s2) (in_s2 meets (remainder_pairs shape) a.s1 (residents_of frame)) (all_meet meets a.s1) later barred
              ∙ ap (λ front. front ++ joined (map s2-whole met-later))
              (sym (behind-none (pairs_meet meets) a (with_s1r frame shape a.s1 a.s2) (s1r-barred meets frame shape a.s1 a.s2 barred)))
        ]

    s2-behind : in_s1 meets (remainder_pairs shape) (residents_of frame) (Some a) a.s1 ≡ filter (pairs_meet meets) (behind a (with_s2 frame shape a.s1))
    unfolding in_s1
    s2-behind =
        let lists : List (List ℕ) = sorted lower_first (tuples (residents_of frame) shape.mdps) in
        let block = with_s1r frame shape a.s1 in
        let split = behind-flat_map block a a.s2 lists s2-apart standing.under_s2 standing.has_s2 in
        ap (λ m. joined (s2_blocks meets (remainder_pairs shape) a.s1 (residents_of frame) (Some a) (filter (all_meet meets a.s1) (from_on a.s2 (sorted lower_first (tuples (residents_of frame) m))))))
        (limbo-length meets frame shape a.s1 standing.has_s1)
        ∙ ap (λ from. joined (s2_blocks meets (remainder_pairs shape) a.s1 (residents_of frame) (Some a) (filter (all_meet meets a.s1) from))) split.1
        ∙ s2-front split.0
        ∙ ap (λ rest. filter (pairs_meet meets) (behind a (block a.s2)) ++ rest) (s2-rest split.0)
        ∙ sym (filter-append (pairs_meet meets) (behind a (block a.s2)) (flat_map block split.0))
        ∙ ap (filter (pairs_meet meets)) (sym split.3)

    -- S1
    s1-apart : (x : List ℕ) (b : Arrangement) → IsIn b (with_s2 frame shape x) → is_same x a.s1 ≡ false → is_same_arrangement b a ≡ false
    s1-apart x b m other =
        and_left (is_same b.s1 a.s1) (is_same b.s2 a.s2 && (is_same b.s1r a.s1r && is_same b.s2r a.s2r))
        (ap (λ s. is_same s a.s1) (chosen-s1 x b m) ∙ other)

    s1-behind : in_bracket meets frame shape (Some a) ≡ filter (pairs_meet meets) (behind a (arrangements frame shape))
    unfolding in_bracket
    s1-behind =
        let sets = limbo_exchanges (moved_down_scores frame) shape.mdps in
        let block = with_s2 frame shape in
        let whole = in_s1 meets (remainder_pairs shape) (residents_of frame) None in
        let split = behind-flat_map block a a.s1 sets s1-apart standing.under_s1 standing.has_s1 in
        ap (λ from. joined (s1_blocks meets (remainder_pairs shape) (residents_of frame) (Some a) from)) split.1
        ∙ blocks-own a (λ own. own.s1) (in_s1 meets (remainder_pairs shape) (residents_of frame)) split.0
        ∙ ap (λ front. front ++ joined (map whole split.0)) s2-behind
        ∙ ap (λ rest. filter (pairs_meet meets) (behind a (block a.s1)) ++ rest)
        (joined-map whole split.0
        ∙ flat_map-members whole (λ s1. filter (pairs_meet meets) (block s1)) split.0
        (λ s1 m. s2-listed meets frame shape s1 (limbo-length meets frame shape s1 (split.2 s1 m)))
        ∙ sym (filter-flat_map (pairs_meet meets) block split.0))
        ∙ sym (filter-append (pairs_meet meets) (behind a (block a.s1)) (flat_map block split.0))
        ∙ ap (filter (pairs_meet meets)) (sym split.3)

    pub bracket-behind : (may_be_left : ℕ → Bool) → filter (may_leave may_be_left frame) (in_bracket meets frame shape (Some a)) ≡ rest meets may_be_left frame shape a
    bracket-behind may_be_left =
        ap (filter (may_leave may_be_left frame)) s1-behind ∙ legal-parts meets frame shape may_be_left (behind a (arrangements frame shape))

    -- the cursor's lists are choices of the levels
    pub has-s1 : IsIn a.s1 (subsets (numbers_from 1 (length (moved_down_scores frame))) shape.mdps)
    has-s1 =
        sorted-in (limbo_cmp (moved_down_scores frame)) a.s1 (subsets (numbers_from 1 (length (moved_down_scores frame))) shape.mdps) standing.has_s1

    pub has-s2 : HasS2 (remainder_pairs shape) (residents_of frame) a
    has-s2 =
        let rem = left_of (residents_of frame) a.s2 in
        let pool = left_of rem a.s1r in
        let in_s2 : IsIn a.s2 (tuples (residents_of frame) shape.mdps) = sorted-in lower_first a.s2 (tuples (residents_of frame) shape.mdps) standing.has_s2 in
        let in_s2r : IsIn a.s2r (tuples pool (remainder_pairs shape)) = sorted-in lower_first a.s2r (tuples pool (remainder_pairs shape)) standing.has_s2r in (
          subst (λ n. IsIn a.s2 (tuples (residents_of frame) n)) (sym (limbo-length meets frame shape a.s1 standing.has_s1)) in_s2,
          (
            sorted-in (exchange_cmp rem (remainder_pairs shape)) a.s1r (subsets rem (remainder_pairs shape)) standing.has_s1r,
            subst (λ n. IsIn a.s2r (tuples pool n)) (sym (exchange-length meets frame shape a.s2 a.s1r standing.has_s1r)) in_s2r,
          ),
        )

-- where nothing is legal, nothing legal stands behind
pub none-behind : (meets : ℕ → ℕ → Bool) (may_be_left : ℕ → Bool) (frame : Frame) (shape : Shape) (a : Arrangement) → candidates meets may_be_left frame shape ≡ [] → rest meets may_be_left frame shape a ≡ []
none-behind meets may_be_left frame shape a none =
    behind-none (is_legal meets may_be_left frame) a (arrangements frame shape) none

later-kept : (p : Arrangement → Bool) (x b : Arrangement) (xs : List Arrangement) → IsIn b (filter p xs) → IsIn b (filter p (x ∷ xs))
later-kept p x b xs m =
    elim (p x) as (λ t. IsIn b (cond t (x ∷ filter p xs) (filter p xs))) [
      | true ↦ inr m
      | false ↦ m
    ]

-- who passes a test and stands behind an arrangement of a list is one of those in the list who pass it
behind-kept : (p : Arrangement → Bool) (a b : Arrangement) (xs : List Arrangement) → IsIn b (filter p (behind a xs)) → IsIn b (filter p xs)
behind-kept p a b [] m = m
behind-kept p a b (x ∷ xs) m =
    elim (cases_Bool (is_same_arrangement x a)) [
      | inl same ↦ later-kept p x b xs (subst (λ t. IsIn b (filter p (if t then xs else behind a xs))) same m)
      | inr other ↦
          later-kept p x b xs (behind-kept p a b xs (subst (λ t. IsIn b (filter p (if t then xs else behind a xs))) other m))
    ]

-- a candidate behind an arrangement is a candidate
pub rest-in : (meets : ℕ → ℕ → Bool) (may_be_left : ℕ → Bool) (frame : Frame) (shape : Shape) (a b : Arrangement) → IsIn b (rest meets may_be_left frame shape a) → IsIn b (candidates meets may_be_left frame shape)
rest-in meets may_be_left frame shape a b m =
    behind-kept (is_legal meets may_be_left frame) a b (arrangements frame shape) m

-- the levels begin with the candidates behind a cursor, or with all
pub levels-beginning : (frame : Frame) (shape : Shape) (meets : ℕ → ℕ → Bool) (may_be_left : ℕ → Bool) (own : Option Arrangement) → Of (λ a. IsIn a (arrangements frame shape)) own → filter (may_leave may_be_left frame) (in_bracket meets frame shape own) ≡ candidates_from meets may_be_left frame shape own
levels-beginning frame shape meets may_be_left None given = candidates-listed meets frame shape may_be_left
levels-beginning frame shape meets may_be_left (Some a) given = bracket-behind frame shape meets a (stands frame shape a given) may_be_left

-- where nothing is legal, there are none
pub none-from : (frame : Frame) (shape : Shape) (meets : ℕ → ℕ → Bool) (may_be_left : ℕ → Bool) (own : Option Arrangement) → candidates meets may_be_left frame shape ≡ [] → candidates_from meets may_be_left frame shape own ≡ []
none-from frame shape meets may_be_left None none = none
none-from frame shape meets may_be_left (Some a) none = none-behind meets may_be_left frame shape a none

-- they are candidates
pub candidates-all : (frame : Frame) (shape : Shape) (meets : ℕ → ℕ → Bool) (may_be_left : ℕ → Bool) (own : Option Arrangement) → AreCandidates meets may_be_left frame shape (candidates_from meets may_be_left frame shape own)
unfolding AreCandidates
candidates-all frame shape meets may_be_left None =
    all-members (λ a. IsIn a (candidates meets may_be_left frame shape)) (candidates meets may_be_left frame shape) (λ a m. m)
candidates-all frame shape meets may_be_left (Some own) =
    all-members (λ a. IsIn a (candidates meets may_be_left frame shape)) (rest meets may_be_left frame shape own) (λ a m. rest-in meets may_be_left frame shape own a m)

pub no-candidates : (meets : ℕ → ℕ → Bool) (may_be_left : ℕ → Bool) (frame : Frame) (shape : Shape) → AreCandidates meets may_be_left frame shape []
unfolding AreCandidates
no-candidates meets may_be_left frame shape = tt {0}

-- of candidates, those that are left once some are skipped are candidates
pub still-candidates : (meets : ℕ → ℕ → Bool) (may_be_left : ℕ → Bool) (frame : Frame) (shape : Shape) (Pruned : Arrangement → Type 0) (before after : List Arrangement) → Passes Pruned before after → AreCandidates meets may_be_left frame shape before → AreCandidates meets may_be_left frame shape after
unfolding AreCandidates
still-candidates meets may_be_left frame shape Pruned before after passes all =
    passes-keeps Pruned (λ a. IsIn a (candidates meets may_be_left frame shape)) before after passes all

-- and so are those behind the first of these
pub later-candidates : (meets : ℕ → ℕ → Bool) (may_be_left : ℕ → Bool) (frame : Frame) (shape : Shape) (Pruned : Arrangement → Type 0) (before after : List Arrangement) (first : Arrangement) → Passes Pruned before (first ∷ after) → AreCandidates meets may_be_left frame shape before → AreCandidates meets may_be_left frame shape after
unfolding AreCandidates
later-candidates meets may_be_left frame shape Pruned before after first passes all =
    (passes-keeps Pruned (λ a. IsIn a (candidates meets may_be_left frame shape)) before (first ∷ after) passes all).1

-- a cursor's lists are choices of the levels
pub cursor-s1 : (frame : Frame) (shape : Shape) (meets : ℕ → ℕ → Bool) (a : Arrangement) → IsIn a (arrangements frame shape) → IsIn a.s1 (subsets (numbers_from 1 (length (moved_down_scores frame))) shape.mdps)
cursor-s1 frame shape meets a m = has-s1 frame shape meets a (stands frame shape a m)

pub cursor-s2 : (frame : Frame) (shape : Shape) (meets : ℕ → ℕ → Bool) (own : Option Arrangement) → Of (λ a. IsIn a (arrangements frame shape)) own → Of (HasS2 (remainder_pairs shape) (residents_of frame)) own
cursor-s2 frame shape meets None given = tt {0}
cursor-s2 frame shape meets (Some a) given = has-s2 frame shape meets a (stands frame shape a given)
