-- When a wish is granted, and what the best candidate that grants it is (C.04.3 B.3, B.8).
use Rattle.std.proofs.Common.{◌≡◌, ◌⊎◌, ℕ, Bool, true, false, not, cond, List, [], ◌∷◌, ◌++◌, filter, Some, None, inl, inr, refl, sym, ap, ◌∙◌, subst, arith}
use Rattle.std.specs.Prelude.{◌↔◌}
use Rattle.std.specs.List.{list_any}
use Rattle.std.proofs.lemmas.Bool.{not-true, not-false, not_from_false, false_from_ne_true, true≢false}
use Rattle.std.proofs.lemmas.Bool.Decides.{nat_tests}
use Rattle.std.proofs.lemmas.List.Elements.{filter-append}
use Rattle.dutch_arrangements.specs.declared.bracket.Shape.{Shape}
use Rattle.dutch_arrangements.specs.Prelude.{Arrangement, Frame, down, paired, players_of, is_member, pairs_by_number, HasEachOnce, IsIn}
use Rattle.dutch_sequence.proofs.Orders.{in-member, member-in, IsIn-back, IsIn-filter, filter-IsIn}
use Rattle.dutch_arrangements.proofs.NoneTwice.{in-left, left-in}
use Rattle.dutch_arrangements.proofs.Once.{candidates-once, filter-once}
use Rattle.dutch_candidates.specs.declared.wish.Wish.{Wish}
use Rattle.dutch_candidates.specs.declared.wish.Wish.TheVariants.{LeftOver, Pair}
use Rattle.dutch_bracket.specs.Prelude.{first_unbeaten, is_unbeaten, Context, can_be_chosen_here, candidates_here, eligible_here, frame_here, quality_here, Quality, is_better, number_may_be_left, numbers_meet, best_of_shape, candidates_of, eligible}
use Rattle.dutch_candidates.specs.Wishes.{are_these, grants}
use Rattle.dutch_choice.specs.Prelude.{best_granting, granting, is_better_here}
use Rattle.dutch_bracket.proofs.AnyLemmas.{any_in, found_in}
use Rattle.dutch_choice.proofs.BestLemmas.{in_unbeaten, order_in}
use Rattle.dutch_choice.proofs.RuledOutLemmas.{Are, are_so}
use Rattle.pairing_laws.specs.Wishes.{ComesBefore, IsAsGoodBefore}
use Rattle.dutch_bracket.proofs.QualityOrder.{total}

-- ---- when a wish is granted

same_pair : (p q : ℕ) (pair : ℕ × ℕ) → pair.0 ≡ p → pair.1 ≡ q → pair ≡ (p, q)
same_pair p q pair h g = ap (λ (x : ℕ). (x, pair.1)) h ∙ ap (λ (y : ℕ). (p, y)) g

one_way : (p q : ℕ) (pair : ℕ × ℕ) (pairs : List (ℕ × ℕ)) → IsIn pair pairs → Are p q pair → IsIn (p, q) pairs ⊎ IsIn (q, p) pairs
one_way p q pair pairs m (inl one) = inl (subst (λ x. IsIn x pairs) (same_pair p q pair one.0 one.1) m)
one_way p q pair pairs m (inr other) = inr (subst (λ x. IsIn x pairs) (same_pair q p pair other.0 other.1) m)

pub pair_by_test : (p q : ℕ) (a : Arrangement) → (grants (Pair p q) a ≡ true) ↔ (IsIn (p, q) (pairs_by_number a) ⊎ IsIn (q, p) (pairs_by_number a))
pair_by_test p q a = (
  λ h. let found = found_in (are_these p q) (pairs_by_number a) h in one_way p q found.0 (pairs_by_number a) found.1 (are_so p q found.0 found.2),
  λ m. elim m [
    | inl one ↦ any_in (are_these p q) (p, q) (pairs_by_number a) one (grind (arith, nat_tests))
    | inr other ↦ any_in (are_these p q) (q, p) (pairs_by_number a) other (grind (arith, nat_tests))
  ],
)

pub over_by_test : (frame : Frame) (p : ℕ) (a : Arrangement) → IsIn p (players_of frame) → (grants (LeftOver p) a ≡ true) ↔ IsIn p (down frame a)
over_by_test frame p a m = (
  λ h. left-in p (players_of frame) (paired a) m (λ n. true≢false (sym (in-member p (paired a) n) ∙ not-true (is_member p (paired a)) h)),
  λ n.
      not_from_false (is_member p (paired a))
      (false_from_ne_true (is_member p (paired a)) (λ t. (in-left p (players_of frame) (paired a) n).1 (member-in p (paired a) t))),
)

pub none_by_test : (wish : Wish) (all : List Arrangement) → (list_any (grants wish) all ≡ false) ↔ ((a : Arrangement) → IsIn a all → grants wish a ≡ false)
none_by_test wish all = (
  λ none a m. false_from_ne_true (grants wish a) (λ h. true≢false (sym (any_in (grants wish) a all m h) ∙ none)),
  λ each.
      false_from_ne_true (list_any (grants wish) all)
      (λ some. let found = found_in (grants wish) all some in true≢false (sym found.2 ∙ each found.0 found.1)),
)

-- ---- the first that none is better than

module _ (better : Arrangement → Arrangement → Bool) where
  -- it is one
  is_one : (all ys : List Arrangement) (a : Arrangement) → first_unbeaten better all ys ≡ Some a → is_unbeaten better all a ≡ true
  is_one all [] a e = let bad : None ≡ Some a = e in absurd (cc)
  is_one all (y ∷ rest) a e = grind (arith, is_one all rest a)

  none_better : (all : List Arrangement) (a b : Arrangement) → is_unbeaten better all a ≡ true → IsIn b all → better b a ≡ false
  none_better all a b h m = grind (arith, any_in (λ d. better d a) b all m)

  -- those before it are beaten
  beaten_before : (all ys : List Arrangement) (a b : Arrangement) (front behind : List Arrangement) → HasEachOnce ys → first_unbeaten better all ys ≡ Some a
      → ys ≡ front ++ b ∷ behind → IsIn a behind → is_unbeaten better all b ≡ false
  beaten_before all [] a b front behind once e same m = let bad : None ≡ Some a = e in absurd (cc)
  beaten_before all (y ∷ rest) a b [] behind once e same m = grind arith
  beaten_before all (y ∷ rest) a b (z ∷ front) behind once e same m = grind (arith, beaten_before all rest a b front behind once.1, IsIn-back a front (b ∷ behind) (inr m))

  -- and no other that none is better than stands before it
  before_at : (all : List Arrangement) (y c a : Arrangement) (rest : List Arrangement) (t : Bool) → is_unbeaten better all y ≡ t
      → cond t (Some y) (first_unbeaten better all rest) ≡ Some c → (a ≡ y) ⊎ IsIn a rest → is_unbeaten better all a ≡ true
      → (first_unbeaten better all rest ≡ Some c → IsIn a rest → (c ≡ a) ⊎ ComesBefore c a rest)
      → (c ≡ a) ⊎ ComesBefore c a (y ∷ rest)
  before_at all y c a rest true is e (inl same) h later = let here : y ≡ c = cc in inl (sym here ∙ sym same)
  before_at all y c a rest true is e (inr m) h later =
      let here : y ≡ c = cc in
      inr (record { front = []; behind = rest; parts = ap (λ (z : Arrangement). z ∷ rest) here; later = m })
  before_at all y c a rest false is e (inl same) h later = absurd (true≢false (sym h ∙ ap (is_unbeaten better all) same ∙ is))
  before_at all y c a rest false is e (inr m) h later =
      elim (later e m) [
        | inl same ↦ inl same
        | inr before ↦
            inr (record {
              front = y ∷ before.front;
              behind = before.behind;
              parts = ap (λ (zs : List Arrangement). y ∷ zs) before.parts;
              later = before.later;
            })
      ]

  comes_first : (all ys : List Arrangement) (c a : Arrangement) → first_unbeaten better all ys ≡ Some c → IsIn a ys → is_unbeaten better all a ≡ true
      → (c ≡ a) ⊎ ComesBefore c a ys
  comes_first all [] c a e m h = absurd m
  comes_first all (y ∷ rest) c a e m h =
      before_at all y c a rest (is_unbeaten better all y) refl e m h (λ found n. comes_first all rest c a found n h)

module _ (context : Context) (shape : Shape) where
  abbrev can_be : List Arrangement
  can_be = eligible_here context shape

  once : HasEachOnce (eligible_here context shape)
  unfolding candidates_of eligible
  once =
      filter-once (can_be_chosen_here context) (candidates_here context shape)
      (candidates-once (numbers_meet context.facts context.reached) (number_may_be_left context.facts context.reached) (frame_here context) shape)

  module _ (wish : Wish) (a : Arrangement) (found : best_granting context shape wish ≡ Some a) where
    abbrev better : Arrangement → Arrangement → Bool
    better = is_better_here context

    among : IsIn a (granting context shape wish)
    unfolding eligible best_granting
    among = in_unbeaten better (granting context shape wish) (granting context shape wish) a found

    pub best_grants : (grants wish a ≡ true) × IsIn a (eligible_here context shape)
    best_grants = let kept = IsIn-filter (grants wish) a can_be among in (kept.1, kept.0)

    unbeaten : is_unbeaten better (granting context shape wish) a ≡ true
    unfolding eligible best_granting
    unbeaten = is_one better (granting context shape wish) (granting context shape wish) a found

    pub best_unbeaten : (b : Arrangement) → IsIn b (eligible_here context shape) → grants wish b ≡ true → is_better_here context b a ≡ false
    best_unbeaten b m h = none_better better (granting context shape wish) a b unbeaten (filter-IsIn (grants wish) b can_be m h)

    parted : (b : Arrangement) → (before : ComesBefore b a can_be) → grants wish b ≡ true
        → granting context shape wish ≡ filter (grants wish) before.front ++ b ∷ filter (grants wish) before.behind
    parted b before h =
        ap (filter (grants wish)) before.parts
        ∙ filter-append (grants wish) before.front (b ∷ before.behind)
        ∙ ap (λ t. filter (grants wish) before.front ++ cond t (b ∷ filter (grants wish) before.behind) (filter (grants wish) before.behind)) h

    loses : (b : Arrangement) → ComesBefore b a can_be → grants wish b ≡ true → is_unbeaten better (granting context shape wish) b ≡ false
    unfolding eligible best_granting
    loses b before h =
        beaten_before better (granting context shape wish) (granting context shape wish) a b (filter (grants wish) before.front)
        (filter (grants wish) before.behind) (filter-once (grants wish) can_be once) found (parted b before h)
        (filter-IsIn (grants wish) a before.behind before.later best_grants.0)

    pub best_first : (b : Arrangement) → ComesBefore b a (eligible_here context shape) → grants wish b ≡ true → is_better_here context a b ≡ true
    best_first b before h =
        let some : list_any (λ d. better d b) (granting context shape wish) ≡ true = not-false _ (loses b before h) in
        let winner = found_in (λ d. better d b) (granting context shape wish) some in
        (order_in context).between winner.0 a b winner.2
        (none_better better (granting context shape wish) a winner.0 unbeaten winner.1)

  -- what is chosen beside it
  module _ (wish : Wish) (a chosen : Arrangement) (is : best_of_shape context.facts context.reached context.lower shape ≡ Some chosen)
      (found : best_granting context shape wish ≡ Some a) where
    abbrev Goal : Type 0
    Goal = (is_better_here context chosen a ≡ true) ⊎ IsAsGoodBefore context shape chosen a

    here : IsIn a can_be
    here = (best_grants wish a found).1

    as_good : quality_here context chosen ≡ quality_here context a → Goal
    unfolding eligible best_of_shape
    as_good same =
        let unbeaten_too : is_unbeaten (is_better_here context) can_be a ≡ true =
        ap (λ (q : Quality). not (list_any (λ d. is_better (quality_here context d) q) can_be)) (sym same)
        ∙ is_one (is_better_here context) can_be can_be chosen is in
        inr (same, comes_first (is_better_here context) can_be can_be chosen a is here unbeaten_too)

    chosen_at : (quality_here context chosen ≡ quality_here context a)
        ⊎ ((is_better_here context chosen a ≡ true) ⊎ (is_better_here context a chosen ≡ true)) → Goal
    unfolding eligible best_of_shape
    chosen_at (inl same) = as_good same
    chosen_at (inr (inl wins)) = inl wins
    chosen_at (inr (inr loses')) =
        absurd (true≢false (sym loses'
        ∙ none_better (is_better_here context) can_be chosen a (is_one (is_better_here context) can_be can_be chosen is) here))

    pub chosen_before : (is_better_here context chosen a ≡ true) ⊎ IsAsGoodBefore context shape chosen a
    chosen_before = chosen_at (total (quality_here context chosen) (quality_here context a))
