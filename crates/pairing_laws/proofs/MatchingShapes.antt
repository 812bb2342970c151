-- The pairs of a matching of a bracket's players, in the penultimate bracket with all lower ones, are the pairs of a candidate that can be
-- chosen, of the same shape (C.04.3 B.1, C.1 to C.5).
use Rattle.std.proofs.Common.{◌≡◌, ℕ, zero, suc, ◌+◌, ◌-◌, ◌<◌, ◌≤◌, Bool, true, false, not, cond, ◌&&◌, ◌||◌, ◌==◌, nat_le, ltb, List, [], ◌∷◌, ◌++◌, All, map, length, sum_by, Option, None, Some, inl, inr, refl, sym, ap, subst, ◌∙◌, arith}
use Rattle.std.specs.Prelude.{filter}
use Rattle.std.specs.Option.{option_to_list}
use Rattle.std.proofs.Math.Bool.{and_comm}
use Rattle.std.proofs.lemmas.Bool.{and_parts, cases_eq, cases_lt, cases_order, eq-eqb, false_from_ne_true, lt-ltb, ltb-true, ne_eqb, not-true, true≢false}
use Rattle.std.proofs.lemmas.List.{length-map, map-append}
use Rattle.std.proofs.lemmas.List.Elements.{All-nil, All-cons, All-head, All-tail}
use Rattle.std.proofs.lemmas.List.Filters.{sum_by-filter_both}
use Rattle.std.proofs.lemmas.List.Sums.{sum_by-cons, sum_by-append}
use Rattle.dual.specs.Prelude.{Completable, IsWitness, MakeUp, in_both}
use Rattle.dual.proofs.Sums.{named, of_member, one, one_itself, sum_map, sum_named, sum_of_ones, sum_plus}
use Rattle.dual.proofs.Witnesses.{completable as witness_completes}
use Rattle.dutch_arrangements.specs.declared.bracket.Shape.{Shape}
use Rattle.dutch_arrangements.specs.Prelude.{leaves_one, numbers_from}
use Rattle.dutch_sequence.proofs.Members.{numbers-append}
use Rattle.dutch_bracket.specs.declared.reached.BracketKind.{BracketKind}
use Rattle.dutch_bracket.specs.declared.reached.BracketKind.TheVariants.{Ordinary}
use Rattle.dutch_bracket.specs.Prelude.{AllNumbers, Context, FitsHere, IsOf, completable, eligible_here, ends_round, has_member, is_penultimate, number_may_be_left, numbers_meet, numbers_meet_sym, score_at, seat_of, seats_may_be_left, seats_meet, seats_meet_sym}
use Rattle.dutch_bracket.proofs.AllLemmas.{all_filter}
use Rattle.dutch_bracket.proofs.ArrangementParts.{numbers_within}
use Rattle.dutch_candidates.proofs.CandidatePairs.{high, low}
use Rattle.dutch_completion.proofs.Completions.{told_yes}
use Rattle.pairing_laws.specs.GreatestMatchings.{IsBracketMatching, has_mdp, made_shape, pairs_here}
use Rattle.dutch_choice.specs.ShapeCosts.{any_seat, are_pair, are_paired_out, count_all, may_stay, shape_costs}
use Rattle.dutch_choice.proofs.CandidateCosts.{inside_mapped, lower_mapped, lowers}
use Rattle.dutch_choice.proofs.MateCandidates.{alone_of, mates_eligible, mates_fit_here, number_is, pair_sym, shape_of_mates, two_numbers}
use Rattle.pairing_laws.proofs.PairPartners.{Once, from_once, of_two, partner_back, partner_in, partner_met, partners_told}

-- ---- sums

-- how many pass a test
passing_one : {X : Type 0} (p : X → Bool) (x : X) (xs : List X) → length (filter p xs) ≡ sum_by (λ x. cond (p x) 1 0) xs → (t : Bool) → p x ≡ t
    → length (cond t (x ∷ filter p xs) (filter p xs)) ≡ sum_by (λ x. cond (p x) 1 0) (x ∷ xs)
passing_one p x xs later true e = omega (arith, sum_by-cons (λ x. cond (p x) 1 0) x xs, ap {B = ℕ} (λ t. cond t 1 0) e, later)
passing_one p x xs later false e = omega (arith, sum_by-cons (λ x. cond (p x) 1 0) x xs, ap {B = ℕ} (λ t. cond t 1 0) e, later)

passing : {X : Type 0} (p : X → Bool) (xs : List X) → length (filter p xs) ≡ sum_by (λ x. cond (p x) 1 0) xs
passing p [] = refl
passing p (x ∷ xs) = passing_one p x xs (passing p xs) (p x) refl

-- those who pass a test, and the others
parted_one : (p : ℕ → Bool) (u : ℕ → ℕ) (x : ℕ) (xs : List ℕ) → sum_by u (filter p xs) + sum_by (λ x. cond (p x) 0 (u x)) xs ≡ sum_by u xs
    → (t : Bool) → p x ≡ t → sum_by u (cond t (x ∷ filter p xs) (filter p xs)) + sum_by (λ x. cond (p x) 0 (u x)) (x ∷ xs) ≡ sum_by u (x ∷ xs)
parted_one p u x xs later true e =
    omega (arith, sum_by-cons (λ x. cond (p x) 0 (u x)) x xs, ap (λ t. cond t 0 (u x)) e, later, sum_by-cons u x (filter p xs), sum_by-cons u x xs)
parted_one p u x xs later false e = omega (arith, sum_by-cons (λ x. cond (p x) 0 (u x)) x xs, ap (λ t. cond t 0 (u x)) e, later, sum_by-cons u x xs)

parted : (p : ℕ → Bool) (u : ℕ → ℕ) (xs : List ℕ) → sum_by u (filter p xs) + sum_by (λ x. cond (p x) 0 (u x)) xs ≡ sum_by u xs
parted p u [] = refl
parted p u (x ∷ xs) = parted_one p u x xs (parted p u xs) (p x) refl

-- weights that agree on the numbers from one on
numbers_agree : (f g : ℕ → ℕ) (first many : ℕ) → ((x : ℕ) → first ≤ x → x < first + many → f x ≡ g x)
    → sum_by f (numbers_from first many) ≡ sum_by g (numbers_from first many)
numbers_agree f g first zero same = refl
numbers_agree f g first (suc many) same =
    omega (
      arith,
      sum_by-cons f first (numbers_from (suc first) many),
      sum_by-cons g first (numbers_from (suc first) many),
      same first (omega arith) (omega arith),
      numbers_agree f g (suc first) many (λ x h l. same x (omega (arith, h)) (omega (arith, l))),
    )

numbers_none : (f : ℕ → ℕ) (first many : ℕ) → ((x : ℕ) → first ≤ x → x < first + many → f x ≡ 0) → sum_by f (numbers_from first many) ≡ 0
numbers_none f first zero same = refl
numbers_none f first (suc many) same =
    omega (
      arith,
      sum_by-cons f first (numbers_from (suc first) many),
      same first (omega arith) (omega arith),
      numbers_none f (suc first) many (λ x h l. same x (omega (arith, h)) (omega (arith, l))),
    )

numbers_cut : (f : ℕ → ℕ) (first m more : ℕ)
    → sum_by f (numbers_from first (m + more)) ≡ sum_by f (numbers_from first m) + sum_by f (numbers_from (first + m) more)
numbers_cut f first m more = ap (sum_by f) (numbers-append first m more) ∙ sum_by-append f (numbers_from first m) (numbers_from (first + m) more)

-- sums of pairs of which the same holds
pairs_same : (P : ℕ × ℕ → Type 0) (f g : ℕ × ℕ → ℕ) → ((pair : ℕ × ℕ) → P pair → f pair ≡ g pair) → (ps : List (ℕ × ℕ)) → All P ps → sum_by f ps ≡ sum_by g ps
pairs_same P f g same [] all = refl
pairs_same P f g same (pair ∷ ps) all =
    omega (arith, sum_by-cons f pair ps, sum_by-cons g pair ps, same pair (All-head P pair ps all), pairs_same P f g same ps (All-tail P pair ps all))

-- ---- tests

no_choice : (t : Bool) → ◌≡◌ {A = ℕ} (cond t 0 0) 0
no_choice true = refl
no_choice false = refl

unless : (t : Bool) → ◌≡◌ {A = ℕ} (cond t 0 1) (cond (not t) 1 0)
unless true = refl
unless false = refl

at_least : (t : Bool) (n m : ℕ) → n ≤ cond t (n + m) n
at_least true n m = omega arith
at_least false n m = omega arith

one_of : (x y : Bool) → not (x && y) ≡ true → cond x 1 0 + cond y 1 0 ≡ cond (x || y) 1 0
one_of true true e = absurd (let bad : false ≡ true = e in cc)
one_of true false e = refl
one_of false true e = refl
one_of false false e = refl

never : (x y : Bool) → not (x && y) ≡ true → x ≡ true → y ≡ true → ⊥
never x y e f g = true≢false (sym e ∙ ap (λ t. not (t && y)) f ∙ ap (λ t. not t) g)

-- what passes a test passes it
kept_one : {X : Type 0} (p : X → Bool) (x : X) (kept : List X) → All (λ x. p x ≡ true) kept → (t : Bool) → p x ≡ t
    → All (λ x. p x ≡ true) (cond t (x ∷ kept) kept)
kept_one p x kept later true e = All-cons (λ x. p x ≡ true) x kept e later
kept_one p x kept later false e = later

kept_pass : {X : Type 0} (p : X → Bool) (xs : List X) → All (λ x. p x ≡ true) (filter p xs)
kept_pass p [] = All-nil (λ x. p x ≡ true)
kept_pass p (x ∷ xs) = kept_one p x (filter p xs) (kept_pass p xs) (p x) refl

leaves_few : (may : ℕ → Bool) (xs : List ℕ) → length xs ≤ 1 → ((x : ℕ) → 0 < sum_by (one x) xs → may x ≡ true) → leaves_one may xs ≡ true
leaves_few may [] few each = refl
leaves_few may (x ∷ []) few each = each x (omega (arith, one_itself x, sum_by-cons (one x) x []))
leaves_few may (x ∷ y ∷ xs) few each = absurd (omega (arith, few))

-- one at most, as what may be there
record AsOption (xs : List ℕ) : Type 0 where
  value : Option ℕ
  is : option_to_list value ≡ xs

as_option : (xs : List ℕ) → length xs ≤ 1 → AsOption xs
as_option [] few = record { value = None; is = refl }
as_option (x ∷ []) few = record { value = Some x; is = refl }
as_option (x ∷ y ∷ xs) few = absurd (omega (arith, few))

-- ---- those who are paired out

module _ (context : Context) where
  abbrev IsOut : ℕ × ℕ → Type 0
  IsOut pair = are_paired_out context pair.0 pair.1 ≡ true

  abbrev Meets : ℕ × ℕ → Type 0
  Meets pair = (shape_costs context).meets pair.0 pair.1 ≡ true

  abbrev is_other : ℕ × ℕ → Bool
  is_other pair = not (are_pair context pair.0 pair.1)

  out_one : (pair : ℕ × ℕ) (others : List (ℕ × ℕ)) → Meets pair → All IsOut others → (t : Bool) → are_pair context pair.0 pair.1 ≡ t
      → All IsOut (cond (not t) (pair ∷ others) others)
  out_one pair others met all true e = all
  out_one pair others met all false e = All-cons IsOut pair others (ap (λ t. t || are_paired_out context pair.0 pair.1) (sym e) ∙ met) all

  -- who may meet and is no pair of the bracket is paired out
  out_kept : (ps : List (ℕ × ℕ)) → All Meets ps → All IsOut (filter is_other ps)
  out_kept [] all = All-nil IsOut
  out_kept (pair ∷ ps) all =
      out_one pair (filter is_other ps) (All-head Meets pair ps all) (out_kept ps (All-tail Meets pair ps all)) (are_pair context pair.0 pair.1) refl

  -- elsewhere than in the penultimate bracket nobody is
  none_out : is_penultimate context.reached.kind ≡ false → (ps : List (ℕ × ℕ)) → All IsOut ps → ps ≡ []
  none_out e [] all = refl
  none_out e (pair ∷ ps) all =
      absurd (true≢false (sym (and_parts (is_penultimate context.reached.kind) _ (All-head IsOut pair ps all)).0 ∙ e))

  abbrev by_seat : ℕ × ℕ → ℕ × ℕ
  by_seat pair = (any_seat context pair.0, any_seat context pair.1)

  abbrev SeatsMeet : ℕ × ℕ → Type 0
  SeatsMeet pair = (seats_meet context.facts pair.0 pair.1 ≡ true) × (seats_meet context.facts pair.1 pair.0 ≡ true)

  seats_kept : (ps : List (ℕ × ℕ)) → All IsOut ps → All SeatsMeet (map by_seat ps)
  seats_kept [] all = All-nil SeatsMeet
  seats_kept (pair ∷ ps) all =
      let both = and_parts (is_penultimate context.reached.kind) _ (All-head IsOut pair ps all) in
      let met = (and_parts (nat_le 1 pair.0 && nat_le 1 pair.1) _ both.1).1 in
      All-cons SeatsMeet (by_seat pair) (map by_seat ps)
      (met, seats_meet_sym context.facts (any_seat context pair.1) (any_seat context pair.0) ∙ met) (seats_kept ps (All-tail IsOut pair ps all))

  abbrev Stays : ℕ → Type 0
  Stays v = may_stay context v ≡ true

  abbrev SeatStays : ℕ → Type 0
  SeatStays v = seats_may_be_left context.facts v ≡ true

  stays_kept : is_penultimate context.reached.kind ≡ true → (xs : List ℕ) → All Stays xs → All SeatStays (map (any_seat context) xs)
  stays_kept e [] all = All-nil SeatStays
  stays_kept e (x ∷ xs) all =
      let stays : seats_may_be_left context.facts (any_seat context x) ≡ true =
      ap (λ t. cond t (seats_may_be_left context.facts (any_seat context x))
      (not (ends_round context.reached.kind) || number_may_be_left context.facts context.reached x)) (sym e) ∙ All-head Stays x xs all in
      All-cons SeatStays (any_seat context x) (map (any_seat context) xs) stays (stays_kept e xs (All-tail Stays x xs all))

-- the kinds in which one at most is left over
ends_other : (kind : BracketKind) → ends_round kind ≡ true → ¬ (kind ≡ Ordinary)
ends_other kind e is = true≢false (sym e ∙ ap ends_round is)

penultimate_other : (kind : BracketKind) → is_penultimate kind ≡ true → ¬ (kind ≡ Ordinary)
penultimate_other kind e is = true≢false (sym e ∙ ap is_penultimate is)

-- ---- what a pair counts

module _ (q : ℕ) where
  -- a moved-down player
  abbrev is_low : ℕ → ℕ
  is_low x = cond (nat_le x q) 1 0

  -- a resident who stands in front of their partner
  abbrev stands_first : ℕ → ℕ → ℕ
  stands_first x y = cond (ltb x y) (cond (nat_le x q) 0 1) 0

  not_first : (x y : ℕ) → y ≤ x → stands_first x y ≡ 0
  not_first x y h = ap (λ t. cond t (cond (nat_le x q) 0 1) 0) (false_from_ne_true (ltb x y) (λ e. omega (arith, h, ltb-true x y e)))

  ordered : (a b : ℕ) → a < b → not (nat_le a q && nat_le b q) ≡ true → (stands_first a b + stands_first b a) + (is_low a + is_low b) ≡ 1
  ordered a b lt apart =
      let none : stands_first b a ≡ 0 = not_first b a (omega (arith, lt)) in
      let first : stands_first a b ≡ cond (nat_le a q) 0 1 = ap (λ t. cond t (cond (nat_le a q) 0 1) 0) (lt-ltb a b lt) in
      elim (cases_lt q b) [
        | inr small ↦ absurd (never (nat_le a q) (nat_le b q) apart (low a q (omega (arith, lt, small))) (low b q small))
        | inl large ↦
            (let second : is_low b ≡ 0 = ap (λ t. cond t 1 0) (high b q large) in
            elim (cases_lt q a) [
              | inl above ↦
                  (let one' : stands_first a b ≡ 1 = first ∙ ap (λ t. cond t 0 1) (high a q above) in
                  let zero' : is_low a ≡ 0 = ap (λ t. cond t 1 0) (high a q above) in omega (arith, none, second, one', zero'))
              | inr below ↦
                  (let zero' : stands_first a b ≡ 0 = first ∙ ap (λ t. cond t 0 1) (low a q below) in
                  let one' : is_low a ≡ 1 = ap (λ t. cond t 1 0) (low a q below) in omega (arith, none, second, one', zero'))
            ])
      ]

  -- a pair has one moved-down player, or one resident who stands first
  one_each : (a b : ℕ) → (a ≡ b → ⊥) → not (nat_le a q && nat_le b q) ≡ true → (stands_first a b + stands_first b a) + (is_low a + is_low b) ≡ 1
  one_each a b differ apart = elim (cases_order a b) [
    | inl same ↦ absurd (differ same)
    | inr (inl less) ↦ ordered a b less apart
    | inr (inr more) ↦ omega (arith, ordered b a more (ap not (and_comm (nat_le b q) (nat_le a q)) ∙ apart))
  ]

numbers_differ : (context : Context) (a b : ℕ) → are_pair context a b ≡ true → a ≡ b → ⊥
unfolding numbers_meet
numbers_differ context a b e same =
    let met = and_parts (numbers_meet context.facts context.reached a b) _ e in
    let both = and_parts _ _ met.0 in
    let other = and_parts (not (a == b)) _ both.1 in true≢false (sym (eq-eqb a b same) ∙ not-true (a == b) other.0)

-- ---- a matching

module _ (context : Context) (of' : IsOf context.facts context.reached) (pairs : List (ℕ × ℕ)) (out : List ℕ) (is : IsBracketMatching context pairs out) where
  abbrev n : ℕ
  n = length context.reached.seats

  abbrev q : ℕ
  q = context.reached.mdps

  abbrev here : List (ℕ × ℕ)
  here = pairs_here context pairs

  -- those who are paired out
  abbrev there : List (ℕ × ℕ)
  there = filter (λ pair. not (are_pair context pair.0 pair.1)) pairs

  abbrev mate : ℕ → ℕ
  mate = partner_in here

  abbrev numbers : List ℕ
  numbers = numbers_from 1 (count_all context)

  within : q ≤ n
  within = omega (arith, of'.sound.within, length-map context.reached.seats (score_at context.facts))

  abbrev IsPair : ℕ × ℕ → Type 0
  IsPair pair = are_pair context pair.0 pair.1 ≡ true

  all_here : All IsPair here
  all_here = kept_pass (λ pair. are_pair context pair.0 pair.1) pairs

  two_parts : (u : ℕ → ℕ) → sum_by (in_both u) here + sum_by (in_both u) there ≡ sum_by (in_both u) pairs
  two_parts u =
      sum_by-filter_both (λ pair. are_pair context pair.0 pair.1) (λ pair. not (are_pair context pair.0 pair.1)) (λ pair. refl) (in_both u) pairs

  whole : MakeUp numbers here (named there ++ out)
  whole u = omega (arith, is.matching.whole u, two_parts u, sum_by-append u (named there) out, sum_named u there)

  once : Once here
  once x = omega (arith, whole (one x), from_once x 1 (count_all context))

  are : (x : ℕ) → (mate x ≡ x → ⊥) → are_pair context x (mate x) ≡ true
  are = partner_met (λ a b. are_pair context a b ≡ true) (λ a b e. pair_sym context b a ∙ e) here all_here

  back : (x : ℕ) → mate (mate x) ≡ x
  back = partner_back here once

  -- lower players are in no pair of the bracket
  beyond : (x : ℕ) → n < x → mate x ≡ x
  beyond x h = elim (cases_eq (mate x) x) [
    | inl same ↦ same
    | inr ne ↦
        (let met = (and_parts (numbers_meet context.facts context.reached x (mate x)) _ (are x ne)).0 in
        let few = (number_is context.reached x (two_numbers context.facts context.reached (mate x) x
        (numbers_meet_sym context.facts context.reached (mate x) x ∙ met))).1 in absurd (omega (arith, h, few)))
  ]

  size : n ≤ count_all context
  size = at_least (is_penultimate context.reached.kind) n (length context.lower)

  -- the bracket's players, each with their partner, count as much as the pairs do
  told : (g : ℕ → ℕ → ℕ) → ((x : ℕ) → g x x ≡ 0) → sum_by (λ x. g x (mate x)) (numbers_from 1 n) ≡ sum_by (of_two g) here
  told g alone =
      let f : ℕ → ℕ = λ x. g x (mate x) in
      let k = count_all context in
      let none : sum_by f (numbers_from (1 + n) (k - n)) ≡ 0 =
      numbers_none f (1 + n) (k - n) (λ x h l. ap (g x) (beyond x (omega (arith, h))) ∙ alone x) in
      omega (
        arith,
        partners_told g numbers (named there ++ out) here whole (λ x. from_once x 1 (count_all context)) alone,
        none,
        numbers_cut f 1 n (k - n),
        ap (λ m. sum_by f (numbers_from 1 m)) (let e : count_all context ≡ n + (count_all context - n) = omega (arith, size) in e),
      )

  told_weight : (u : ℕ → ℕ) → sum_by (λ x. cond (mate x == x) 0 (u x)) (numbers_from 1 n) ≡ sum_by (in_both u) here
  told_weight u =
      told (λ x y. cond (y == x) 0 (u x)) (λ x. ap (λ t. cond t 0 (u x)) (eq-eqb x x refl))
      ∙ pairs_same IsPair (of_two (λ x y. cond (y == x) 0 (u x))) (in_both u)
      (λ pair e.
      let differ = numbers_differ context pair.0 pair.1 e in
      let first : cond (pair.1 == pair.0) 0 (u pair.0) ≡ u pair.0 = ap (λ t. cond t 0 (u pair.0)) (ne_eqb pair.1 pair.0 (λ same. differ (sym same))) in
      let second : cond (pair.0 == pair.1) 0 (u pair.1) ≡ u pair.1 = ap (λ t. cond t 0 (u pair.1)) (ne_eqb pair.0 pair.1 differ) in
      omega (arith, first, second)) here all_here

  -- ---- the shape

  -- the numbers of the bracket: the moved-down players, and the residents
  bracket_cut : (f : ℕ → ℕ) → sum_by f (numbers_from 1 n) ≡ sum_by f (numbers_from 1 q) + sum_by f (numbers_from (q + 1) (n - q))
  bracket_cut f =
      ap (λ m. sum_by f (numbers_from 1 m)) (let e : n ≡ q + (n - q) = omega (arith, within) in e)
      ∙ numbers_cut f 1 q (n - q)
      ∙ ap (λ m. sum_by f (numbers_from 1 q) + sum_by f (numbers_from m (n - q))) (let e : 1 + q ≡ q + 1 = omega arith in e)

  not_both : (pair : ℕ × ℕ) → IsPair pair → not (nat_le pair.0 q && nat_le pair.1 q) ≡ true
  not_both pair e = (and_parts (numbers_meet context.facts context.reached pair.0 pair.1) _ e).1

  low_pairs : sum_by (in_both (is_low q)) here ≡ length (filter (has_mdp context) here)
  low_pairs =
      pairs_same IsPair (in_both (is_low q)) (λ pair. cond (has_mdp context pair) 1 0)
      (λ pair e. one_of (nat_le pair.0 q) (nat_le pair.1 q) (not_both pair e)) here all_here
      ∙ sym (passing (has_mdp context) here)

  abbrev paired_low : List ℕ
  paired_low = filter (λ a. not (mate a == a)) (numbers_from 1 context.reached.mdps)

  abbrev paired_first : List ℕ
  paired_first = filter (λ a. ltb a (mate a)) (numbers_from (context.reached.mdps + 1) (length context.reached.seats - context.reached.mdps))

  mdps_same : length paired_low ≡ length (filter (has_mdp context) here)
  mdps_same =
      let f : ℕ → ℕ = λ x. cond (mate x == x) 0 (is_low q x) in
      let lows : sum_by f (numbers_from 1 q) ≡ sum_by (λ x. cond (not (mate x == x)) 1 0) (numbers_from 1 q) =
      numbers_agree f (λ x. cond (not (mate x == x)) 1 0) 1 q
      (λ x h l. ap (λ t. cond (mate x == x) 0 (cond t 1 0)) (low x q (omega (arith, l))) ∙ unless (mate x == x)) in
      let highs : sum_by f (numbers_from (q + 1) (n - q)) ≡ 0 =
      numbers_none f (q + 1) (n - q)
      (λ x h l. ap (λ t. cond (mate x == x) 0 (cond t 1 0)) (high x q (omega (arith, h))) ∙ no_choice (mate x == x)) in
      omega (arith, told_weight (is_low q), bracket_cut f, lows, highs, low_pairs, passing (λ a. not (mate a == a)) (numbers_from 1 q))

  first_same : length paired_first + length (filter (has_mdp context) here) ≡ length here
  first_same =
      let f : ℕ → ℕ = λ x. stands_first q x (mate x) in
      let lows : sum_by f (numbers_from 1 q) ≡ 0 =
      numbers_none f 1 q (λ x h l. ap (λ t. cond (ltb x (mate x)) (cond t 0 1) 0) (low x q (omega (arith, l))) ∙ no_choice (ltb x (mate x))) in
      let highs : sum_by f (numbers_from (q + 1) (n - q)) ≡ sum_by (λ x. cond (ltb x (mate x)) 1 0) (numbers_from (q + 1) (n - q)) =
      numbers_agree f (λ x. cond (ltb x (mate x)) 1 0) (q + 1) (n - q)
      (λ x h l. ap (λ t. cond (ltb x (mate x)) (cond t 0 1) 0) (high x q (omega (arith, h)))) in
      let all : sum_by (λ pair. of_two (stands_first q) pair + in_both (is_low q) pair) here ≡ sum_by (λ pair. 1) here =
      pairs_same IsPair (λ pair. of_two (stands_first q) pair + in_both (is_low q) pair) (λ pair. 1)
      (λ pair e. one_each q pair.0 pair.1 (numbers_differ context pair.0 pair.1 e) (not_both pair e)) here all_here in
      omega (
        arith,
        told (stands_first q) (λ x. not_first q x x (omega arith)),
        bracket_cut f,
        lows,
        highs,
        passing (λ a. ltb a (mate a)) (numbers_from (q + 1) (n - q)),
        low_pairs,
        all,
        sum_plus (of_two (stands_first q)) (in_both (is_low q)) here,
        sum_of_ones here,
      )

  shape_same : shape_of_mates context mate ≡ made_shape context pairs
  shape_same =
      ap (λ (m : ℕ). record { pairs = length paired_low + length paired_first; mdps = m }) mdps_same
      ∙ ap (λ (p : ℕ). record { pairs = p; mdps = length (filter (has_mdp context) here) })
      (let e : length paired_low + length paired_first ≡ length here = omega (arith, mdps_same, first_same) in e)

  pub matching_fits : FitsHere context (made_shape context pairs)
  matching_fits = subst (FitsHere context) shape_same (mates_fit_here context mate are back within)

  -- ---- those who are left over

  abbrev alone : List ℕ
  alone = alone_of context mate

  alone_sum : (u : ℕ → ℕ) → sum_by u alone + sum_by (in_both u) here ≡ sum_by u (numbers_from 1 n)
  alone_sum u = omega (arith, parted (λ a. mate a == a) u (numbers_from 1 n), told_weight u)

  all_out : All (IsOut context) there
  all_out = out_kept context pairs is.matching.may_meet

  abbrev may : ℕ → Bool
  may = number_may_be_left context.facts context.reached

  -- elsewhere than in the penultimate bracket they are those whom the matching leaves over
  module _ (single : is_penultimate context.reached.kind ≡ false) where
    same_sum : (u : ℕ → ℕ) → sum_by u alone ≡ sum_by u out
    same_sum u =
        omega (
          arith,
          alone_sum u,
          is.matching.whole u,
          two_parts u,
          ap (sum_by (in_both u)) (none_out context single there all_out),
          ap (λ t. sum_by u (numbers_from 1 (cond t (n + length context.lower) n))) single,
        )

    leave_by : (ends : Bool) → ends_round context.reached.kind ≡ ends → (not ends || leaves_one may alone) ≡ true
    leave_by false e = refl
    leave_by true e =
        leaves_few may alone
        (omega (arith, is.few (ends_other context.reached.kind e), same_sum (λ v. 1), sum_of_ones alone, sum_of_ones out))
        (λ x some.
        let stays : may_stay context x ≡ true = of_member (Stays context) x out is.matching.may_be_left (omega (arith, some, same_sum (one x))) in
        ap (λ t. not t || may x) (sym e)
        ∙ ap (λ t. cond t (seats_may_be_left context.facts (any_seat context x)) (not (ends_round context.reached.kind) || may x)) (sym single) ∙ stays)

  module _ (again : is_penultimate context.reached.kind ≡ true) where
    abbrev seats_out : List ℕ
    seats_out = map (any_seat context) out

    -- whoever is left over of the bracket, and all lower players, by number
    abbrev others : List ℕ
    others = alone ++ lowers context

    others_made : MakeUp others there out
    others_made u =
        omega (
          arith,
          is.matching.whole u,
          two_parts u,
          alone_sum u,
          sum_by-append u alone (lowers context),
          ap (λ t. sum_by u (numbers_from 1 (cond t (n + length context.lower) n))) again,
          numbers_cut u 1 n (length context.lower),
        )

    left : AsOption seats_out
    left = as_option seats_out (omega (arith, is.few (penultimate_other context.reached.kind again), length-map out (any_seat context)))

    witness : IsWitness (seats_meet context.facts) (seats_may_be_left context.facts) (map (any_seat context) others) (map (by_seat context) there) left.value
    witness = record {
      whole = λ w. omega (
        arith,
        others_made (λ v. w (any_seat context v)),
        sum_map (in_both w) (by_seat context) there,
        ap (sum_by w) left.is,
        sum_map w (any_seat context) out,
        sum_map w (any_seat context) others,
      );
      may_meet = seats_kept context there all_out;
      may_stay = subst (All (SeatStays context)) (sym left.is) (stays_kept context again out is.matching.may_be_left);
    }

    alone_numbers : AllNumbers context.reached.seats alone
    alone_numbers =
        all_filter (λ i. (0 < i) × (i ≤ length context.reached.seats)) _ (numbers_from 1 n) (numbers_within 0 1 n n (omega arith) (omega arith))

    others_are : map (any_seat context) others ≡ map (seat_of context.reached.seats) alone ++ context.lower
    others_are =
        map-append (any_seat context) alone (lowers context)
        ∙ ap (λ xs. xs ++ map (any_seat context) (lowers context)) (inside_mapped context alone alone_numbers)
        ∙ ap (λ xs. map (seat_of context.reached.seats) alone ++ xs) (lower_mapped context)

    others_complete : completable context.facts (map (seat_of context.reached.seats) alone ++ context.lower) ≡ true
    others_complete =
        sym (told_yes context.facts (map (seat_of context.reached.seats) alone ++ context.lower)
        (subst (Completable (seats_meet context.facts) (seats_may_be_left context.facts)) others_are
        (witness_completes (seats_meet context.facts) (seats_may_be_left context.facts) (map (any_seat context) others)
        (map (by_seat context) there) left.value witness)))

  leave_at : (t : Bool) → is_penultimate context.reached.kind ≡ t
      → cond t (completable context.facts (map (seat_of context.reached.seats) alone ++ context.lower))
      (not (ends_round context.reached.kind) || leaves_one may alone) ≡ true
  leave_at true e = others_complete e
  leave_at false e = leave_by e (ends_round context.reached.kind) refl

  -- the pairs of the bracket are those of a candidate that can be chosen
  pub matching_eligible : has_member (eligible_here context (made_shape context pairs)) ≡ true
  matching_eligible =
      subst (λ (s : Shape). has_member (eligible_here context s) ≡ true) shape_same
      (mates_eligible context mate are back within (leave_at (is_penultimate context.reached.kind) refl))
