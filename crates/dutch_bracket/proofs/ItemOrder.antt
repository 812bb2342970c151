-- The order of qualities, item by item: at the first item in which two differ, the better one stands in front.
use Rattle.std.proofs.Common.{◌≡◌, ℕ, suc, ◌+◌, ◌<◌, ◌≤◌, Bool, true, false, List, [], ◌∷◌, length, get_or, drop, Option, Some, None, inl, inr, refl, ap, sym, ◌∙◌, arith}
use Rattle.std.proofs.lemmas.List.{drop_all, drop_more}
use Rattle.std.specs.Prelude.{◌↔◌, if◌then◌else◌}
use Rattle.std.specs.Option.{IsSomeAnd, option_map_or}
use Rattle.std.specs.declared.cmp.Ordering.{Ordering}
use Rattle.std.specs.declared.cmp.Ordering.TheVariants.{Less, Equal, Greater}
use Rattle.std.specs.Ordering.{is_lt, is_ne, ordering_then}
use Rattle.std.proofs.lemmas.Cmp.{tied_itself}
use Rattle.dutch_arrangements.specs.Prelude.{IsIn}
use Rattle.dutch_bracket.specs.declared.item.Item.{Item}
use Rattle.dutch_bracket.specs.Prelude.{DifferFirstIn, IsInFrontIn, article, all_items, compared_in, differs, first_difference, first_that_differs, Quality, is_better}
use Rattle.dutch_bracket.proofs.InTurn.{compared_in_turn, in_turn}
use Rattle.dutch_bracket.proofs.QualityOrder.{both_tied, compared_total, irreflexive, less, listed, same_items}

module _ (a b : Quality) where
  -- ---- the items before the first that differs

  -- items in the order of their articles, from a number on
  abbrev CountUp : ℕ → List Item → Type 0
  CountUp n [] = Unit {0}
  CountUp n (item ∷ items) = (article item ≡ n) × CountUp (suc n) items

  counts_from : (n : ℕ) (items : List Item) (other : Item) → CountUp n items → IsIn other items → n ≤ article other
  counts_from n [] other c m = absurd m
  counts_from n (item ∷ items) other c (inl e) = let same : article other ≡ article item = ap article e in omega (arith, same, c.0)
  counts_from n (item ∷ items) other c (inr m) = let more : suc n ≤ article other = counts_from (suc n) items other c.1 m in omega (arith, more)

  -- the first that differs does, and those before it do not
  abbrev IsFirst : List Item → Item → Type 0
  IsFirst items item = (differs item a b ≡ true) × ((other : Item) → IsIn other items → article other < article item → compared_in other a b ≡ Equal)

  is_first_at : (n : ℕ) (x : Item) (items : List Item) (item : Item) (o : Ordering) → compared_in x a b ≡ o → CountUp n (x ∷ items)
      → (first_that_differs items a b ≡ Some item → IsFirst items item) → (if is_ne o then Some x else first_that_differs items a b) ≡ Some item → IsFirst (x ∷ items) item
  is_first_at n x items item Less e c later h =
      let same : x ≡ item = cc in (
        ap (λ i. differs i a b) (sym same) ∙ ap is_ne e,
        λ other m lt. let low : n ≤ article other = counts_from n (x ∷ items) other c m in absurd (omega (arith, low, lt, c.0, ap article same)),
      )
  is_first_at n x items item Greater e c later h =
      let same : x ≡ item = cc in (
        ap (λ i. differs i a b) (sym same) ∙ ap is_ne e,
        λ other m lt. let low : n ≤ article other = counts_from n (x ∷ items) other c m in absurd (omega (arith, low, lt, c.0, ap article same)),
      )
  is_first_at n x items item Equal e c later h = ((later h).0, λ other m lt. passed other m lt) where
    passed : (other : Item) → IsIn other (x ∷ items) → article other < article item → compared_in other a b ≡ Equal
    passed other (inl same) lt = ap (λ i. compared_in i a b) same ∙ e
    passed other (inr m) lt = (later h).1 other m lt

  is_first : (n : ℕ) (items : List Item) (item : Item) → CountUp n items → first_that_differs items a b ≡ Some item → IsFirst items item
  is_first n [] item c h = let bad : None ≡ Some item = h in absurd (cc)
  is_first n (x ∷ items) item c h = is_first_at n x items item (compared_in x a b) refl c (is_first (suc n) items item c.1) h

  none_differs_at : (x : Item) (items : List Item) (o : Ordering) → compared_in x a b ≡ o → (first_that_differs items a b ≡ None → in_turn a b items ≡ Equal)
      → (if is_ne o then Some x else first_that_differs items a b) ≡ None → ordering_then o (in_turn a b items) ≡ Equal
  none_differs_at x items Less e later h = let bad : Some x ≡ None = h in absurd (cc)
  none_differs_at x items Equal e later h = later h
  none_differs_at x items Greater e later h = let bad : Some x ≡ None = h in absurd (cc)

  none_differs : (items : List Item) → first_that_differs items a b ≡ None → in_turn a b items ≡ Equal
  none_differs [] h = refl
  none_differs (x ∷ items) h = none_differs_at x items (compared_in x a b) refl (none_differs items) h

  none_in_turn : (items : List Item) → in_turn a b items ≡ Equal → first_that_differs items a b ≡ None
  none_in_turn [] tied = refl
  none_in_turn (x ∷ items) tied =
      let both = both_tied (compared_in x a b) (in_turn a b items) tied in
      ap (λ o. if is_ne o then Some x else first_that_differs items a b) both.0 ∙ none_in_turn items both.1

all_count_up : (a b : Quality) → CountUp a b 6 all_items
all_count_up a b = (refl, (refl, (refl, (refl, (refl, (refl, (refl, (refl, (refl, (refl, (refl, (refl, (refl, (refl, tt))))))))))))))

-- ---- the laws

in_front : (a b : Quality) (found : Option Item) → option_map_or (λ item. is_lt (compared_in item a b)) found false ≡ true → IsSomeAnd found (λ item. IsInFrontIn item a b)
in_front a b None h = let bad : false ≡ true = h in absurd (cc)
in_front a b (Some item) h = less (compared_in item a b) h

from_front : (a b : Quality) (found : Option Item) → IsSomeAnd found (λ item. IsInFrontIn item a b) → option_map_or (λ item. is_lt (compared_in item a b)) found false ≡ true
from_front a b None h = absurd h
from_front a b (Some item) h = ap is_lt h

pub better_in_front : (a b : Quality) → (is_better a b ≡ true) ↔ IsSomeAnd (first_difference a b) (λ item. IsInFrontIn item a b)
unfolding is_better
better_in_front a b = (in_front a b (first_difference a b), from_front a b (first_difference a b))

pub differ_first : (a b : Quality) (item : Item) → first_difference a b ≡ Some item → DifferFirstIn item a b
differ_first a b item h =
    let first = is_first a b 6 all_items item (all_count_up a b) h in
    record {
      differ = λ same. let bad : false ≡ true = sym (ap is_ne same) ∙ first.0 in absurd (cc);
      before = λ other lt. first.1 other (listed other) lt;
    }

pub none_if_same : (a b : Quality) → (first_difference a b ≡ None) ↔ (a ≡ b)
none_if_same a b = (
  λ h. same_items a b (compared_in_turn a b ∙ none_differs a b all_items h),
  λ e. ap (first_difference a) (sym e) ∙ none_in_turn a a all_items (sym (compared_in_turn a a) ∙ tied_itself compared_total a),
)

-- ---- one item more

pub differs_here : (a b : Quality) (items : List Item) (i : ℕ) (d : Item) → i < length items → differs (get_or items i d) a b ≡ true
    → first_that_differs (drop i items) a b ≡ Some (get_or items i d)
differs_here a b items i d lt e =
    ap (λ (rest : List Item). first_that_differs rest a b) (drop_more items i d lt)
    ∙ ap (λ (t : Bool). if t then Some (get_or items i d) else first_that_differs (drop (i + 1) items) a b) e

pub differs_later : (a b : Quality) (items : List Item) (i : ℕ) (d : Item) → i < length items → differs (get_or items i d) a b ≡ false
    → first_that_differs (drop i items) a b ≡ first_that_differs (drop (i + 1) items) a b
differs_later a b items i d lt e =
    ap (λ (rest : List Item). first_that_differs rest a b) (drop_more items i d lt)
    ∙ ap (λ (t : Bool). if t then Some (get_or items i d) else first_that_differs (drop (i + 1) items) a b) e

pub none_to_come : (a b : Quality) (items : List Item) (i : ℕ) → length items ≤ i → first_that_differs (drop i items) a b ≡ None
none_to_come a b items i le = ap (λ (rest : List Item). first_that_differs rest a b) (drop_all i items le)

pub none_is_better : (a b : Quality) → first_difference a b ≡ None → (is_better a b ≡ false) × (is_better b a ≡ false)
none_is_better a b h =
    let same = (none_if_same a b).0 h in
    (ap (is_better a) (sym same) ∙ irreflexive a, ap (is_better b) same ∙ irreflexive b)
