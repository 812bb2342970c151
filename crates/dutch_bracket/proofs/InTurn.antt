-- The comparison of qualities as one chain, item after item, as `cmp` of the code makes it; the first item in which two differ decides it.
use Rattle.std.proofs.Common.{◌≡◌, ℕ, Bool, false, List, [], ◌∷◌, Some, refl, ap, sym, ◌∙◌}
use Rattle.std.specs.Prelude.{if◌then◌else◌}
use Rattle.std.specs.Option.{option_map_or}
use Rattle.std.specs.declared.cmp.Ordering.{Ordering}
use Rattle.std.specs.declared.cmp.Ordering.TheVariants.{Less, Equal, Greater}
use Rattle.std.specs.Ordering.{nat_cmp, on, then_cmp, flip_args, is_lt, is_ne, ordering_then}
use Rattle.std.specs.Cmp.Lexicographic.{slice_cmp}
use Rattle.dutch_bracket.specs.declared.item.Item.{Item}
use Rattle.dutch_bracket.specs.declared.item.Item.TheVariants.{Psd, WideDifferences, ThirdColours, MissedPreferences, MissedStrong, DownAgain, UpAgain, DownAgainBefore, UpAgainBefore, DownAgainBy, UpAgainBy, DownAgainBeforeBy, UpAgainBeforeBy}
use Rattle.dutch_bracket.specs.Prelude.{Quality, all_items, compared_in, first_that_differs, is_better}

-- by a number first, and then by something else
abbrev pub number_then : (Quality → ℕ) → (Quality → Quality → Ordering) → Quality → Quality → Ordering
number_then item others = then_cmp (on item nat_cmp) others

-- by a list first, and then by something else
abbrev pub list_then : (Quality → List ℕ) → (Quality → Quality → Ordering) → Quality → Quality → Ordering
list_then item others = then_cmp (on item (slice_cmp nat_cmp)) others

-- C.16 to C.19
abbrev pub compared_by_differences : Quality → Quality → Ordering
compared_by_differences =
    list_then (λ q. q.down_again_by) (list_then (λ q. q.up_again_by) (list_then (λ q. q.down_again_before_by) (on (λ q. q.up_again_before_by) (slice_cmp nat_cmp))))

-- C.12 to C.15, and then the differences
abbrev pub compared_by_floats : Quality → Quality → Ordering
compared_by_floats =
    number_then (λ q. q.down_again) (number_then (λ q. q.up_again) (number_then (λ q. q.down_again_before) (number_then (λ q. q.up_again_before) compared_by_differences)))

-- C.8 to C.11, and then the floats
abbrev pub compared_by_colours : Quality → Quality → Ordering
compared_by_colours =
    number_then (λ q. q.wide_differences) (number_then (λ q. q.third_colours) (number_then (λ q. q.missed_preferences) (number_then (λ q. q.missed_strong) compared_by_floats)))

-- C.6, then C.7, and then the colours
abbrev pub compared : Quality → Quality → Ordering
compared =
    list_then (λ q. q.psd) (then_cmp (on (λ q. q.next_pairs) (flip_args nat_cmp)) (list_then (λ q. q.next_psd) compared_by_colours))

then_equal : (o : Ordering) → ordering_then o Equal ≡ o
then_equal Less = refl
then_equal Equal = refl
then_equal Greater = refl

then_then : (o p q : Ordering) → ordering_then (ordering_then o p) q ≡ ordering_then o (ordering_then p q)
then_then Less p q = refl
then_then Equal p q = refl
then_then Greater p q = refl

module _ (a b : Quality) where
  -- by some items in turn
  abbrev pub in_turn : List Item → Ordering
  in_turn [] = Equal
  in_turn (item ∷ items) = ordering_then (compared_in item a b) (in_turn items)

  pub compared_in_turn : compared a b ≡ in_turn all_items
  compared_in_turn =
      let by : Item → Ordering → Ordering = λ item o. ordering_then (compared_in item a b) o in
      ap (λ o. by Psd (ordering_then (nat_cmp b.next_pairs a.next_pairs) (ordering_then (slice_cmp nat_cmp a.next_psd b.next_psd)
      (by WideDifferences (by ThirdColours (by MissedPreferences (by MissedStrong (by DownAgain (by UpAgain (by DownAgainBefore (by UpAgainBefore (by DownAgainBy (by UpAgainBy (by DownAgainBeforeBy o))))))))))))))
      (sym (then_equal (compared_in UpAgainBeforeBy a b)))
      ∙ ap (by Psd) (sym (then_then (nat_cmp b.next_pairs a.next_pairs) (slice_cmp nat_cmp a.next_psd b.next_psd)
      (in_turn (WideDifferences ∷ ThirdColours ∷ MissedPreferences ∷ MissedStrong ∷ DownAgain ∷ UpAgain ∷ DownAgainBefore ∷ UpAgainBefore ∷ DownAgainBy ∷ UpAgainBy ∷ DownAgainBeforeBy ∷ UpAgainBeforeBy ∷ []))))

  -- whether it stands in front at the first of some items that differs
  abbrev in_front_at_first : List Item → Bool
  in_front_at_first items = option_map_or (λ item. is_lt (compared_in item a b)) (first_that_differs items a b) false

  first_at : (item : Item) (items : List Item) (o : Ordering) → compared_in item a b ≡ o → in_front_at_first items ≡ is_lt (in_turn items)
      → option_map_or (λ item. is_lt (compared_in item a b)) (if is_ne o then Some item else first_that_differs items a b) false ≡ is_lt (ordering_then o (in_turn items))
  first_at item items Less e later = ap is_lt e
  first_at item items Equal e later = later
  first_at item items Greater e later = ap is_lt e

  first_decides : (items : List Item) → in_front_at_first items ≡ is_lt (in_turn items)
  first_decides [] = refl
  first_decides (item ∷ items) = first_at item items (compared_in item a b) refl (first_decides items)

  -- a quality is better than another where the chain says so
  pub better_in_turn : is_better a b ≡ is_lt (compared a b)
  unfolding is_better
  better_in_turn = first_decides all_items ∙ sym (ap is_lt compared_in_turn)
