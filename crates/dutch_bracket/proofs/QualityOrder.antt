-- Better qualities are in a strict and total order.
use Rattle.std.proofs.Common.{◌≡◌, ℕ, true, false, List, [], ◌∷◌, ◌⊎◌, inl, inr, refl, ap, sym, ◌∙◌}
use Rattle.std.specs.declared.cmp.Ordering.{Ordering}
use Rattle.std.specs.declared.cmp.Ordering.TheVariants.{Less, Equal, Greater}
use Rattle.std.specs.Ordering.{nat_cmp, is_lt, ordering_reverse}
use Rattle.std.specs.Cmp.{IsTotalOrder}
use Rattle.std.specs.Cmp.Lexicographic.{slice_cmp}
use Rattle.std.proofs.lemmas.Cmp.{then_total, on_total, back_total, nat_cmp_total, nat_list_cmp_total, tied_itself}
pub use Rattle.dutch_sequence.proofs.Comparing.{both_tied, numbers_tied, lists_tied}
use Rattle.dutch_arrangements.specs.Prelude.{IsIn}
use Rattle.dutch_bracket.specs.declared.item.Item.{Item}
use Rattle.dutch_bracket.specs.declared.item.Item.TheVariants.{Psd, NextBracket, WideDifferences, ThirdColours, MissedPreferences, MissedStrong, DownAgain, UpAgain, DownAgainBefore, UpAgainBefore, DownAgainBy, UpAgainBy, DownAgainBeforeBy, UpAgainBeforeBy}
use Rattle.dutch_bracket.specs.Prelude.{Quality, all_items, compared_in, is_better}
use Rattle.dutch_bracket.proofs.InTurn.{better_in_turn, compared_in_turn, in_turn, number_then, list_then, compared, compared_by_colours, compared_by_floats, compared_by_differences}

number_total : (item : Quality → ℕ) {others : Quality → Quality → Ordering} → IsTotalOrder others → IsTotalOrder (number_then item others)
number_total item total = then_total (on_total item nat_cmp_total) total

list_total : (item : Quality → List ℕ) {others : Quality → Quality → Ordering} → IsTotalOrder others → IsTotalOrder (list_then item others)
list_total item total = then_total (on_total item nat_list_cmp_total) total

differences_total : IsTotalOrder compared_by_differences
differences_total =
    list_total (λ q. q.down_again_by) (list_total (λ q. q.up_again_by) (list_total (λ q. q.down_again_before_by) (on_total (λ (q : Quality). q.up_again_before_by) nat_list_cmp_total)))

floats_total : IsTotalOrder compared_by_floats
floats_total =
    number_total (λ q. q.down_again) (number_total (λ q. q.up_again) (number_total (λ q. q.down_again_before) (number_total (λ q. q.up_again_before) differences_total)))

colours_total : IsTotalOrder compared_by_colours
colours_total =
    number_total (λ q. q.wide_differences) (number_total (λ q. q.third_colours) (number_total (λ q. q.missed_preferences) (number_total (λ q. q.missed_strong) floats_total)))

pub compared_total : IsTotalOrder compared
compared_total =
    list_total (λ q. q.psd) (then_total (on_total (λ (q : Quality). q.next_pairs) (back_total nat_cmp_total)) (list_total (λ q. q.next_psd) colours_total))

-- each item is one of all
pub listed : (item : Item) → IsIn item all_items
listed Psd = inl refl
listed NextBracket = inr (inl refl)
listed WideDifferences = inr (inr (inl refl))
listed ThirdColours = inr (inr (inr (inl refl)))
listed MissedPreferences = inr (inr (inr (inr (inl refl))))
listed MissedStrong = inr (inr (inr (inr (inr (inl refl)))))
listed DownAgain = inr (inr (inr (inr (inr (inr (inl refl))))))
listed UpAgain = inr (inr (inr (inr (inr (inr (inr (inl refl)))))))
listed DownAgainBefore = inr (inr (inr (inr (inr (inr (inr (inr (inl refl))))))))
listed UpAgainBefore = inr (inr (inr (inr (inr (inr (inr (inr (inr (inl refl)))))))))
listed DownAgainBy = inr (inr (inr (inr (inr (inr (inr (inr (inr (inr (inl refl))))))))))
listed UpAgainBy = inr (inr (inr (inr (inr (inr (inr (inr (inr (inr (inr (inl refl)))))))))))
listed DownAgainBeforeBy = inr (inr (inr (inr (inr (inr (inr (inr (inr (inr (inr (inr (inl refl))))))))))))
listed UpAgainBeforeBy = inr (inr (inr (inr (inr (inr (inr (inr (inr (inr (inr (inr (inr (inl refl)))))))))))))

-- what is not told apart in turn is not told apart by any item
tied_each : (a b : Quality) (items : List Item) (item : Item) → in_turn a b items ≡ Equal → IsIn item items → compared_in item a b ≡ Equal
tied_each a b [] item e m = absurd m
tied_each a b (x ∷ items) item e (inl same) = ap (λ i. compared_in i a b) same ∙ (both_tied (compared_in x a b) (in_turn a b items) e).0
tied_each a b (x ∷ items) item e (inr m) = tied_each a b items item (both_tied (compared_in x a b) (in_turn a b items) e).1 m

-- so it is the same
pub same_items : (a b : Quality) → compared a b ≡ Equal → a ≡ b
same_items a b e =
    let each : (item : Item) → compared_in item a b ≡ Equal = λ item. tied_each a b all_items item (sym (compared_in_turn a b) ∙ e) (listed item) in
    let next = both_tied (nat_cmp b.next_pairs a.next_pairs) (slice_cmp nat_cmp a.next_psd b.next_psd) (each NextBracket) in
    λ i. record {
      psd = lists_tied a.psd b.psd (each Psd) i;
      next_pairs = (sym (numbers_tied b.next_pairs a.next_pairs next.0)) i;
      next_psd = lists_tied a.next_psd b.next_psd next.1 i;
      wide_differences = numbers_tied a.wide_differences b.wide_differences (each WideDifferences) i;
      third_colours = numbers_tied a.third_colours b.third_colours (each ThirdColours) i;
      missed_preferences = numbers_tied a.missed_preferences b.missed_preferences (each MissedPreferences) i;
      missed_strong = numbers_tied a.missed_strong b.missed_strong (each MissedStrong) i;
      down_again = numbers_tied a.down_again b.down_again (each DownAgain) i;
      up_again = numbers_tied a.up_again b.up_again (each UpAgain) i;
      down_again_before = numbers_tied a.down_again_before b.down_again_before (each DownAgainBefore) i;
      up_again_before = numbers_tied a.up_again_before b.up_again_before (each UpAgainBefore) i;
      down_again_by = lists_tied a.down_again_by b.down_again_by (each DownAgainBy) i;
      up_again_by = lists_tied a.up_again_by b.up_again_by (each UpAgainBy) i;
      down_again_before_by = lists_tied a.down_again_before_by b.down_again_before_by (each DownAgainBeforeBy) i;
      up_again_before_by = lists_tied a.up_again_before_by b.up_again_before_by (each UpAgainBeforeBy) i;
    }

pub less : (o : Ordering) → is_lt o ≡ true → o ≡ Less
less Less e = refl
less Equal e = absurd (cc)
less Greater e = absurd (cc)

pub irreflexive : (a : Quality) → is_better a a ≡ false
irreflexive a = better_in_turn a a ∙ ap is_lt (tied_itself compared_total a)

pub transitive : (a b c : Quality) → is_better a b ≡ true → is_better b c ≡ true → is_better a c ≡ true
transitive a b c p q =
    better_in_turn a c
    ∙ ap is_lt (compared_total.trans a b c (less (compared a b) (sym (better_in_turn a b) ∙ p)) (less (compared b c) (sym (better_in_turn b c) ∙ q)))

sorted_out : (a b : Quality) (o : Ordering) → compared a b ≡ o → (a ≡ b) ⊎ ((is_better a b ≡ true) ⊎ (is_better b a ≡ true))
sorted_out a b Less e = inr (inl (better_in_turn a b ∙ ap is_lt e))
sorted_out a b Equal e = inl (same_items a b e)
sorted_out a b Greater e = inr (inr (better_in_turn b a ∙ ap is_lt (compared_total.antisymm b a ∙ ap ordering_reverse e)))

pub total : (a b : Quality) → (a ≡ b) ⊎ ((is_better a b ≡ true) ⊎ (is_better b a ≡ true))
total a b = sorted_out a b (compared a b) refl
