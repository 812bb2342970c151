-- Each present player stands in one of the brackets that a round reaches, bracket by bracket.
use Rattle.std.proofs.Common.{◌≡◌, ◌∙◌, ℕ, zero, suc, ◌+◌, ◌<◌, ◌≤◌, Bool, true, false, ◌||◌, inl, inr, ◌⊎◌, List, [], ◌∷◌, ◌++◌, length, Option, Some, None, refl, sym, ap, arith}
use Rattle.std.proofs.lemmas.Bool.{cases_Bool, cases_lt, cond_both, eq-eqb, or_left, or_right, true≢false}
use Rattle.std.proofs.lemmas.List.Folds.{list_any-append}
use Rattle.std.specs.Prelude.{is_some, option_map, eqb}
use Rattle.std.specs.List.{concat}
use Rattle.dutch_arrangements.specs.Prelude.{is_member, numbers_from}
use Rattle.dutch_player.specs.Prelude.{Facts}
use Rattle.dutch_bracket.specs.Prelude.{Reached, Choice, bracket, choice, completable, downfloaters, scoregroups, all_pairs}
use Rattle.dutch_bracket.specs.declared.reached.BracketKind.TheVariants.{Ordinary, Last, Collapsed}
use Rattle.dutch_bracket.proofs.GroupLemmas.{concat_scoregroups}
use Rattle.dutch_rounds.specs.Prelude.{Round, Pairing, everybody, ending, pairing_in, passing, no_pairing, final_bracket, penultimate_bracket, paired_again, brackets, round, is_reached}
use Rattle.dutch_rounds.proofs.RoundBy.{final_by, penultimate_by, ordinary_by}

other_of : (x y : Bool) → x ≡ false → (x || y) ≡ true → y ≡ true
other_of true y none both = absurd (true≢false none)
other_of false y none both = both

-- a member of two lists, one behind the other, is one of the first or of the second
member_of_either : (x : ℕ) (xs ys : List ℕ) → is_member x (xs ++ ys) ≡ true → (is_member x xs ≡ true) ⊎ (is_member x ys ≡ true)
member_of_either x xs ys e =
    let both : (is_member x xs || is_member x ys) ≡ true = sym (list_any-append (λ y. eqb y x) xs ys) ∙ e in
    elim (cases_Bool (is_member x xs)) [
      | inl yes' ↦ inl yes'
      | inr no' ↦ inr (other_of (is_member x xs) (is_member x ys) no' both)
    ]

member_behind : (x : ℕ) (xs ys : List ℕ) → is_member x ys ≡ true → is_member x (xs ++ ys) ≡ true
member_behind x xs ys e = list_any-append (λ y. eqb y x) xs ys ∙ or_right (is_member x xs) (is_member x ys) e

member_of_numbers : (x first count : ℕ) → first ≤ x → x < first + count → is_member x (numbers_from first count) ≡ true
member_of_numbers x first zero from within = absurd (omega (arith, from, within))
member_of_numbers x first (suc count) from within = elim (cases_lt first x) [
  | inl later ↦
      or_right (eqb first x) (is_member x (numbers_from (suc first) count)) (member_of_numbers x (suc first) count (omega (arith, later)) (omega (arith, within)))
  | inr here ↦
      or_left (eqb first x) (is_member x (numbers_from (suc first) count))
      (eq-eqb first x (omega (arith, from, here)))
]

module _ (facts : Facts) (seat : ℕ) where
  -- where a round is paired, the seat stands in one of its brackets
  abbrev Stands : Round → Type 0
  Stands r = is_some r.pairing ≡ true → is_reached r.reached seat ≡ true

  stands_in_none : Stands (no_pairing facts)
  stands_in_none paired = absurd (true≢false (sym paired))

  -- ---- a bracket before the rest of a round

  rest_paired : (make : Pairing → Pairing) (rest : Option Pairing) → is_some (option_map make rest) ≡ true → is_some rest ≡ true
  rest_paired make None paired = paired
  rest_paired make (Some later) paired = refl

  -- the pairs of a bracket in front of those of the rest
  abbrev with_pairs : Reached → Choice → Pairing → Pairing
  with_pairs reached chosen later = record { pairs = all_pairs reached.seats chosen.lists ++ later.pairs; bye = later.bye }

  stands_here : (reached : Reached) (chosen : Choice) (rest : Round) → is_member seat reached.seats ≡ true → Stands (pairing_in facts reached chosen rest)
  stands_here reached chosen rest here paired = or_left (is_member seat reached.seats) (is_reached rest.reached seat) here

  stands_later : (reached : Reached) (chosen : Choice) (rest : Round) → Stands rest → Stands (pairing_in facts reached chosen rest)
  stands_later reached chosen rest later paired =
      or_right (is_member seat reached.seats) (is_reached rest.reached seat) (later (rest_paired (with_pairs reached chosen) rest.pairing paired))

  -- ---- the bracket that ends a round

  final_at : (reached : Reached) (found : Option Choice) → is_member seat reached.seats ≡ true → Stands (final_by facts reached found)
  final_at reached None here = stands_in_none
  final_at reached (Some chosen) here = stands_here reached chosen (ending facts (downfloaters facts reached chosen.lists)) here

  final_stands : (reached : Reached) → is_member seat reached.seats ≡ true → Stands (final_bracket facts reached)
  final_stands reached here = final_at reached (choice facts reached []) here

  -- ---- the penultimate bracket

  penultimate_at : (reached : Reached) (lower : List ℕ) (found : Option Choice) → (is_member seat reached.seats ≡ true) ⊎ (is_member seat lower ≡ true)
      → Stands (penultimate_by facts reached lower found)
  penultimate_at reached lower None at' = stands_in_none
  penultimate_at reached lower (Some chosen) at' =
      let left : List ℕ = downfloaters facts reached chosen.lists in
      let last : Reached = bracket (reached.number + 1) Collapsed left lower in
      elim at' [
        | inl here ↦ stands_here reached chosen (final_bracket facts last) here
        | inr below ↦ stands_later reached chosen (final_bracket facts last) (final_stands last (member_behind seat left lower below))
      ]

  penultimate_stands : (reached : Reached) (lower : List ℕ) → (is_member seat reached.seats ≡ true) ⊎ (is_member seat lower ≡ true)
      → Stands (penultimate_bracket facts reached lower)
  penultimate_stands reached lower at' = penultimate_at reached lower (choice facts reached lower) at'

  -- ---- an ordinary bracket

  ordinary_at : (reached : Reached) (lower : List ℕ) (goes_on : List ℕ → Round) (found : Option Choice)
      → (is_member seat reached.seats ≡ true) ⊎ (is_member seat lower ≡ true)
      → ((left : List ℕ) → is_member seat lower ≡ true → Stands (goes_on left)) → Stands (ordinary_by facts reached lower goes_on found)
  ordinary_at reached lower goes_on None at' later = stands_in_none
  ordinary_at reached lower goes_on (Some chosen) at' later =
      let left : List ℕ = downfloaters facts reached chosen.lists in
      let again : Round = penultimate_bracket facts (paired_again reached) lower in
      cond_both (completable facts (left ++ lower)) (pairing_in facts reached chosen (goes_on left)) (passing facts reached chosen again) Stands
      (λ t. elim at' [
        | inl here ↦ stands_here reached chosen (goes_on left) here
        | inr below ↦ stands_later reached chosen (goes_on left) (later left below)
      ])
      (λ t paired. or_right (is_member seat reached.seats) (is_reached again.reached seat) (penultimate_stands (paired_again reached) lower at' paired))

  -- ---- all brackets

  brackets_stand : (number : ℕ) (moved_down : List ℕ) (groups : List (List ℕ)) → is_member seat (concat groups) ≡ true
      → Stands (brackets facts number moved_down groups)
  brackets_stand number moved_down [] at' = absurd (true≢false (sym at'))
  brackets_stand number moved_down (group ∷ []) at' =
      let there : is_member seat group ≡ true = elim (member_of_either seat group [] at') [
        | inl here ↦ here
        | inr none ↦ absurd (true≢false (sym none))
      ] in
      final_stands (bracket number Last moved_down group) (member_behind seat moved_down group there)
  brackets_stand number moved_down (group ∷ next ∷ groups) at' =
      let reached : Reached = bracket number Ordinary moved_down group in
      let lower : List ℕ = concat (next ∷ groups) in
      let either : (is_member seat reached.seats ≡ true) ⊎ (is_member seat lower ≡ true) = elim (member_of_either seat group lower at') [
        | inl here ↦ inl (member_behind seat moved_down group here)
        | inr below ↦ inr below
      ] in
      ordinary_at reached lower (λ left. brackets facts (number + 1) left (next ∷ groups)) (choice facts reached lower) either
      (λ left below. brackets_stand (number + 1) left (next ∷ groups) below)

  round_stands : seat < length facts.seats → Stands (round facts)
  round_stands within =
      let all : List ℕ = everybody facts in
      cond_both (completable facts all) (brackets facts 1 [] (scoregroups facts all)) (no_pairing facts) Stands
      (λ t. brackets_stand 1 [] (scoregroups facts all)
      (ap (is_member seat) (concat_scoregroups facts all) ∙ member_of_numbers seat 0 (length facts.seats) (omega arith) (omega (arith, within))))
      (λ t. stands_in_none)

  pub stands_in_one : (pairing : Pairing) → (round facts).pairing ≡ Some pairing → seat < length facts.seats → is_reached (round facts).reached seat ≡ true
  stands_in_one pairing paired within = round_stands within (ap (λ (p : Option Pairing). is_some p) paired)
