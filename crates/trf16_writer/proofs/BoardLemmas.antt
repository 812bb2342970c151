-- Whom the boards of a round name, as loops look at them, and that nobody is named twice.
use Rattle.std.proofs.Common.{◌≡◌, ℕ, ◌+◌, ◌<◌, ◌≤◌, Bool, true, false, not, ◌&&◌, ◌||◌, nat_eq, List, [], ◌∷◌, length, get_or, drop, refl, sym, ap, ◌∙◌, arith, subst}
use Rattle.std.specs.List.{IsDistinct, AllByRecursion, list_any}
use Rattle.std.proofs.lemmas.Bool.{and_parts, eqb-true, true≢false}
use Rattle.std.proofs.lemmas.Bool.Decides.{nat_tests}
use Rattle.std.proofs.lemmas.List.{drop_more, drop_all}
use Rattle.std.proofs.lemmas.List.Elements.{All-from_recursion, recursion_from_All}
use Rattle.std.proofs.lemmas.Map.Keys.{IsDistinct-head, IsDistinct-tail, IsDistinct-cons}
use Rattle.trf16_report.specs.Prelude.{Sheet, known, rounds_played, absent, CanBePaired, named_by}
use Rattle.trf16_writer.specs.Steps.{is_free, are_free}
use Rattle.trf16_report.specs.declared.limits.TheConstants.{MOST_ROUNDS}

pub eq-self : (n : ℕ) → nat_eq n n ≡ true
eq-self n = grind (arith, nat_tests)

pub eq-sym : (a b : ℕ) → nat_eq a b ≡ nat_eq b a
eq-sym a b = grind (arith, nat_tests)

pub all_in : (P : ℕ → Type 0) (xs : List ℕ) (n : ℕ) → AllByRecursion P xs → list_any (nat_eq n) xs ≡ true → P n
all_in P [] n all is = absurd (true≢false (sym is))
all_in P (x ∷ xs) n all is = by (nat_eq n x) refl is (all_in P xs n all.1)
  where
    by : (here : Bool) → nat_eq n x ≡ here → (here || list_any (nat_eq n) xs) ≡ true → (list_any (nat_eq n) xs ≡ true → P n) → P n
    by true e is later = subst P (sym (eqb-true n x e)) all.0
    by false e is later = later is

none_of : (n : ℕ) (xs : List ℕ) → list_any (nat_eq n) xs ≡ false → AllByRecursion (λ x. nat_eq n x ≡ false) xs
none_of n [] none = tt
none_of n (x ∷ xs) none = by (nat_eq n x) refl none (none_of n xs)
  where
    by : (here : Bool) → nat_eq n x ≡ here → (here || list_any (nat_eq n) xs) ≡ false → (list_any (nat_eq n) xs ≡ false → AllByRecursion (λ x. nat_eq n x ≡ false) xs)
        → AllByRecursion (λ x. nat_eq n x ≡ false) (x ∷ xs)
    by true e none later = absurd (true≢false none)
    by false e none later = (e, later none)

none_from_all : (n : ℕ) (xs : List ℕ) → AllByRecursion (λ x. nat_eq n x ≡ false) xs → list_any (nat_eq n) xs ≡ false
none_from_all n [] all = refl
none_from_all n (x ∷ xs) all = rw all.0 (none_from_all n xs all.1)

-- who is free

record AreFree (sheet : Sheet) (starts : List ℕ) : Type 0 where
  players : AllByRecursion (λ start. known sheet start ≡ true) starts
  present : AllByRecursion (λ start. absent sheet start ≡ false) starts
  once : IsDistinct nat_eq starts

not_false : (b : Bool) → not b ≡ true → b ≡ false
not_false true e = absurd (true≢false (sym e))
not_false false e = refl

are : (sheet : Sheet) (starts : List ℕ) → are_free sheet starts ≡ true → AreFree sheet starts
unfolding IsDistinct
are sheet [] free = record { players = tt; present = tt; once = tt }
are sheet (start ∷ rest) free =
    let both = and_parts (is_free sheet rest start) (are_free sheet rest) free in
    let mine = and_parts (known sheet start) (not (absent sheet start) && not (list_any (nat_eq start) rest)) both.0 in
    let here = and_parts (not (absent sheet start)) (not (list_any (nat_eq start) rest)) mine.1 in
    let others = are sheet rest both.1 in
    record {
      players = (mine.0, others.players);
      present = (not_false (absent sheet start) here.0, others.present);
      once = IsDistinct-cons nat_eq start rest (none_of start rest (not_false (list_any (nat_eq start) rest) here.1)) others.once;
    }

free : (sheet : Sheet) (starts : List ℕ) → AllByRecursion (λ start. known sheet start ≡ true) starts → AllByRecursion (λ start. absent sheet start ≡ false) starts
    → IsDistinct nat_eq starts → are_free sheet starts ≡ true
free sheet [] players present once = refl
free sheet (start ∷ rest) players present once =
    let alone = none_from_all start rest (IsDistinct-head nat_eq start rest once) in
    rw (players.0, present.0, alone) (free sheet rest players.1 present.1 (IsDistinct-tail nat_eq start rest once))

pub paired_from : (boards : List (ℕ × ℕ)) (sheet : Sheet) → rounds_played sheet < MOST_ROUNDS → are_free sheet (named_by boards) ≡ true → CanBePaired boards sheet
paired_from boards sheet within all =
    let a = are sheet (named_by boards) all in
    record {
      players = All-from_recursion (λ start. known sheet start ≡ true) (named_by boards) a.players;
      present = All-from_recursion (λ start. absent sheet start ≡ false) (named_by boards) a.present;
      once = a.once;
      within = within;
    }

pub paired_free : (boards : List (ℕ × ℕ)) (sheet : Sheet) → CanBePaired boards sheet → are_free sheet (named_by boards) ≡ true
paired_free boards sheet can =
    free sheet (named_by boards) (recursion_from_All (λ start. known sheet start ≡ true) (named_by boards) can.players)
    (recursion_from_All (λ start. absent sheet start ≡ false) (named_by boards) can.present) can.once

pub not_free : (boards : List (ℕ × ℕ)) (sheet : Sheet) (i : ℕ) (d : ℕ × ℕ) (later : List (ℕ × ℕ)) (mine : Bool) → i < length boards → later ≡ drop (i + 1) boards
    → are_free sheet (named_by (drop i boards)) ≡ are_free sheet (named_by boards)
    → (mine && are_free sheet (named_by later)) ≡ are_free sheet (named_by (get_or boards i d ∷ later)) → mine ≡ false → CanBePaired boards sheet → false ≡ true
not_free boards sheet i d later mine lt rest all here is can =
    let same : drop i boards ≡ get_or boards i d ∷ later = drop_more boards i d lt ∙ ap (λ (bs : List (ℕ × ℕ)). get_or boards i d ∷ bs) (sym rest) in
    sym (ap (λ b. b && are_free sheet (named_by later)) is) ∙ here ∙ ap (λ (bs : List (ℕ × ℕ)). are_free sheet (named_by bs)) (sym same) ∙ all ∙ paired_free boards sheet can

pub free_end : (boards : List (ℕ × ℕ)) (sheet : Sheet) (i : ℕ) → length boards ≤ i → are_free sheet (named_by (drop i boards)) ≡ are_free sheet (named_by boards)
    → are_free sheet (named_by boards) ≡ true
free_end boards sheet i le all = sym all ∙ ap (λ (bs : List (ℕ × ℕ)). are_free sheet (named_by bs)) (drop_all i boards le)
