-- Lists of cells that say the same of each round, where what stands past the end of a list is blank. What is asked of a player's cells does
-- not depend on how many blank cells stand at their end.
use Rattle.std.proofs.Common.{◌≡◌, ℕ, suc, ◌+◌, ◌<◌, ◌≤◌, Bool, true, false, List, [], ◌∷◌, ◌++◌, get_or, take, Option, Some, None, refl, sym, ap, ◌∙◌, arith, inl, inr, ◌⊎◌}
use Rattle.std.specs.Prelude.{sum_by, reverse}
use Rattle.std.specs.List.{filter_map, list_all, list_any, cons_option}
use Rattle.std.proofs.lemmas.Bool.{cases_lt}
use Rattle.std.proofs.lemmas.List.{append-nil, get_or_past, get_or-take, reverse-append, length-take}
use Rattle.std.proofs.lemmas.List.Elements.{filter_map-append}
use Rattle.std.proofs.lemmas.List.Sums.{sum_by-cons}
use Rattle.trf16_report.specs.Prelude.{is_paired, last_paired, is_unfinished, first_unfinished}
use Rattle.trf16_report.specs.declared.cell.Cell.{Cell}
use Rattle.trf16_report.specs.declared.cell.Cell.TheVariants.{Blank, Bye, Game, Forfeit, Unfinished}
use Rattle.trf16_laws.proofs.PairedRound.{not_paired}

-- the cell of each round passes the same look
abbrev pub LookAlike : {Y : Type 0} → (Cell → Y) → List Cell → List Cell → Type 0
LookAlike look xs ys = (i : ℕ) → look (get_or xs i Blank) ≡ look (get_or ys i Blank)

-- the cell of each round is the same
abbrev pub AreAlike : List Cell → List Cell → Type 0
AreAlike xs ys = (i : ℕ) → get_or xs i Blank ≡ get_or ys i Blank

nothing : (i : ℕ) → ◌≡◌ {A = Cell} (get_or [] i Blank) Blank
nothing i = get_or_past [] i Blank (omega arith)

-- the same of the rounds behind the first
behind : {Y : Type 0} (look : Cell → Y) (x y : Cell) (xs ys : List Cell) → LookAlike look (x ∷ xs) (y ∷ ys) → LookAlike look xs ys
behind look x y xs ys same i = same (suc i)

behind_left : {Y : Type 0} (look : Cell → Y) (x : Cell) (xs : List Cell) → LookAlike look (x ∷ xs) [] → LookAlike look xs []
behind_left look x xs same i = same (suc i) ∙ ap look (nothing (suc i) ∙ sym (nothing i))

behind_right : {Y : Type 0} (look : Cell → Y) (y : Cell) (ys : List Cell) → LookAlike look [] (y ∷ ys) → LookAlike look [] ys
behind_right look y ys same i = ap look (nothing i ∙ sym (nothing (suc i))) ∙ same (suc i)

pub rest_alike : (x y : Cell) (xs ys : List Cell) → AreAlike (x ∷ xs) (y ∷ ys) → AreAlike xs ys
rest_alike x y xs ys same i = same (suc i)

pub look_alike : {Y : Type 0} (look : Cell → Y) (xs ys : List Cell) → AreAlike xs ys → LookAlike look xs ys
look_alike look xs ys same i = ap look (same i)

-- ---- what is asked of cells

pub sum-alike : (f : Cell → ℕ) → f Blank ≡ 0 → (xs ys : List Cell) → LookAlike f xs ys → sum_by f xs ≡ sum_by f ys
sum-alike f none [] [] same = refl
sum-alike f none (x ∷ xs) [] same =
    let here : f x ≡ 0 = same 0 ∙ none in
    let later : sum_by f xs ≡ sum_by f [] = sum-alike f none xs [] (behind_left f x xs same) in
    omega (arith, sum_by-cons f x xs)
sum-alike f none [] (y ∷ ys) same =
    let here : 0 ≡ f y = sym none ∙ same 0 in
    let later : sum_by f [] ≡ sum_by f ys = sum-alike f none [] ys (behind_right f y ys same) in
    omega (arith, sum_by-cons f y ys)
sum-alike f none (x ∷ xs) (y ∷ ys) same =
    let here : f x ≡ f y = same 0 in
    let later : sum_by f xs ≡ sum_by f ys = sum-alike f none xs ys (behind f x y xs ys same) in
    omega (arith, sum_by-cons f x xs, sum_by-cons f y ys)

pub kept-alike : {Y : Type 0} (h : Cell → Option Y) → h Blank ≡ None → (xs ys : List Cell) → LookAlike h xs ys → filter_map h xs ≡ filter_map h ys
kept-alike h none [] [] same = refl
kept-alike h none (x ∷ xs) [] same = let here : h x ≡ None = same 0 ∙ none in rw here (kept-alike h none xs [] (behind_left h x xs same))
kept-alike h none [] (y ∷ ys) same = let here : h y ≡ None = sym (same 0) ∙ none in rw here (kept-alike h none [] ys (behind_right h y ys same))
kept-alike h none (x ∷ xs) (y ∷ ys) same =
    let here : h x ≡ h y = same 0 in
    rw here (ap (cons_option (h y)) (kept-alike h none xs ys (behind h x y xs ys same)))

kept-reverse : {Y : Type 0} (h : Cell → Option Y) (xs : List Cell) → filter_map h (reverse xs) ≡ reverse (filter_map h xs)
kept-reverse h [] = refl
kept-reverse {Y} h (x ∷ xs) =
    ap (filter_map h) (reverse-append (x ∷ []) xs) ∙ filter_map-append h (reverse xs) (x ∷ []) ∙ ap (λ ys. ys ++ filter_map h (x ∷ [])) (kept-reverse h xs) ∙ by (h x)
  where
    by : (o : Option Y) → reverse (filter_map h xs) ++ cons_option o [] ≡ reverse (cons_option o (filter_map h xs))
    by None = append-nil (reverse (filter_map h xs))
    by (Some y) = sym (reverse-append (y ∷ []) (filter_map h xs))

pub reversed-alike : {Y : Type 0} (h : Cell → Option Y) → h Blank ≡ None → (xs ys : List Cell) → LookAlike h xs ys → filter_map h (reverse xs) ≡ filter_map h (reverse ys)
reversed-alike h none xs ys same = kept-reverse h xs ∙ ap reverse (kept-alike h none xs ys same) ∙ sym (kept-reverse h ys)

pub any-alike : (p : Cell → Bool) → p Blank ≡ false → (xs ys : List Cell) → LookAlike p xs ys → list_any p xs ≡ list_any p ys
any-alike p none [] [] same = refl
any-alike p none (x ∷ xs) [] same = let here : p x ≡ false = same 0 ∙ none in rw here (any-alike p none xs [] (behind_left p x xs same))
any-alike p none [] (y ∷ ys) same = let here : p y ≡ false = sym (same 0) ∙ none in rw here (any-alike p none [] ys (behind_right p y ys same))
any-alike p none (x ∷ xs) (y ∷ ys) same =
    let here : p x ≡ p y = same 0 in
    rw (here, any-alike p none xs ys (behind p x y xs ys same)) refl

pub all-alike : (p : Cell → Bool) → p Blank ≡ true → (xs ys : List Cell) → LookAlike p xs ys → list_all p xs ≡ list_all p ys
all-alike p all [] [] same = refl
all-alike p all (x ∷ xs) [] same = let here : p x ≡ true = same 0 ∙ all in rw here (all-alike p all xs [] (behind_left p x xs same))
all-alike p all [] (y ∷ ys) same = let here : p y ≡ true = sym (same 0) ∙ all in rw here (all-alike p all [] ys (behind_right p y ys same))
all-alike p all (x ∷ xs) (y ∷ ys) same =
    let here : p x ≡ p y = same 0 in
    rw (here, all-alike p all xs ys (behind p x y xs ys same)) refl

pub last-alike : (xs ys : List Cell) → LookAlike is_paired xs ys → last_paired xs ≡ last_paired ys
last-alike [] [] same = refl
last-alike (x ∷ xs) [] same =
    let here : is_paired x ≡ false = same 0 in
    rw (last-alike xs [] (behind_left is_paired x xs same), here) refl
last-alike [] (y ∷ ys) same =
    let here : is_paired y ≡ false = sym (same 0) in
    let later : last_paired ys ≡ 0 = sym (last-alike [] ys (behind_right is_paired y ys same)) in
    rw (later, here) refl
last-alike (x ∷ xs) (y ∷ ys) same =
    let here : is_paired x ≡ is_paired y = same 0 in
    rw (last-alike xs ys (behind is_paired x y xs ys same), here) refl

pub first-alike : (n : ℕ) (xs ys : List Cell) → LookAlike is_unfinished xs ys → first_unfinished n xs ≡ first_unfinished n ys
first-alike n [] [] same = refl
first-alike n (x ∷ xs) [] same =
    let here : is_unfinished x ≡ false = same 0 in
    rw here (first-alike (n + 1) xs [] (behind_left is_unfinished x xs same))
first-alike n [] (y ∷ ys) same =
    let here : is_unfinished y ≡ false = sym (same 0) in
    rw here (first-alike (n + 1) [] ys (behind_right is_unfinished y ys same))
first-alike n (x ∷ xs) (y ∷ ys) same =
    let here : is_unfinished x ≡ is_unfinished y = same 0 in
    rw (here, first-alike (n + 1) xs ys (behind is_unfinished x y xs ys same)) refl

-- ---- the first rounds, and those behind the last that is paired

-- the cells of the first so many rounds are the same
pub record StartAlike (rounds : ℕ) (xs ys : List Cell) : Type 0 where
  pub same : (i : ℕ) → i < rounds → get_or xs i Blank ≡ get_or ys i Blank

take_past : (n i : ℕ) (xs : List Cell) → n ≤ i → get_or (take n xs) i Blank ≡ Blank
take_past n i xs le = get_or_past (take n xs) i Blank (omega (arith, length-take n xs))

pub taken-alike : (rounds n : ℕ) (xs ys : List Cell) → n ≤ rounds → StartAlike rounds xs ys → AreAlike (take n xs) (take n ys)
taken-alike rounds n xs ys le start i = by (cases_lt i n)
  where
    by : (i < n) ⊎ (n ≤ i) → get_or (take n xs) i Blank ≡ get_or (take n ys) i Blank
    by (inl lt) = get_or-take n xs i Blank lt ∙ start.same i (omega arith) ∙ sym (get_or-take n ys i Blank lt)
    by (inr past) = take_past n i xs past ∙ sym (take_past n i ys past)

-- no round behind the first so many is paired
pub record EndsUnpaired (rounds : ℕ) (cells : List Cell) : Type 0 where
  pub none : (i : ℕ) → rounds ≤ i → is_paired (get_or cells i Blank) ≡ false

pub not_unfinished : (cell : Cell) → is_paired cell ≡ false → is_unfinished cell ≡ false
not_unfinished Blank e = refl
not_unfinished (Bye kind) e = refl
not_unfinished (Game opponent colour rated got) e = absurd (cc)
not_unfinished (Forfeit opponent colour won) e = absurd (cc)
not_unfinished (Unfinished opponent colour) e = absurd (cc)

pub paired-alike : (rounds : ℕ) (xs ys : List Cell) → StartAlike rounds xs ys → EndsUnpaired rounds xs → EndsUnpaired rounds ys → LookAlike is_paired xs ys
paired-alike rounds xs ys start ends ends' i = by (cases_lt i rounds)
  where
    by : (i < rounds) ⊎ (rounds ≤ i) → is_paired (get_or xs i Blank) ≡ is_paired (get_or ys i Blank)
    by (inl lt) = ap is_paired (start.same i lt)
    by (inr le) = ends.none i le ∙ sym (ends'.none i le)

pub unfinished-alike : (rounds : ℕ) (xs ys : List Cell) → StartAlike rounds xs ys → EndsUnpaired rounds xs → EndsUnpaired rounds ys → LookAlike is_unfinished xs ys
unfinished-alike rounds xs ys start ends ends' i = by (cases_lt i rounds)
  where
    by : (i < rounds) ⊎ (rounds ≤ i) → is_unfinished (get_or xs i Blank) ≡ is_unfinished (get_or ys i Blank)
    by (inl lt) = ap is_unfinished (start.same i lt)
    by (inr le) = not_unfinished (get_or xs i Blank) (ends.none i le) ∙ sym (not_unfinished (get_or ys i Blank) (ends'.none i le))

-- no cell behind the last that is paired is paired
pub ends_unpaired : (rounds : ℕ) (cells : List Cell) → last_paired cells ≤ rounds → EndsUnpaired rounds cells
ends_unpaired rounds cells le = record { none = λ i le'. not_paired i cells (omega arith) }
