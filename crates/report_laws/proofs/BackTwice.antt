-- A report that is taken back, and then further, is what it is when it is taken back so far at once.
use Rattle.std.proofs.Common.{◌≡◌, ◌⊎◌, inl, inr, ℕ, zero, suc, ◌+◌, ◌-◌, ◌<◌, ◌≤◌, Bool, true, false, ◌&&◌, ◌==◌, nat_eq, nat_lt, cond, List, [], ◌∷◌, get_or, take, map, refl, sym, ap, ◌∙◌, arith, subst, Option, Some, None}
use Rattle.std.specs.Prelude.{option_map, sum_by}
use Rattle.std.specs.List.{list_all}
use Rattle.std.proofs.lemmas.Bool.{eqb-true, eqb-false, eq-eqb, ne_eqb, lt-ltb}
use Rattle.trf16_report.specs.Prelude.{without_last, Entry, Sheet, cell_at, half_points, rounds_played, is_blank_cell, with_cell, cell_back, cells_back, entry_back, line_back, taken_back, before_round}
use Rattle.trf16_report.specs.declared.cell.Cell.{Cell}
use Rattle.trf16_report.specs.declared.cell.Cell.TheVariants.{Blank}
use Rattle.trf16_report.proofs.BackLemmas.{line_back-twice}
use Rattle.trf16_laws.proofs.PairedRound.{with_cell-here, with_cell-there}
use Rattle.report_laws.proofs.CellLemmas.{AreAlike, all-alike, look_alike, taken-alike, rest_alike}
use Rattle.report_laws.proofs.FieldLemmas.{points-alike}
use Rattle.report_laws.proofs.CellsBack.{back-there, start-back}
use Rattle.report_laws.proofs.ViewCases.{IsAsItIs, IsTakenBack, which}

-- ---- cells

-- lists of cells that are alike are the same without the blank cells at their ends
cut-same : (xs ys : List Cell) → AreAlike xs ys → without_last is_blank_cell xs ≡ without_last is_blank_cell ys
cut-same [] [] same = refl
cut-same (x ∷ xs) [] same = rw (all-alike is_blank_cell refl (x ∷ xs) [] (look_alike is_blank_cell (x ∷ xs) [] same)) refl
cut-same [] (y ∷ ys) same = rw (sym (all-alike is_blank_cell refl [] (y ∷ ys) (look_alike is_blank_cell [] (y ∷ ys) same))) refl
cut-same (x ∷ xs) (y ∷ ys) same =
    let all : list_all is_blank_cell (x ∷ xs) ≡ list_all is_blank_cell (y ∷ ys) = all-alike is_blank_cell refl (x ∷ xs) (y ∷ ys) (look_alike is_blank_cell (x ∷ xs) (y ∷ ys) same) in
    let here : x ≡ y = same 0 in
    ap (λ b. cond b [] (x ∷ without_last is_blank_cell xs)) all
    ∙ ap (λ (c : Cell). cond (list_all is_blank_cell (y ∷ ys)) [] (c ∷ without_last is_blank_cell xs)) here
    ∙ ap (λ (cs : List Cell). cond (list_all is_blank_cell (y ∷ ys)) [] (y ∷ cs)) (cut-same xs ys (rest_alike x y xs ys same))

set-alike : (n : ℕ) (cell : Cell) (xs ys : List Cell) → AreAlike xs ys → AreAlike (with_cell n cell xs) (with_cell n cell ys)
set-alike n cell xs ys same i = by (nat_eq i n) refl
  where
    by : (b : Bool) → nat_eq i n ≡ b → get_or (with_cell n cell xs) i Blank ≡ get_or (with_cell n cell ys) i Blank
    by true e =
        let is : n ≡ i = sym (eqb-true i n e) in
        subst (λ k. get_or (with_cell n cell xs) k Blank ≡ get_or (with_cell n cell ys) k Blank) is (with_cell-here n cell xs ∙ sym (with_cell-here n cell ys))
    by false e =
        let other : i ≡ n → ⊥ = eqb-false i n e in
        with_cell-there n i cell xs other ∙ same i ∙ sym (with_cell-there n i cell ys other)

cells-twice : (n m : ℕ) (cells : List Cell) → n < m → cells_back n (cells_back m cells) ≡ cells_back n cells
cells-twice n m cells lt =
    let place : n + 1 - 1 ≡ n = omega arith in
    let here : cell_at (cells_back m cells) (n + 1) ≡ cell_at cells (n + 1) = back-there m (n + 1 - 1) cells (omega arith) in
    ap (λ c. without_last is_blank_cell (with_cell n (cell_back c) (take n (cells_back m cells)))) here
    ∙ cut-same (with_cell n (cell_back (cell_at cells (n + 1))) (take n (cells_back m cells))) (with_cell n (cell_back (cell_at cells (n + 1))) (take n cells))
    (set-alike n (cell_back (cell_at cells (n + 1))) (take n (cells_back m cells)) (take n cells) (taken-alike m n (cells_back m cells) cells (omega arith) (start-back m cells)))

-- ---- players and lines

same_entry : {start line : ℕ} {points points' : Option ℕ} {left right : List ℕ} {cells cells' : List Cell} → points ≡ points' → cells ≡ cells'
    → ◌≡◌ {A = Entry} (record { start = start; line = line; points = points; left = left; right = right; cells = cells }) (record { start = start; line = line; points = points'; left = left; right = right; cells = cells' })
same_entry e f = cc

entry-twice : (bye n m : ℕ) (entry : Entry) → n < m → entry_back bye n (entry_back bye m entry) ≡ entry_back bye n entry
entry-twice bye n m entry lt = same_entry (by entry.points) (cells-twice n m entry.cells lt)
  where
    by : (o : Option ℕ)
        → option_map (λ _. sum_by (half_points bye) (take n (cells_back m entry.cells))) (option_map (λ _. sum_by (half_points bye) (take m entry.cells)) o)
        ≡ option_map (λ _. sum_by (half_points bye) (take n entry.cells)) o
    by None = refl
    by (Some points) = ap (λ k. Some k) (points-alike bye m (cells_back m entry.cells) entry.cells n (start-back m entry.cells) (omega arith))

entries-twice : (bye n m : ℕ) (entries : List Entry) → n < m → map (entry_back bye n) (map (entry_back bye m) entries) ≡ map (entry_back bye n) entries
entries-twice bye n m [] lt = refl
entries-twice bye n m (entry ∷ rest) lt =
    ap (λ (e : Entry). e ∷ map (entry_back bye n) (map (entry_back bye m) rest)) (entry-twice bye n m entry lt)
    ∙ ap (λ (es : List Entry). entry_back bye n entry ∷ es) (entries-twice bye n m rest lt)

lines-twice : (utf8 : Bool) (lines : List (Option (List ℕ))) → map (option_map (line_back utf8)) (map (option_map (line_back utf8)) lines) ≡ map (option_map (line_back utf8)) lines
lines-twice utf8 [] = refl
lines-twice utf8 (None ∷ rest) = ap (λ (ls : List (Option (List ℕ))). None ∷ ls) (lines-twice utf8 rest)
lines-twice utf8 (Some line ∷ rest) =
    ap (λ (l : List ℕ). Some l ∷ map (option_map (line_back utf8)) (map (option_map (line_back utf8)) rest)) (line_back-twice utf8 line)
    ∙ ap (λ (ls : List (Option (List ℕ))). Some (line_back utf8 line) ∷ ls) (lines-twice utf8 rest)

-- ---- reports

back-twice : (report : Sheet) (n m : ℕ) → n < m → taken_back (taken_back report m) n ≡ taken_back report n
back-twice report n m lt =
    ap (λ (ls : List (Option (List ℕ))). record report { carried = ls; players = map (entry_back report.bye n) (map (entry_back report.bye m) report.players) }) (lines-twice report.utf8 report.carried)
    ∙ ap (λ (es : List Entry). record report { carried = map (option_map (line_back report.utf8)) report.carried; players = es }) (entries-twice report.bye n m report.players lt)

-- before a round that is not the next, a report is what is taken back of it, if that has this next round
abbrev found_by : Sheet → Sheet → ℕ → Option Sheet
found_by report back n = cond (nat_lt n (rounds_played report) && (rounds_played back == n)) (Some back) None

earlier_is : (report : Sheet) (n : ℕ) → n < rounds_played report → before_round report (suc n) ≡ cond (rounds_played (taken_back report n) == n) (Some (taken_back report n)) None
earlier_is report n lt = rw (ne_eqb n (rounds_played report) (λ e. omega arith), lt-ltb n (rounds_played report) lt) refl

pub twice_is_once : (report view : Sheet) (round earlier : ℕ) → before_round report round ≡ Some view → earlier ≤ round → before_round view earlier ≡ before_round report earlier
twice_is_once report view round zero found le = refl
twice_is_once report view zero (suc n) found le = absurd (omega arith)
twice_is_once report view (suc m) (suc n) found le = by (which report view m found)
  where
    same : IsTakenBack report view m → (n == m) ≡ true → before_round view (suc n) ≡ before_round report (suc n)
    same back e =
        let is : n ≡ m = eqb-true n m e in
        let played : rounds_played view ≡ m = ap rounds_played back.is ∙ back.played in
        let here : before_round view (suc n) ≡ Some view = rw (eq-eqb n (rounds_played view) (omega arith)) refl in
        here ∙ sym found ∙ ap (λ k. before_round report (suc k)) (sym is)

    less : IsTakenBack report view m → (n == m) ≡ false → before_round view (suc n) ≡ before_round report (suc n)
    less back e =
        let other : n ≡ m → ⊥ = eqb-false n m e in
        let played : rounds_played view ≡ m = ap rounds_played back.is ∙ back.played in
        let lt : n < m = below n m le other in
        let earlier : m < rounds_played report = back.earlier in
        let once : taken_back view n ≡ taken_back report n = ap (λ (s : Sheet). taken_back s n) back.is ∙ back-twice report n m lt in
        earlier_is view n (omega arith)
        ∙ ap (λ (s : Sheet). cond (rounds_played s == n) (Some s) None) once
        ∙ sym (earlier_is report n (omega arith))
      where
        below : (n m : ℕ) → suc n ≤ suc m → (n ≡ m → ⊥) → n < m
        below n m le other = grind arith

    by : IsAsItIs report view m ⊎ IsTakenBack report view m → before_round view (suc n) ≡ before_round report (suc n)
    by (inl it) = ap (λ (s : Sheet). before_round s (suc n)) it.is
    by (inr back) = elim (n == m) as (λ b. (n == m) ≡ b → before_round view (suc n) ≡ before_round report (suc n)) [ true ↦ same back | false ↦ less back ] refl
