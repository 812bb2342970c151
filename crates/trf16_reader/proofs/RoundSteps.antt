-- The rounds of a line, one after the other, and that behind its end all are blank.
use Rattle.std.proofs.Common.{◌≡◌, ℕ, zero, suc, ◌+◌, ◌-◌, ◌*◌, ◌<◌, true, List, [], ◌∷◌, take, drop, replicate, refl, sym, ap, ◌∙◌, arith, Some, Ok}
use Rattle.std.specs.List.{AllByRecursion}
use Rattle.std.proofs.lemmas.List.{drop-drop}
use Rattle.trf16_report.specs.Prelude.{joined, text, is_blank, cell_from, blank_at, blanks_at, round_at, rounds_at}
use Rattle.trf16_report.specs.declared.cell.Cell.{Cell}
use Rattle.trf16_report.specs.declared.cell.Cell.TheVariants.{Blank}

-- the columns from a place on, by the columns behind that place
pub text-behind : (cols : List (List ℕ)) (at i j : ℕ) → 0 < i → text cols (at + i) (at + j) ≡ text (drop at cols) i j
text-behind cols at i j some =
    let size : (at + j) - ((at + i) - 1) ≡ j - (i - 1) = omega arith in
    let from : (at + i) - 1 ≡ at + (i - 1) = omega arith in
    rw (size, from) (ap (λ (cs : List (List ℕ)). joined (take (j - (i - 1)) cs)) (sym (drop-drop' (i - 1) at cols)))
  where
    drop-drop' : (m n : ℕ) (l : List (List ℕ)) → drop m (drop n l) ≡ drop (n + m) l
    drop-drop' m n l = drop-drop m n l

pub blank_from : (n : ℕ) (line : List (List ℕ)) (k : ℕ) → is_blank (text line k k) ≡ true → blank_at n line k ≡ Ok tt
unfolding blank_at
blank_from n line k e = rw e refl

pub blanks_from : (n : ℕ) (line : List (List ℕ)) (columns : List ℕ) → AllByRecursion (λ k. is_blank (text line k k) ≡ true) columns
    → blanks_at n line columns ≡ Ok tt
unfolding blanks_at
blanks_from n line [] all = refl
blanks_from n line (k ∷ others) all = rw (blank_from n line k all.0) (blanks_from n line others all.1)

-- what the columns of a round are
pub record IsRound (cols : List (List ℕ)) (cell : Cell) : Type 0 where
  pub blank5 : is_blank (text cols 5 5) ≡ true
  pub blank7 : is_blank (text cols 7 7) ≡ true
  pub blank9 : is_blank (text cols 9 9) ≡ true
  pub blank10 : is_blank (text cols 10 10) ≡ true
  pub read : cell_from (text cols 1 4) (text cols 6 6) (text cols 8 8) ≡ Some cell

pub round_from : (n : ℕ) (line : List (List ℕ)) (before : ℕ) (cell : Cell) → IsRound (drop (91 + 10 * before) line) cell → round_at n line before ≡ Ok cell
unfolding round_at
round_from n line before cell r =
    let at = 91 + 10 * before in
    let D = drop at line in
    let blank : (k : ℕ) → 0 < k → is_blank (text D k k) ≡ true → is_blank (text line (at + k) (at + k)) ≡ true =
    λ k some h. ap is_blank (text-behind line at k k some) ∙ h in
    rw (
      blanks_from n line ((at + 5) ∷ (at + 7) ∷ (at + 9) ∷ (at + 10) ∷ [])
          (blank 5 (omega arith) r.blank5, (blank 7 (omega arith) r.blank7, (blank 9 (omega arith) r.blank9, (blank 10 (omega arith) r.blank10, tt)))),
      text-behind line at 1 4 (omega arith),
      text-behind line at 6 6 (omega arith),
      text-behind line at 8 8 (omega arith),
      r.read,
    ) refl

-- behind the end of a line
pub none_written : (cols : List (List ℕ)) → cols ≡ [] → IsRound cols Blank
none_written cols e = rw e (record { blank5 = refl; blank7 = refl; blank9 = refl; blank10 = refl; read = refl })

pub next_columns : (line : List (List ℕ)) (before : ℕ) → drop (91 + 10 * (before + 1)) line ≡ drop 10 (drop (91 + 10 * before) line)
next_columns line before =
    let sum : 91 + 10 * (before + 1) ≡ (91 + 10 * before) + 10 = omega arith in
    ap (λ n. drop n line) sum ∙ sym (drop-drop 10 (91 + 10 * before) line)

-- where a line has ended, all further rounds are blank
pub rounds-none : (n : ℕ) (line : List (List ℕ)) (before more : ℕ) → drop (91 + 10 * before) line ≡ [] → rounds_at n line before more ≡ Ok (replicate more Blank)
unfolding rounds_at
rounds-none n line before zero e = refl
rounds-none n line before (suc more) e =
    let here : round_at n line before ≡ Ok Blank = round_from n line before Blank (none_written (drop (91 + 10 * before) line) e) in
    let none : drop (91 + 10 * (before + 1)) line ≡ [] = next_columns line before ∙ ap (λ (cs : List (List ℕ)). drop 10 cs) e in
    rw (here, rounds-none n line (before + 1) more none) refl
