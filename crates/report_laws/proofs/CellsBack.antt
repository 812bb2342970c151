-- The cells of a player of whom some rounds stay: those of these rounds are the same, that of the round that is taken back is of no pairing,
-- and behind it all are blank.
use Rattle.std.proofs.Common.{◌≡◌, ℕ, zero, suc, ◌+◌, ◌-◌, ◌<◌, ◌≤◌, Bool, true, false, cond, nat_eq, List, [], ◌∷◌, get_or, take, refl, sym, ap, ◌∙◌, arith}
use Rattle.std.specs.List.{list_all}
use Rattle.std.proofs.lemmas.Bool.{and_parts, eqb-true, eqb-false}
use Rattle.std.proofs.lemmas.List.{get_or_past, get_or-take, length-take}
use Rattle.trf16_report.specs.Prelude.{without_last, cell_at, is_paired, is_blank_cell, with_cell, cell_back, cells_back}
use Rattle.trf16_report.specs.declared.cell.Cell.{Cell}
use Rattle.trf16_report.specs.declared.cell.Cell.TheVariants.{Blank, Bye, Game, Forfeit, Unfinished}
use Rattle.trf16_report.specs.declared.cell.Bye.TheVariants.{Half, Full, Allocated, Zero}
use Rattle.trf16_laws.proofs.PairedRound.{with_cell-here, with_cell-there}
use Rattle.report_laws.proofs.CellLemmas.{StartAlike, EndsUnpaired}

blank : (cell : Cell) → is_blank_cell cell ≡ true → cell ≡ Blank
blank Blank e = refl
blank (Bye kind) e = absurd (cc)
blank (Game opponent colour rated got) e = absurd (cc)
blank (Forfeit opponent colour won) e = absurd (cc)
blank (Unfinished opponent colour) e = absurd (cc)

all_blank : (cells : List Cell) (i : ℕ) → list_all is_blank_cell cells ≡ true → get_or cells i Blank ≡ Blank
all_blank [] i all = get_or_past [] i Blank (omega arith)
all_blank (cell ∷ rest) zero all = blank cell (and_parts (is_blank_cell cell) (list_all is_blank_cell rest) all).0
all_blank (cell ∷ rest) (suc i) all = all_blank rest i (and_parts (is_blank_cell cell) (list_all is_blank_cell rest) all).1

-- blank cells at the end do not tell
pub cut-alike : (cells : List Cell) (i : ℕ) → get_or (without_last is_blank_cell cells) i Blank ≡ get_or cells i Blank
cut-alike [] i = refl
cut-alike (cell ∷ rest) i = by i (list_all is_blank_cell (cell ∷ rest)) refl (λ k. cut-alike rest k)
  where
    by : (i : ℕ) (all : Bool) → list_all is_blank_cell (cell ∷ rest) ≡ all → ((k : ℕ) → get_or (without_last is_blank_cell rest) k Blank ≡ get_or rest k Blank)
        → get_or (cond all [] (cell ∷ without_last is_blank_cell rest)) i Blank ≡ get_or (cell ∷ rest) i Blank
    by i true e later = get_or_past [] i Blank (omega arith) ∙ sym (all_blank (cell ∷ rest) i e)
    by zero false e later = refl
    by (suc i) false e later = later i

-- a round that stays
pub back-there : (n i : ℕ) (cells : List Cell) → i < n → get_or (cells_back n cells) i Blank ≡ get_or cells i Blank
back-there n i cells lt =
    cut-alike (with_cell n (cell_back (cell_at cells (n + 1))) (take n cells)) i
    ∙ with_cell-there n i (cell_back (cell_at cells (n + 1))) (take n cells) (λ e. omega arith)
    ∙ get_or-take n cells i Blank lt

-- the round that is taken back
pub back-here : (n : ℕ) (cells : List Cell) → get_or (cells_back n cells) n Blank ≡ cell_back (get_or cells n Blank)
back-here n cells =
    let place : n + 1 - 1 ≡ n = omega arith in
    cut-alike (with_cell n (cell_back (cell_at cells (n + 1))) (take n cells)) n
    ∙ with_cell-here n (cell_back (cell_at cells (n + 1))) (take n cells)
    ∙ ap (λ i. cell_back (get_or cells i Blank)) place

-- the rounds behind it
pub back-past : (n i : ℕ) (cells : List Cell) → n < i → get_or (cells_back n cells) i Blank ≡ Blank
back-past n i cells lt =
    cut-alike (with_cell n (cell_back (cell_at cells (n + 1))) (take n cells)) i
    ∙ with_cell-there n i (cell_back (cell_at cells (n + 1))) (take n cells) (λ e. omega arith)
    ∙ get_or_past (take n cells) i Blank (omega (arith, length-take n cells))

pub back_unpaired : (cell : Cell) → is_paired (cell_back cell) ≡ false
back_unpaired Blank = refl
back_unpaired (Bye Half) = refl
back_unpaired (Bye Full) = refl
back_unpaired (Bye Allocated) = refl
back_unpaired (Bye Zero) = refl
back_unpaired (Game opponent colour rated got) = refl
back_unpaired (Forfeit opponent colour won) = refl
back_unpaired (Unfinished opponent colour) = refl

pub start-back : (n : ℕ) (cells : List Cell) → StartAlike n (cells_back n cells) cells
start-back n cells = record { same = λ i lt. back-there n i cells lt }

pub ends-back : (n : ℕ) (cells : List Cell) → EndsUnpaired n (cells_back n cells)
ends-back n cells = record { none = λ i le. by i le (nat_eq i n) refl }
  where
    by : (i : ℕ) → n ≤ i → (b : Bool) → nat_eq i n ≡ b → is_paired (get_or (cells_back n cells) i Blank) ≡ false
    by i le true e =
        let same : i ≡ n = eqb-true i n e in
        ap (λ k. is_paired (get_or (cells_back n cells) k Blank)) same ∙ ap is_paired (back-here n cells) ∙ back_unpaired (get_or cells n Blank)
    by i le false e =
        let other : i ≡ n → ⊥ = eqb-false i n e in
        ap is_paired (back-past n i cells (past i le other))
      where
        past : (i : ℕ) → n ≤ i → (i ≡ n → ⊥) → n < i
        past i le other = grind arith
