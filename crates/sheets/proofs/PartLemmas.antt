-- A table and a section that are put piece by piece are the table and the section.
use Rattle.std.proofs.Common.{◌≡◌, ◌∙◌, ◌+◌, ◌-◌, ◌<◌, ◌≤◌, ℕ, zero, suc, List, [], ◌∷◌, ◌++◌, Option, ap, append-nil, append_assoc, arith, drop, get_or, length, refl, sym}
use Rattle.std.proofs.lemmas.List.{drop_all, drop_more}
use Rattle.std.specs.Prelude.{if◌then◌else◌, None}
use Rattle.common_texts.specs.Prelude.{value_text}
use Rattle.markup.specs.Prelude.{Node, node_text}
use Rattle.tables.specs.declared.key.Key.{Key}
use Rattle.trf16_report.specs.Prelude.{Sheet}
use Rattle.sheets.specs.Parts.{cell, each_down, table}
use Rattle.sheets.specs.StandingsParts.{first_open, is_open, value_cells}
use Rattle.sheets.specs.Steps.{rows_start, table_end, table_start}

pub table_text : (caption : List ℕ) (heads rows : Node) (old : List ℕ)
    → ((((old ++ table_start caption) ++ node_text heads) ++ rows_start) ++ node_text rows) ++ table_end ≡ old ++ node_text (table caption heads rows)
unfolding table
table_text caption heads rows old = simp append_assoc

-- a table that is put piece by piece
pub table_put : (caption : List ℕ) (heads rows : Node) (old started headed begun rowed whole : List ℕ) → started ≡ old ++ table_start caption
    → headed ≡ started ++ node_text heads → begun ≡ headed ++ rows_start → rowed ≡ begun ++ node_text rows → whole ≡ rowed ++ table_end
    → whole ≡ old ++ node_text (table caption heads rows)
table_put caption heads rows old started headed begun rowed whole s h b r e =
    e ∙ ap (λ t. t ++ table_end) (r ∙ ap (λ t. t ++ node_text rows) (b ∙ ap (λ t. t ++ rows_start) (h ∙ ap (λ t. t ++ node_text heads) s)))
    ∙ table_text caption heads rows old

no_values : (keys : List Key) → node_text (value_cells keys []) ≡ []
no_values [] = refl
no_values (key ∷ keys) = refl

-- where the values are at their end there are no more cells
pub values_end : (keys : List Key) (values : List (Option ℕ)) (i : ℕ) (old text : List ℕ)
    → text ++ node_text (value_cells (drop i keys) (drop i values)) ≡ old ++ node_text (value_cells keys values) → length values ≤ i
    → text ≡ old ++ node_text (value_cells keys values)
values_end keys values i old text e end =
    let none : node_text (value_cells (drop i keys) (drop i values)) ≡ [] =
    ap (λ (v : List (Option ℕ)). node_text (value_cells (drop i keys) v)) (drop_all i values end) ∙ no_values (drop i keys) in
    sym (append-nil text) ∙ (ap (λ t. text ++ t) (sym none) ∙ e)

-- one more value
pub values_more : (keys : List Key) (values : List (Option ℕ)) (i : ℕ) (d : Key) (old put whole : List ℕ) → i < length keys → i < length values
    → put ≡ old ++ node_text (cell (value_text (get_or keys i d) (get_or values i None)))
    → old ++ node_text (value_cells (drop i keys) (drop i values)) ≡ whole
    → put ++ node_text (value_cells (drop (i + 1) keys) (drop (i + 1) values)) ≡ whole
values_more keys values i d old put whole lt lt' e so_far =
    let value = node_text (cell (value_text (get_or keys i d) (get_or values i None))) in
    let rest = node_text (value_cells (drop (i + 1) keys) (drop (i + 1) values)) in
    let here : node_text (value_cells (drop i keys) (drop i values)) ≡ value ++ rest =
    rw (drop_more keys i d lt, drop_more values i None lt') refl in
    ap (λ xs. xs ++ rest) e ∙ append_assoc old value rest ∙ ap (λ xs. old ++ xs) (sym here) ∙ so_far

open_step : (sheet : Sheet) (round left : ℕ) → 0 < left
    → first_open sheet round left ≡ (if is_open sheet round then round else first_open sheet (round + 1) (left - 1))
open_step sheet round zero some = absurd (omega arith)
open_step sheet round (suc left) some = ap (λ (n : ℕ). if is_open sheet round then round else first_open sheet (round + 1) n) (omega arith)

-- one round less to look at
pub open_more : (sheet : Sheet) (past rounds : ℕ) → past < rounds
    → first_open sheet (past + 1) (rounds - past)
    ≡ (if is_open sheet (past + 1) then past + 1 else first_open sheet (past + 1 + 1) (rounds - (past + 1)))
open_more sheet past rounds lt =
    open_step sheet (past + 1) (rounds - past) (omega arith)
    ∙ ap (λ (n : ℕ). if is_open sheet (past + 1) then past + 1 else first_open sheet (past + 1 + 1) n) (omega arith)

-- one number less to come
pub down_more : (f : ℕ → Node) (n : ℕ) → 0 < n → node_text (each_down f n) ≡ node_text (f n) ++ node_text (each_down f (n - 1))
down_more f zero some = absurd (omega arith)
down_more f (suc n) some =
    ap (λ (k : ℕ). node_text (f k) ++ node_text (each_down f n)) (omega arith)
    ∙ ap (λ (k : ℕ). node_text (f (suc n)) ++ node_text (each_down f k)) (omega arith)
