-- What stands in a slot once some cells are put, one after the other.
use Rattle.std.proofs.Common.{◌≡◌, ℕ, zero, suc, ◌-◌, ◌<◌, Bool, true, false, cond, ◌&&◌, ◌||◌, List, [], ◌∷◌, ◌++◌, get_or, map, refl, sym, ap, ◌∙◌, arith}
use Rattle.std.specs.Prelude.{◌==◌}
use Rattle.std.specs.List.{list_all, list_any}
use Rattle.std.proofs.lemmas.Bool.{and_parts, eqb-true, eqb-false, true≢false}
use Rattle.std.proofs.lemmas.List.{get_or_past}
use Rattle.trf16_report.specs.Prelude.{Entry, cell_at, cells_of, is_blank_cell, with_cell, without_last}
use Rattle.trf16_report.specs.declared.cell.Cell.{Cell}
use Rattle.trf16_report.specs.declared.cell.Cell.TheVariants.{Blank, Bye, Game, Forfeit, Unfinished}
use Rattle.trf16_laws.proofs.PairedRound.{with_cell-here, with_cell-there}
use Rattle.entries.specs.Prelude.{AreWithin, IsInReport, cell_after, cells_with_new, is_put, player_resummed, player_with_new, same_slot}
use Rattle.entries.specs.declared.entry.NewCell.{NewCell}
use Rattle.entries.specs.declared.entry.Slot.{Slot}

blank : (cell : Cell) → is_blank_cell cell ≡ true → cell ≡ Blank
blank Blank e = refl
blank (Bye kind) e = absurd (cc)
blank (Game opponent colour rated got) e = absurd (cc)
blank (Forfeit opponent colour won) e = absurd (cc)
blank (Unfinished opponent colour) e = absurd (cc)

all_blank : (cells : List Cell) (i : ℕ) → list_all is_blank_cell cells ≡ true → get_or cells i Blank ≡ Blank
all_blank [] i all = get_or_past [] i Blank (omega arith)
all_blank (cell ∷ rest) zero all = blank cell (and_parts (is_blank_cell cell) (list_all is_blank_cell rest) all).0
all_blank (cell ∷ rest) (suc i) all = all_blank rest i (and_parts (is_blank_cell cell) (list_all is_blank_cell rest) all).1

-- blank cells at the end do not tell
pub cut-alike : (cells : List Cell) (i : ℕ) → get_or (without_last is_blank_cell cells) i Blank ≡ get_or cells i Blank
cut-alike [] i = refl
cut-alike (cell ∷ rest) i = by i (list_all is_blank_cell (cell ∷ rest)) refl (λ k. cut-alike rest k)
  where
    by : (i : ℕ) (all : Bool) → list_all is_blank_cell (cell ∷ rest) ≡ all → ((k : ℕ) → get_or (without_last is_blank_cell rest) k Blank ≡ get_or rest k Blank)
        → get_or (cond all [] (cell ∷ without_last is_blank_cell rest)) i Blank ≡ get_or (cell ∷ rest) i Blank
    by i true e later = get_or_past [] i Blank (omega arith) ∙ sym (all_blank (cell ∷ rest) i e)
    by zero false e later = refl
    by (suc i) false e later = later i

-- one cell is put into the cells of a player, or into those of another one
one_put : (new : NewCell) (start round : ℕ) (cells : List Cell) → IsInReport new → 0 < round
    → cell_at (cond (new.slot.player == start) (with_cell (new.slot.round - 1) new.cell cells) cells) round
    ≡ cond (same_slot new.slot (record { player = start; round = round })) new.cell (cell_at cells round)
one_put new start round cells within some = by (new.slot.player == start) (new.slot.round == round) refl
  where
    by : (mine here : Bool) → (new.slot.round == round) ≡ here
        → cell_at (cond mine (with_cell (new.slot.round - 1) new.cell cells) cells) round ≡ cond (mine && here) new.cell (cell_at cells round)
    by false here e = refl
    by true true e =
        let same : new.slot.round ≡ round = eqb-true new.slot.round round e in
        rw same (with_cell-here (round - 1) new.cell cells)
    by true false e =
        let other = eqb-false new.slot.round round e in
        with_cell-there (new.slot.round - 1) (round - 1) new.cell cells (λ same. other (omega (arith, within.0, same)))

-- the cells of a player with some new ones
pub cells-after : (all : List NewCell) (start round : ℕ) (cells : List Cell) → AreWithin all → 0 < round
    → cell_at (cells_with_new all start cells) round ≡ cell_after all (record { player = start; round = round }) (cell_at cells round)
cells-after [] start round cells within some = refl
cells-after (new ∷ rest) start round cells within some =
    cells-after rest start round (cond (new.slot.player == start) (with_cell (new.slot.round - 1) new.cell cells) cells) within.1 some
    ∙ ap (cell_after rest (record { player = start; round = round })) (one_put new start round cells within.0 some)

-- nothing is put
pub after-none : (all : List NewCell) (slot : Slot) (cell : Cell) → is_put all slot ≡ false → cell_after all slot cell ≡ cell
after-none [] slot cell none = refl
after-none (new ∷ rest) slot cell none = by (same_slot new.slot slot) none (after-none rest slot cell)
  where
    by : (here : Bool) → (here || is_put rest slot) ≡ false → (is_put rest slot ≡ false → cell_after rest slot cell ≡ cell) → cell_after rest slot (cond here new.cell cell) ≡ cell
    by true none later = absurd (true≢false none)
    by false none later = later none

-- the players with some new cells
pub players-after : (all : List NewCell) (entries : List Entry) (start round : ℕ) → AreWithin all → 0 < round
    → list_any (λ (entry : Entry). entry.start == start) entries ≡ true
    → cell_at (cells_of (map (player_with_new all) entries) start) round
    ≡ cell_after all (record { player = start; round = round }) (cell_at (cells_of entries start) round)
players-after all [] start round within some is = absurd (true≢false (sym is))
players-after all (entry ∷ entries) start round within some is = by (entry.start == start) refl is (players-after all entries start round within some)
  where
    by : (here : Bool) → (entry.start == start) ≡ here → (here || list_any (λ (entry : Entry). entry.start == start) entries) ≡ true
        → (list_any (λ (entry : Entry). entry.start == start) entries ≡ true → cell_at (cells_of (map (player_with_new all) entries) start) round
        ≡ cell_after all (record { player = start; round = round }) (cell_at (cells_of entries start) round))
        → cell_at (cond here (without_last is_blank_cell (cells_with_new all entry.start entry.cells)) (cells_of (map (player_with_new all) entries) start)) round
        ≡ cell_after all (record { player = start; round = round }) (cell_at (cond here entry.cells (cells_of entries start)) round)
    by true e is later =
        let same : entry.start ≡ start = eqb-true entry.start start e in
        cut-alike (cells_with_new all entry.start entry.cells) (round - 1)
        ∙ cells-after all entry.start round entry.cells within some
        ∙ ap (λ s. cell_after all (record { player = s; round = round }) (cell_at entry.cells round)) same
    by false e is later = later is

-- nobody has the start rank
pub none-after : (all : List NewCell) (entries : List Entry) (start : ℕ) → list_any (λ (entry : Entry). entry.start == start) entries ≡ false
    → cells_of (map (player_with_new all) entries) start ≡ cells_of entries start
none-after all [] start none = refl
none-after all (entry ∷ entries) start none = by (entry.start == start) none (none-after all entries start)
  where
    by : (here : Bool) → (here || list_any (λ (entry : Entry). entry.start == start) entries) ≡ false
        → (list_any (λ (entry : Entry). entry.start == start) entries ≡ false → cells_of (map (player_with_new all) entries) start ≡ cells_of entries start)
        → cond here (without_last is_blank_cell (cells_with_new all entry.start entry.cells)) (cells_of (map (player_with_new all) entries) start) ≡ cond here entry.cells (cells_of entries start)
    by true none later = absurd (true≢false none)
    by false none later = later none

-- points do not tell
pub player_resummed-cells : (bye rounds start : ℕ) (entries : List Entry) → cells_of (map (player_resummed bye rounds) entries) start ≡ cells_of entries start
player_resummed-cells bye rounds start [] = refl
player_resummed-cells bye rounds start (entry ∷ entries) = ap (λ (cells : List Cell). cond (entry.start == start) entry.cells cells) (player_resummed-cells bye rounds start entries)

-- cells that are put behind others
pub after-append : (xs ys : List NewCell) (slot : Slot) (cell : Cell) → cell_after (xs ++ ys) slot cell ≡ cell_after ys slot (cell_after xs slot cell)
after-append [] ys slot cell = refl
after-append (new ∷ xs) ys slot cell = after-append xs ys slot (cond (same_slot new.slot slot) new.cell cell)

pub any-append : (test : NewCell → Bool) (xs ys : List NewCell) → list_any test (xs ++ ys) ≡ (list_any test xs || list_any test ys)
any-append test [] ys = refl
any-append test (x ∷ xs) ys = by (test x) (any-append test xs ys)
  where
    by : (here : Bool) → list_any test (xs ++ ys) ≡ (list_any test xs || list_any test ys)
        → (here || list_any test (xs ++ ys)) ≡ ((here || list_any test xs) || list_any test ys)
    by true later = refl
    by false later = later
