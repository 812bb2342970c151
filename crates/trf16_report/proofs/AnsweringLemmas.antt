-- The rules on cells and players, one after the other, as loops look at them.
use Rattle.std.proofs.Common.{◌≡◌, ℕ, Bool, true, false, cond, ◌||◌, ◌+◌, ◌≤◌, ◌<◌, List, [], ◌∷◌, length, get_or, drop, map, Option, Some, None, Result, Ok, Err, refl, sym, ap, ◌∙◌}
use Rattle.std.specs.Prelude.{codes}
use Rattle.std.specs.List.{list_any}
use Rattle.std.specs.Option.{option_map_or}
use Rattle.std.proofs.lemmas.List.{drop_more, drop_all}
use Rattle.std.proofs.lemmas.Slice.Eq.{bytes_eq-Decides}
use Rattle.trf16_report.specs.Prelude.{columns, text, is_kind, is_word, names_absent, names_both, is_of, first_at, Entry, Sheet, entry_of, all_cells_fit, cell_fits, cells_fit, player_fits, players_fit, is_player, carried_line}
use Rattle.std.specs.Prelude.{option_copied, option_map}
use denote.Ref.{Bor}
use Rattle.trf16_report.specs.declared.kind.LineKind.{LineKind}
use Rattle.trf16_report.specs.declared.kind.LineKind.TheVariants.{Xxa, Xxs, Rank}
use Rattle.trf16_report.specs.declared.player.Player.{Player}
use Rattle.trf16_report.specs.declared.cell.Cell.{Cell}
use Rattle.trf16_report.specs.declared.cell.Cell.TheVariants.{Blank}
use Rattle.trf16_report.specs.declared.fault.Fault.{Fault}

abbrev fits : Result (Unit {0}) Fault
fits = Ok (tt {0})

pub cells-more : (sheet : Sheet) (player : ℕ) (cells : List Cell) (i : ℕ) → i < length cells
    → cell_fits sheet player (i + 1) (get_or cells i Blank) ≡ fits → cells_fit sheet player (i + 1) (drop i cells) ≡ cells_fit sheet player (i + 1 + 1) (drop (i + 1) cells)
unfolding cells_fit
cells-more sheet player cells i lt here = rw (drop_more cells i Blank lt, here) refl

pub cells-fail : (sheet : Sheet) (player : ℕ) (cells : List Cell) (i : ℕ) (fault : Fault) → i < length cells
    → cell_fits sheet player (i + 1) (get_or cells i Blank) ≡ Err fault → cells_fit sheet player (i + 1) (drop i cells) ≡ Err fault
unfolding cells_fit
cells-fail sheet player cells i fault lt here = rw (drop_more cells i Blank lt, here) refl

pub cells-end : (sheet : Sheet) (player : ℕ) (cells : List Cell) (i : ℕ) → length cells ≤ i → cells_fit sheet player (i + 1) (drop i cells) ≡ fits
unfolding cells_fit
cells-end sheet player cells i le = rw (drop_all i cells le) refl

pub players-more : (sheet : Sheet) (all : List Entry) (entry : Entry) (rest : List Entry) → all ≡ entry ∷ rest → player_fits sheet entry ≡ fits → players_fit sheet all ≡ players_fit sheet rest
unfolding players_fit
players-more sheet all entry rest e here = rw (e, here) refl

pub players-fail : (sheet : Sheet) (all : List Entry) (entry : Entry) (rest : List Entry) (fault : Fault) → all ≡ entry ∷ rest → player_fits sheet entry ≡ Err fault → players_fit sheet all ≡ Err fault
unfolding players_fit
players-fail sheet all entry rest fault e here = rw (e, here) refl

pub players-end : (sheet : Sheet) (all : List Entry) → all ≡ [] → players_fit sheet all ≡ fits
unfolding players_fit
players-end sheet all e = rw e refl

pub all_cells-more : (sheet : Sheet) (all : List Entry) (entry : Entry) (rest : List Entry) → all ≡ entry ∷ rest → cells_fit sheet entry.start 1 entry.cells ≡ fits
    → all_cells_fit sheet all ≡ all_cells_fit sheet rest
unfolding all_cells_fit
all_cells-more sheet all entry rest e here = rw (e, here) refl

pub all_cells-fail : (sheet : Sheet) (all : List Entry) (entry : Entry) (rest : List Entry) (fault : Fault) → all ≡ entry ∷ rest → cells_fit sheet entry.start 1 entry.cells ≡ Err fault
    → all_cells_fit sheet all ≡ Err fault
unfolding all_cells_fit
all_cells-fail sheet all entry rest fault e here = rw (e, here) refl

pub all_cells-end : (sheet : Sheet) (all : List Entry) → all ≡ [] → all_cells_fit sheet all ≡ fits
unfolding all_cells_fit
all_cells-end sheet all e = rw e refl

-- a player's line is of no other kind
player_is : (line : List (List ℕ)) → is_player line ≡ true → text line 1 3 ≡ codes "001"
player_is line e = (bytes_eq-Decides (text line 1 3) (codes "001")).0 e

pub not_of_kind : (line : List (List ℕ)) (capitals : List ℕ) → is_word (codes "001") capitals ≡ false → is_player line ≡ true → is_kind capitals line ≡ false
not_of_kind line capitals differs e = ap (λ (kind : List ℕ). is_word kind capitals) (player_is line e) ∙ differs

-- a test that no player's line passes, on the lines that are carried
carried_by : (test : List (List ℕ) → Bool) (cols : List (List ℕ)) (line : List ℕ) (utf8 player : Bool) → columns utf8 line ≡ cols → is_player cols ≡ player
    → (player ≡ true → test cols ≡ false) → option_map_or (λ bytes. test (columns utf8 bytes)) (cond player None (Some line)) false ≡ test cols
carried_by test cols line utf8 true same is none = sym (none refl)
carried_by test cols line utf8 false same is none = ap test same

pub carried-test : (test : List (List ℕ) → Bool) (utf8 : Bool) (line : List ℕ) → (is_player (columns utf8 line) ≡ true → test (columns utf8 line) ≡ false)
    → option_map_or (λ bytes. test (columns utf8 bytes)) (carried_line utf8 line) false ≡ test (columns utf8 line)
carried-test test utf8 line none = carried_by test (columns utf8 line) line utf8 (is_player (columns utf8 line)) refl refl none

-- whether some line of these, as it is carried, passes a test
abbrev pub some_of : (List (List ℕ) → Bool) → Bool → List (List ℕ) → Bool
some_of test utf8 all = list_any (λ line. option_map_or (λ bytes. test (columns utf8 bytes)) line false) (map (carried_line utf8) all)

pub some_of-cons : (test : List (List ℕ) → Bool) (utf8 : Bool) (line : List ℕ) (rest : List (List ℕ)) (here : Bool)
    → (is_player (columns utf8 line) ≡ true → test (columns utf8 line) ≡ false) → test (columns utf8 line) ≡ here
    → some_of test utf8 (line ∷ rest) ≡ (here || some_of test utf8 rest)
some_of-cons test utf8 line rest here none is = ap (λ b. b || some_of test utf8 rest) (carried-test test utf8 line none ∙ is)

-- whether a line of one of some kinds is no player's
pub not_of_kinds : (line : List (List ℕ)) (kinds : List LineKind) → is_player line ≡ true → list_any (is_of line) kinds ≡ false
not_of_kinds line [] player = refl
not_of_kinds line (Xxa ∷ kinds) player = rw (not_of_kind line (codes "XXA") refl player) (not_of_kinds line kinds player)
not_of_kinds line (Xxs ∷ kinds) player = rw (not_of_kind line (codes "XXS") refl player) (not_of_kinds line kinds player)
not_of_kinds line (Rank ∷ kinds) player = rw (not_of_kind line (codes "XXC") refl player) (not_of_kinds line kinds player)

pub not_absent : (start : ℕ) (line : List (List ℕ)) → is_player line ≡ true → names_absent start line ≡ false
not_absent start line player = rw (not_of_kind line (codes "XXZ") refl player) refl

pub not_together : (a b : ℕ) (line : List (List ℕ)) → is_player line ≡ true → names_both a b line ≡ false
not_together a b line player = rw (not_of_kind line (codes "XXP") refl player) refl

pub first_at-cons : (test : List (List ℕ) → Bool) (utf8 : Bool) (n : ℕ) (line : List ℕ) (rest : List (List ℕ)) (here : Bool)
    → (is_player (columns utf8 line) ≡ true → test (columns utf8 line) ≡ false) → test (columns utf8 line) ≡ here
    → first_at test utf8 n (map (carried_line utf8) (line ∷ rest)) ≡ cond here (Some n) (first_at test utf8 (n + 1) (map (carried_line utf8) rest))
first_at-cons test utf8 n line rest here none is =
    ap (λ b. cond b (Some n) (first_at test utf8 (n + 1) (map (carried_line utf8) rest))) (carried-test test utf8 line none ∙ is)

-- the cells of what a look-up lends
pub cells-copied : (o : Option (Bor Player)) → option_map_or (λ p. p.now.cells.items) o [] ≡ option_map_or (λ (q : Player). q.cells.items) (option_copied o) []
cells-copied None = refl
cells-copied (Some p) = refl

-- the player that a look-up lends
pub entry-copied : (o : Option (Bor Player)) → option_map (λ p. entry_of p.now) o ≡ option_map entry_of (option_copied o)
entry-copied None = refl
entry-copied (Some p) = refl
