-- The players of a report, seen as a map by start rank and as a list in the order of their lines.
use Rattle.std.proofs.Common.{◌≡◌, ℕ, suc, ◌+◌, ◌<◌, nat_lt, length, take, get_or, Bool, true, false, cond, ◌||◌, ◌==◌, nat_eq, List, [], ◌∷◌, ◌++◌, map, Option, None, Some, refl, sym, ap, ◌∙◌, is_some, arith}
use Rattle.std.specs.List.{list_any}
use Rattle.std.specs.Map.{keys_of, lookup}
use Rattle.std.proofs.lemmas.Bool.{lt-ltb}
use Rattle.std.proofs.lemmas.Bool.Decides.{nat_tests}
use Rattle.std.specs.Option.{option_map_or}
use Rattle.std.specs.Prelude.{option_map}
use Rattle.std.proofs.lemmas.List.{map-append, take_more, length-take-le}
use Rattle.trf16_report.specs.declared.player.Player.{Player}
use Rattle.trf16_report.specs.declared.cell.Cell.{Cell}
use Rattle.trf16_report.specs.Prelude.{player_of, Entry, entry_of, cells_of, is_paired, last_paired, starts_of}

eq-sym : (a b : ℕ) → nat_eq a b ≡ nat_eq b a
eq-sym a b = grind (arith, nat_tests)

known_step : (k start : ℕ) (p : Player) (found : Option Player) (others : Bool) → k ≡ p.start → is_some found ≡ others
    → is_some (cond (nat_eq start k) (Some p) found) ≡ ((p.start == start) || others)
known_step k start p found others same e = rw (same, eq-sym start p.start) (by (nat_eq p.start start) e)
  where
    by : (here : Bool) → is_some found ≡ others → is_some (cond here (Some p) found) ≡ (here || others)
    by true e' = refl
    by false e' = e'

-- a look-up finds a player exactly where some player has the start rank
pub known-lookup : (es : List (ℕ × Player)) (start : ℕ) → keys_of es ≡ map (λ e. e.1.start) es
    → is_some (lookup (nat_eq start) es) ≡ list_any (λ (entry : Entry). entry.start == start) (map (λ e. entry_of e.1) es)
known-lookup [] start keyed = refl
known-lookup (e ∷ es) start keyed =
    known_step e.0 start e.1 (lookup (nat_eq start) es) (list_any (λ (entry : Entry). entry.start == start) (map (λ e. entry_of e.1) es))
    (let first : e.0 ≡ e.1.start = cc in first)
    (known-lookup es start (let rest : keys_of es ≡ map (λ e. e.1.start) es = cc in rest))

pub entries-values : (es : List (ℕ × Player)) → map entry_of (map (λ e. e.1) es) ≡ map (λ e. entry_of e.1) es
entries-values [] = refl
entries-values (e ∷ es) = ap (λ (rest : List Entry). entry_of e.1 ∷ rest) (entries-values es)

-- the start ranks of the players of a map are those of what it says of them
pub starts-entries : (es : List (ℕ × Player)) → map (λ e. e.1.start) es ≡ starts_of (map (λ e. entry_of e.1) es)
starts-entries [] = refl
starts-entries (e ∷ es) = ap (λ (starts : List ℕ). e.1.start ∷ starts) (starts-entries es)

pub none_from : {X : Type 0} (o : Option X) → is_some o ≡ false → o ≡ None
none_from None e = refl
none_from (Some x) e = absurd (cc)

-- a player whose key is their start rank keeps the entries keyed
pub keyed-push : (es : List (ℕ × Player)) (p : Player) → keys_of es ≡ map (λ e. e.1.start) es
    → keys_of (es ++ (p.start, p) ∷ []) ≡ map (λ e. e.1.start) (es ++ (p.start, p) ∷ [])
keyed-push es p keyed =
    map-append (λ (e : ℕ × Player). e.0) es ((p.start, p) ∷ []) ∙ ap (λ (starts : List ℕ). starts ++ p.start ∷ []) keyed
    ∙ sym (map-append (λ (e : ℕ × Player). e.1.start) es ((p.start, p) ∷ []))

cells_step : (k start : ℕ) (p : Player) (found : Option Player) (others : List Cell) → k ≡ p.start → option_map_or (λ (q : Player). q.cells.items) found [] ≡ others
    → option_map_or (λ (q : Player). q.cells.items) (cond (nat_eq start k) (Some p) found) [] ≡ cond (p.start == start) p.cells.items others
cells_step k start p found others same e = rw (same, eq-sym start p.start) (by (nat_eq p.start start) e)
  where
    by : (here : Bool) → option_map_or (λ (q : Player). q.cells.items) found [] ≡ others
        → option_map_or (λ (q : Player). q.cells.items) (cond here (Some p) found) [] ≡ cond here p.cells.items others
    by true e' = refl
    by false e' = e'

-- the cells that a look-up finds
pub cells-lookup : (es : List (ℕ × Player)) (start : ℕ) → keys_of es ≡ map (λ e. e.1.start) es
    → option_map_or (λ (p : Player). p.cells.items) (lookup (nat_eq start) es) [] ≡ cells_of (map (λ e. entry_of e.1) es) start
cells-lookup [] start keyed = refl
cells-lookup (e ∷ es) start keyed =
    cells_step e.0 start e.1 (lookup (nat_eq start) es) (cells_of (map (λ e. entry_of e.1) es) start)
    (let first : e.0 ≡ e.1.start = cc in first)
    (cells-lookup es start (let rest : keys_of es ≡ map (λ e. e.1.start) es = cc in rest))

entry_step : (k start : ℕ) (p : Player) (found : Option Player) (others : Option Entry) → k ≡ p.start → option_map entry_of found ≡ others
    → option_map entry_of (cond (nat_eq start k) (Some p) found) ≡ cond (p.start == start) (Some (entry_of p)) others
entry_step k start p found others same e = rw (same, eq-sym start p.start) (by (nat_eq p.start start) e)
  where
    by : (here : Bool) → option_map entry_of found ≡ others → option_map entry_of (cond here (Some p) found) ≡ cond here (Some (entry_of p)) others
    by true e' = refl
    by false e' = e'

-- the player that a look-up finds
pub entry-lookup : (es : List (ℕ × Player)) (start : ℕ) → keys_of es ≡ map (λ e. e.1.start) es
    → option_map entry_of (lookup (nat_eq start) es) ≡ player_of (map (λ e. entry_of e.1) es) start
entry-lookup [] start keyed = refl
entry-lookup (e ∷ es) start keyed =
    entry_step e.0 start e.1 (lookup (nat_eq start) es) (player_of (map (λ e. entry_of e.1) es) start)
    (let first : e.0 ≡ e.1.start = cc in first)
    (entry-lookup es start (let rest : keys_of es ≡ map (λ e. e.1.start) es = cc in rest))

paired_step : (len others : ℕ) (first last : Bool) → 0 < len + 1
    → cond (nat_lt 0 (cond last (len + 1) others)) (cond last (len + 1) others + 1) (cond first 1 0)
    ≡ cond last (suc len + 1) (cond (nat_lt 0 others) (others + 1) (cond first 1 0))
paired_step len others first true h = rw (lt-ltb 0 (len + 1) h) (omega arith)
paired_step len others first false h = refl

-- one more cell
pub last_paired-push : (cells : List Cell) (cell : Cell) → last_paired (cells ++ cell ∷ []) ≡ cond (is_paired cell) (length cells + 1) (last_paired cells)
last_paired-push [] cell = refl
last_paired-push (c ∷ cells) cell = rw (last_paired-push cells cell) (paired_step (length cells) (last_paired cells) (is_paired c) (is_paired cell) (omega arith))

pub last_paired-more : (cells : List Cell) (i : ℕ) (d : Cell) → i < length cells
    → last_paired (take (i + 1) cells) ≡ cond (is_paired (get_or cells i d)) (i + 1) (last_paired (take i cells))
last_paired-more cells i d lt =
    rw (take_more cells i d lt, last_paired-push (take i cells) (get_or cells i d), length-take-le i cells (omega arith)) refl
