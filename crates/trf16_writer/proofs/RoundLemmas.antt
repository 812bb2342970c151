-- The boards and the cells of the next round, as loops look at them.
use Rattle.std.proofs.Common.{◌≡◌, ℕ, zero, suc, ◌<◌, ◌≤◌, false, nat_eq, List, [], ◌∷◌, ◌++◌, length, set, map, None, refl, sym, ap, ◌∙◌, subst, append_assoc, arith}
use Rattle.std.specs.List.{IsDistinct, AllByRecursion, list_any}
use Rattle.std.specs.Map.{keys_of, lookup}
use Rattle.std.proofs.lemmas.List.{append-nil, map-append, length-map}
use Rattle.std.proofs.lemmas.Map.Keys.{IsDistinct-head, IsDistinct-tail}
use Rattle.std.proofs.lemmas.Map.Made.{is_some-lookup}
use Rattle.indexmap.specs.IndexMap.{IndexMap, insert_entry}
use Rattle.indexmap.proofs.CallerLemmas.{insert_entry-new}
use Rattle.trf16_report.specs.Prelude.{Entry, entry_of, starts_of, with_cell}
use Rattle.trf16_writer.specs.Steps.{entry_turned}
use Rattle.trf16_report.specs.declared.player.Player.{Player}
use Rattle.trf16_writer.specs.declared.turn.Turn.{Turn}
use Rattle.trf16_writer.specs.declared.turn.Turn.TheVariants.{Kept, Paired, Summed, TakenBack}
use Rattle.trf16_report.specs.declared.cell.Cell.{Cell}
use Rattle.trf16_report.specs.declared.cell.Cell.TheVariants.{Blank}
use Rattle.trf16_writer.proofs.BoardLemmas.{eq-sym}
use Rattle.trf16_report.proofs.ReportLemmas.{none_from, keyed-push, starts-entries}

-- a blank cell behind the last makes no difference
pub with_cell-blank : (before : ℕ) (cell : Cell) (cells : List Cell) → length cells ≤ before → with_cell before cell (cells ++ Blank ∷ []) ≡ with_cell before cell cells
with_cell-blank zero cell [] le = refl
with_cell-blank zero cell (first ∷ rest) le = absurd (omega arith)
with_cell-blank (suc before) cell [] le = refl
with_cell-blank (suc before) cell (first ∷ rest) le = ap (λ (cs : List Cell). first ∷ cs) (with_cell-blank before cell rest (omega arith))

-- a cell that is there already is replaced
pub with_cell-set : (before : ℕ) (cell : Cell) (cells : List Cell) → before < length cells → with_cell before cell cells ≡ set cells before cell
with_cell-set before cell [] lt = absurd (omega arith)
with_cell-set zero cell (first ∷ rest) lt = refl
with_cell-set (suc before) cell (first ∷ rest) lt = ap (λ (cs : List Cell). first ∷ cs) (with_cell-set before cell rest (omega arith))

-- the players so far, each turned; with the rest they are all players
pub record AreTurned (turn : Entry → Entry) (done : List (ℕ × Player)) (rest all : List Entry) : Type 0 where
  pub keyed : keys_of done ≡ map (λ e. e.1.start) done
  pub whole : map (λ e. entry_of e.1) done ++ map turn rest ≡ map turn all

-- a change of players that leaves their start ranks
abbrev pub KeepsStart : (Entry → Entry) → Type 0
KeepsStart turn = (entry : Entry) → (turn entry).start ≡ entry.start

pub keeps-start : (turn : Turn) (bye rounds : ℕ) → KeepsStart (entry_turned turn bye rounds)
keeps-start Kept bye rounds entry = refl
keeps-start (Paired boards) bye rounds entry = refl
keeps-start Summed bye rounds entry = refl
keeps-start (TakenBack before) bye rounds entry = refl

pub starts-with : (turn : Entry → Entry) → KeepsStart turn → (entries : List Entry) → starts_of (map turn entries) ≡ starts_of entries
starts-with turn keeps [] = refl
starts-with turn keeps (entry ∷ entries) = rw (keeps entry) (ap (λ (starts : List ℕ). entry.start ∷ starts) (starts-with turn keeps entries))

all_at : (P : ℕ → Type 0) (ks : List ℕ) (k : ℕ) (rest : List ℕ) → AllByRecursion P (ks ++ k ∷ rest) → P k
all_at P [] k rest all = all.0
all_at P (x ∷ ks) k rest all = all_at P ks k rest all.1

-- a number behind distinct ones is none of them
pub fresh : (ks : List ℕ) (k : ℕ) (rest : List ℕ) → IsDistinct nat_eq (ks ++ k ∷ rest) → list_any (nat_eq k) ks ≡ false
fresh [] k rest distinct = refl
fresh (x ∷ ks) k rest distinct =
    let apart : nat_eq x k ≡ false = all_at (λ y. nat_eq x y ≡ false) ks k rest (IsDistinct-head nat_eq x (ks ++ k ∷ rest) distinct) in
    rw (eq-sym k x, apart) (fresh ks k rest (IsDistinct-tail nat_eq x (ks ++ k ∷ rest) distinct))

pub turned-absent : (turn : Entry → Entry) → KeepsStart turn → (done : List (ℕ × Player)) (entry : Entry) (rest all : List Entry)
    → AreTurned turn done (entry ∷ rest) all → IsDistinct nat_eq (starts_of all) → lookup (nat_eq entry.start) done ≡ None
turned-absent turn keeps done entry rest all paired distinct =
    let entries = map (λ (e : ℕ × Player). entry_of e.1) done in
    let whole : starts_of entries ++ entry.start ∷ starts_of (map turn rest) ≡ starts_of all =
    ap (λ s. starts_of entries ++ s ∷ starts_of (map turn rest)) (sym (keeps entry))
    ∙ sym (map-append (λ (e : Entry). e.start) entries (map turn (entry ∷ rest))) ∙ ap starts_of paired.whole ∙ starts-with turn keeps all in
    let none : list_any (nat_eq entry.start) (starts_of entries) ≡ false =
    fresh (starts_of entries) entry.start (starts_of (map turn rest)) (subst (IsDistinct nat_eq) (sym whole) distinct) in
    none_from (lookup (nat_eq entry.start) done)
    (is_some-lookup (nat_eq entry.start) done ∙ ap (list_any (nat_eq entry.start)) (paired.keyed ∙ starts-entries done) ∙ none)

pub turned-more : (turn : Entry → Entry) → KeepsStart turn → (done : List (ℕ × Player)) (entry : Entry) (rest all : List Entry) (player : Player)
    → entry_of player ≡ turn entry → AreTurned turn done (entry ∷ rest) all
    → AreTurned turn (done ++ (entry.start, player) ∷ []) rest all
turned-more turn keeps done entry rest all player same paired =
    let start : player.start ≡ entry.start = ap (λ (e : Entry). e.start) same ∙ keeps entry in
    let entries = map (λ (e : ℕ × Player). entry_of e.1) done in
    let others = map turn rest in
    record {
      keyed = subst (λ s. keys_of (done ++ (s, player) ∷ []) ≡ map (λ e. e.1.start) (done ++ (s, player) ∷ [])) start (keyed-push done player paired.keyed);
      whole = ap (λ (es : List Entry). es ++ others) (map-append (λ (e : ℕ × Player). entry_of e.1) done ((entry.start, player) ∷ []))
          ∙ append_assoc entries (entry_of player ∷ []) others ∙ ap (λ (e : Entry). entries ++ e ∷ others) same ∙ paired.whole;
    }

-- one more player, as the loop inserts them
pub turned-insert : {S : Type 0} (turn : Entry → Entry) → KeepsStart turn → (done : IndexMap ℕ Player S) (entry : Entry) (coming rest all : List Entry) (player : Player) (new : List (ℕ × Player))
    → coming ≡ entry ∷ rest → AreTurned turn done.entries coming all → entry_of player ≡ turn entry
    → new ≡ insert_entry nat_eq done.entries entry.start player → IsDistinct nat_eq (starts_of all) → AreTurned turn new rest all
turned-insert turn keeps done entry coming rest all player new steps paired same inserted distinct =
    let here : AreTurned turn done.entries (entry ∷ rest) all = subst (λ (es : List Entry). AreTurned turn done.entries es all) steps paired in
    subst (λ (es : List (ℕ × Player)). AreTurned turn es rest all)
    (sym (inserted ∙ insert_entry-new nat_eq done entry.start player (turned-absent turn keeps done.entries entry rest all here distinct)))
    (turned-more turn keeps done.entries entry rest all player same here)

pub turned-end : (turn : Entry → Entry) (done : List (ℕ × Player)) (rest all : List Entry) → rest ≡ [] → AreTurned turn done rest all
    → map (λ e. entry_of e.1) done ≡ map turn all
turned-end turn done rest all nothing paired =
    let entries = map (λ (e : ℕ × Player). entry_of e.1) done in
    sym (append-nil entries) ∙ ap (λ (es : List Entry). entries ++ map turn es) (sym nothing) ∙ paired.whole

pub turned-length : (turn : Entry → Entry) (done : List (ℕ × Player)) (all : List Entry)
    → map (λ e. entry_of e.1) done ≡ map turn all → length done ≡ length all
turned-length turn done all same =
    sym (length-map done (λ (e : ℕ × Player). entry_of e.1)) ∙ ap (λ (es : List Entry). length es) same ∙ length-map all turn
