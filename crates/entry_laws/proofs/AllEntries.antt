-- What all entries put, one after the other, and which slots they leave alone.
--
-- Of a player whom no entry so far names the opponent is the one of the report: an entry that puts a cell of somebody whom it does not name
-- puts it for the opponent of the player whom it names, who answers that player in the report.
use Rattle.std.proofs.Common.{◌≡◌, inl, inr, ℕ, ◌<◌, ◌≤◌, Bool, true, false, cond, ◌&&◌, ◌||◌, List, [], ◌∷◌, ◌++◌, map, Option, Some, None, Result, Ok, Err, refl, sym, ap, ◌∙◌, subst}
use Rattle.std.specs.Prelude.{◌==◌}
use Rattle.std.specs.Option.{option_map_or}
use Rattle.std.proofs.lemmas.Bool.{and_parts, eqb-true, true≢false}
use Rattle.trf16_report.specs.Prelude.{AnswerEachOther, Sheet, all_cells_fit, cell_at, cell_in, has_other_points, known, opponent_in_cell, rounds_played}
use Rattle.trf16_report.specs.declared.cell.Cell.{Cell}
use Rattle.trf16_report.specs.declared.fault.Fault.{Fault}
use Rattle.trf16_report.specs.declared.limits.TheConstants.{MOST_ROUNDS}
use Rattle.entries.specs.Prelude.{AreWithin, IsInReport, cell_after, cell_in_slot, cell_now, entered, is_named, is_put, report_if_cells_fit, report_if, player_resummed, report_resummed, same_slot, second_of, with_entries, with_entry, with_new}
use Rattle.entries.specs.declared.entry.EntryOptions.{EntryOptions}
use Rattle.entries.specs.declared.entry.HandEntry.{HandEntry}
use Rattle.entries.specs.declared.entry.NewCell.{NewCell}
use Rattle.entries.specs.declared.entry.NewCells.{NewCells}
use Rattle.entries.specs.declared.entry.Slot.{Slot}
use Rattle.entry_laws.specs.Concerned.{concerns, concerns_slot, is_player}
use Rattle.entry_laws.proofs.CellsPut.{after-append, after-none, any-append, none-after, players-after, player_resummed-cells}
use Rattle.entry_laws.proofs.OneEntry.{EntryIs, IsSecond, entry_is, listed, same_ok, then_ok}

pub or_none : (a b : Bool) → (a || b) ≡ false → (a ≡ false) × (b ≡ false)
or_none true b e = absurd (true≢false e)
or_none false b e = (refl, e)

pub and_true : (a b : Bool) → (a && b) ≡ false → b ≡ true → a ≡ false
and_true true b e is = absurd (true≢false (sym is ∙ e))
and_true false b e is = refl

within-append : (xs ys : List NewCell) → AreWithin xs → AreWithin ys → AreWithin (xs ++ ys)
within-append [] ys wx wy = wy
within-append (x ∷ xs) ys wx wy = (wx.0, within-append xs ys wx.1 wy)

-- ---- one entry

-- the cells so far: whoever is not named by an entry so far has the opponent of the report
pub record Kept (sheet : Sheet) (so_far : List NewCell) : Type 0 where
  pub free : (slot : Slot) → 0 < slot.round → is_named so_far slot ≡ false → opponent_in_cell (cell_now sheet so_far slot) ≡ opponent_in_cell (cell_in_slot sheet slot)

-- the cells of an entry are those of a round that a report may have
in_report : (options : EntryOptions) (sheet : Sheet) (so_far more : List NewCell) (entry : HandEntry) (i : EntryIs options sheet so_far entry more) (new : NewCell)
    → new.slot.round ≡ i.round → IsInReport new
in_report options sheet so_far more entry i new same = (subst (λ n. 0 < n) (sym same) i.some, subst (λ n. n ≤ MOST_ROUNDS) (sym same) i.few)

pub within_more : (options : EntryOptions) (sheet : Sheet) (so_far more : List NewCell) (entry : HandEntry) → with_entry options sheet so_far entry ≡ Ok more → AreWithin so_far → AreWithin more
within_more options sheet so_far more entry e within =
    let i = entry_is options sheet so_far more entry e in
    subst AreWithin (sym i.more_is) (within-append so_far (listed i.new) within (by i i.new.second i.put.second))
  where
    by : (i : EntryIs options sheet so_far entry more) (second : Option NewCell) → IsSecond sheet so_far (record { player = entry.player; round = i.round }) entry.event second
        → AreWithin (i.new.first ∷ option_map_or (λ second. second ∷ []) second [])
    by i None s = (in_report options sheet so_far more entry i i.new.first (ap (λ (slot : Slot). slot.round) i.put.first), tt)
    by i (Some second) s =
        (in_report options sheet so_far more entry i i.new.first (ap (λ (slot : Slot). slot.round) i.put.first), (in_report options sheet so_far more entry i second s.0, tt))

listed_free : (new : NewCells) (slot : Slot) (x : Cell) (o : Option ℕ) → opponent_in_cell x ≡ o → new.first.named ≡ true → is_named (listed new) slot ≡ false
    → ((second : NewCell) → new.second ≡ Some second → same_slot second.slot slot ≡ true → second.named ≡ false → opponent_in_cell second.cell ≡ o)
    → opponent_in_cell (cell_after (listed new) slot x) ≡ o
listed_free new slot x o here named none later =
    let first = or_none (same_slot new.first.slot slot && new.first.named) (is_named (option_map_or (λ second. second ∷ []) new.second []) slot) none in
    let apart : same_slot new.first.slot slot ≡ false = and_true (same_slot new.first.slot slot) new.first.named first.0 named in
    subst (λ b. opponent_in_cell (cell_after (option_map_or (λ second. second ∷ []) new.second []) slot (cond b new.first.cell x)) ≡ o) (sym apart) (by new.second refl first.1)
  where
    and_false : (a b : Bool) → ((a && b) || false) ≡ false → a ≡ true → b ≡ false
    and_false true true e is = absurd (true≢false e)
    and_false true false e is = refl
    and_false false b e is = absurd (true≢false (sym is))

    put : (second : NewCell) → new.second ≡ Some second → (b : Bool) → same_slot second.slot slot ≡ b → ((b && second.named) || false) ≡ false
        → opponent_in_cell (cond b second.cell x) ≡ o
    put second is true e free = later second is e (and_false true second.named free refl)
    put second is false e free = here

    by : (o' : Option NewCell) → new.second ≡ o' → is_named (option_map_or (λ second. second ∷ []) o' []) slot ≡ false
        → opponent_in_cell (cell_after (option_map_or (λ second. second ∷ []) o' []) slot x) ≡ o
    by None is free = here
    by (Some second) is free = put second is (same_slot second.slot slot) refl free

-- the two parts of a slot
pub slot_is : (a b : Slot) → same_slot a b ≡ true → (a.player ≡ b.player) × (a.round ≡ b.round)
slot_is a b e =
    let both = and_parts (a.player == b.player) (a.round == b.round) e in
    (eqb-true a.player b.player both.0, eqb-true a.round b.round both.1)

-- the opponent whom the player of an entry has in the report, where an entry so far does not name that player
pub meets_there : (options : EntryOptions) (sheet : Sheet) (so_far more : List NewCell) (entry : HandEntry) (i : EntryIs options sheet so_far entry more) → Kept sheet so_far
    → (opponent : ℕ) → opponent_in_cell (cell_now sheet so_far (record { player = entry.player; round = i.round })) ≡ Some opponent
    → opponent_in_cell (cell_in sheet entry.player i.round) ≡ Some opponent
meets_there options sheet so_far more entry i kept opponent meets = sym (kept.free (record { player = entry.player; round = i.round }) i.some i.once) ∙ meets

pub kept_more : (options : EntryOptions) (sheet : Sheet) (so_far more : List NewCell) (entry : HandEntry) → AnswerEachOther sheet → with_entry options sheet so_far entry ≡ Ok more
    → Kept sheet so_far → Kept sheet more
kept_more options sheet so_far more entry answered e kept =
    let i = entry_is options sheet so_far more entry e in
    let at : Slot = record { player = entry.player; round = i.round } in
    subst (Kept sheet) (sym i.more_is) (record {
      free = λ slot some none.
          let apart = or_none (is_named so_far slot) (is_named (listed i.new) slot) (sym (any-append (λ new. same_slot new.slot slot && new.named) so_far (listed i.new)) ∙ none) in
          ap opponent_in_cell (after-append so_far (listed i.new) slot (cell_in_slot sheet slot))
          ∙ listed_free i.new slot (cell_now sheet so_far slot) (opponent_in_cell (cell_in_slot sheet slot)) (kept.free slot some apart.0) i.put.named apart.1
          (λ second is same unnamed. second_is i slot second (subst (IsSecond sheet so_far at entry.event) is i.put.second) same unnamed);
    })
  where
    second_is : (i : EntryIs options sheet so_far entry more) (slot : Slot) (second : NewCell)
        → IsSecond sheet so_far (record { player = entry.player; round = i.round }) entry.event (Some second) → same_slot second.slot slot ≡ true → second.named ≡ false
        → opponent_in_cell second.cell ≡ opponent_in_cell (cell_in_slot sheet slot)
    second_is i slot second s same unnamed =
        let parts = slot_is second.slot slot same in
        elim s.1 [
          | inl named ↦ absurd (true≢false (sym named.1 ∙ unnamed))
          | inr met ↦
              let there = meets_there options sheet so_far more entry i kept second.slot.player met.0 in
              let back : opponent_in_cell (cell_in sheet second.slot.player i.round) ≡ Some entry.player = (answered entry.player i.round second.slot.player i.some there).both_ways in
              met.1 ∙ sym back ∙ ap (λ r. opponent_in_cell (cell_in sheet second.slot.player r)) (sym s.0 ∙ parts.1) ∙ ap (λ p. opponent_in_cell (cell_in sheet p slot.round)) parts.0
        ]

-- an entry that does not concern a slot puts nothing into it
pub listed_apart : (options : EntryOptions) (sheet : Sheet) (so_far more : List NewCell) (entry : HandEntry) (slot : Slot) (i : EntryIs options sheet so_far entry more)
    → Kept sheet so_far → concerns_slot options sheet slot entry ≡ false → is_put (listed i.new) slot ≡ false
listed_apart options sheet so_far more entry slot i kept other =
    by i (i.round == slot.round) refl
    (subst (λ r. ((r == slot.round) && ((entry.player == slot.player) || (is_player slot.player (second_of entry.event) || is_player slot.player (opponent_in_cell (cell_in sheet entry.player slot.round))))) ≡ false) i.is other)
  where
    apart_by_round : (a : Slot) → (a.round == slot.round) ≡ false → same_slot a slot ≡ false
    apart_by_round a e = rw e (go (a.player == slot.player))
      where
        go : (b : Bool) → (b && false) ≡ false
        go true = refl
        go false = refl

    apart_by_player : (a : Slot) → (a.player == slot.player) ≡ false → same_slot a slot ≡ false
    apart_by_player a e = rw e refl

    all_apart : (i : EntryIs options sheet so_far entry more) (second : Option NewCell) → same_slot i.new.first.slot slot ≡ false
        → ((s : NewCell) → second ≡ Some s → same_slot s.slot slot ≡ false) → is_put (i.new.first ∷ option_map_or (λ second. second ∷ []) second []) slot ≡ false
    all_apart i None first later = rw first refl
    all_apart i (Some s) first later = rw (first, later s refl) refl

    named_of : (o : Option ℕ) (p : ℕ) → is_player slot.player o ≡ false → o ≡ Some p → (p == slot.player) ≡ false
    named_of o p e is = ap (is_player slot.player) (sym is) ∙ e

    by : (i : EntryIs options sheet so_far entry more) (here : Bool) → (i.round == slot.round) ≡ here
        → (here && ((entry.player == slot.player) || (is_player slot.player (second_of entry.event) || is_player slot.player (opponent_in_cell (cell_in sheet entry.player slot.round))))) ≡ false
        → is_put (listed i.new) slot ≡ false
    by i false e far = all_apart i i.new.second
        (apart_by_round i.new.first.slot (ap (λ (s : Slot). s.round == slot.round) i.put.first ∙ e))
        (λ s is. apart_by_round s.slot (ap (λ r. r == slot.round) (subst (IsSecond sheet so_far (record { player = entry.player; round = i.round }) entry.event) is i.put.second).0 ∙ e))
    by i true e far =
        let one = or_none (entry.player == slot.player) (is_player slot.player (second_of entry.event) || is_player slot.player (opponent_in_cell (cell_in sheet entry.player slot.round))) far in
        let two = or_none (is_player slot.player (second_of entry.event)) (is_player slot.player (opponent_in_cell (cell_in sheet entry.player slot.round))) one.1 in
        all_apart i i.new.second
        (apart_by_player i.new.first.slot (ap (λ (s : Slot). s.player == slot.player) i.put.first ∙ one.0))
        (λ s is.
        let second = subst (IsSecond sheet so_far (record { player = entry.player; round = i.round }) entry.event) is i.put.second in
        apart_by_player s.slot (elim second.1 [
          | inl named ↦ named_of (second_of entry.event) s.slot.player two.0 named.0
          | inr met ↦
              named_of (opponent_in_cell (cell_in sheet entry.player slot.round)) s.slot.player two.1
              (ap (λ r. opponent_in_cell (cell_in sheet entry.player r)) (sym (eqb-true i.round slot.round e)) ∙ meets_there options sheet so_far more entry i kept s.slot.player met.0)
        ]))

pub none_more : (options : EntryOptions) (sheet : Sheet) (so_far more : List NewCell) (entry : HandEntry) (slot : Slot) → with_entry options sheet so_far entry ≡ Ok more
    → Kept sheet so_far → concerns_slot options sheet slot entry ≡ false → is_put so_far slot ≡ false → is_put more slot ≡ false
none_more options sheet so_far more entry slot e kept other none =
    let i = entry_is options sheet so_far more entry e in
    subst (λ (cells : List NewCell). is_put cells slot ≡ false) (sym i.more_is)
    (any-append (λ new. same_slot new.slot slot) so_far (listed i.new) ∙ both (is_put so_far slot) (is_put (listed i.new) slot) none
    (listed_apart options sheet so_far more entry slot i kept other))
  where
    both : (a b : Bool) → a ≡ false → b ≡ false → (a || b) ≡ false
    both a b ea eb = rw (ea, eb) refl

-- ---- all entries

pub all_none : (options : EntryOptions) (sheet : Sheet) (so_far all : List NewCell) (entries : List HandEntry) (slot : Slot) → AnswerEachOther sheet
    → with_entries options sheet so_far entries ≡ Ok all → Kept sheet so_far → concerns options sheet entries slot ≡ false → is_put so_far slot ≡ false → is_put all slot ≡ false
unfolding with_entries
all_none options sheet so_far all [] slot answered e kept other none = subst (λ (cells : List NewCell). is_put cells slot ≡ false) (same_ok so_far all e) none
all_none options sheet so_far all (entry ∷ rest) slot answered e kept other none =
    let one = then_ok (with_entry options sheet so_far entry) (λ more. with_entries options sheet more rest) all e in
    let apart = or_none (concerns_slot options sheet slot entry) (concerns options sheet rest slot) other in
    all_none options sheet one.0 all rest slot answered one.2 (kept_more options sheet so_far one.0 entry answered one.1 kept) apart.1
    (none_more options sheet so_far one.0 entry slot one.1 kept apart.0 none)

pub none_so_far : (sheet : Sheet) → Kept sheet []
none_so_far sheet = record { free = λ slot some none. refl }

pub all_within : (options : EntryOptions) (sheet : Sheet) (so_far all : List NewCell) (entries : List HandEntry) → with_entries options sheet so_far entries ≡ Ok all
    → AreWithin so_far → AreWithin all
unfolding with_entries
all_within options sheet so_far all [] e within = subst AreWithin (same_ok so_far all e) within
all_within options sheet so_far all (entry ∷ rest) e within =
    let one = then_ok (with_entry options sheet so_far entry) (λ more. with_entries options sheet more rest) all e in
    all_within options sheet one.0 all rest one.2 (within_more options sheet so_far one.0 entry one.1 within)

-- ---- the report

-- a report that comes of entries
pub record IsEntered (options : EntryOptions) (entries : List HandEntry) (sheet new : Sheet) : Type 0 where
  pub all : List NewCell
  pub put : with_entries options sheet [] entries ≡ Ok all
  pub is : report_resummed (with_new all sheet) ≡ new
  pub fit : all_cells_fit new new.players ≡ Ok (tt {0})

pub entered_is : (options : EntryOptions) (entries : List HandEntry) (sheet new : Sheet) → entered options entries sheet ≡ Ok new → IsEntered options entries sheet new
unfolding entered
entered_is options entries sheet new e =
    let one = then_ok (with_entries options sheet [] entries) (λ all. report_if_cells_fit (report_resummed (with_new all sheet))) new e in
    let made = report_resummed (with_new one.0 sheet) in
    let two = by made (all_cells_fit made made.players) refl one.2 in
    record { all = one.0; put = one.1; is = two.0; fit = subst (λ (s : Sheet). all_cells_fit s s.players ≡ Ok (tt {0})) two.0 two.1 }
  where
    by : (made : Sheet) (r : Result (Unit {0}) Fault) → all_cells_fit made made.players ≡ r → report_if r made ≡ Ok new → (made ≡ new) × (all_cells_fit made made.players ≡ Ok (tt {0}))
    by made (Ok fits) is e = (same_ok made new e, is)
    by made (Err fault) is e = absurd (cc)

pub report_resummed-cell : (sheet : Sheet) (start round : ℕ) → cell_in (report_resummed sheet) start round ≡ cell_in sheet start round
report_resummed-cell sheet start round = by (has_other_points sheet)
  where
    by : (other : Bool) → cell_in (cond other sheet (record sheet { players = map (player_resummed sheet.bye (rounds_played sheet)) sheet.players })) start round ≡ cell_in sheet start round
    by true = refl
    by false = ap (λ (cells : List Cell). cell_at cells round) (player_resummed-cells sheet.bye (rounds_played sheet) start sheet.players)

with_new-cell : (all : List NewCell) (sheet : Sheet) (slot : Slot) → AreWithin all → 0 < slot.round → is_put all slot ≡ false
    → cell_in_slot (with_new all sheet) slot ≡ cell_in_slot sheet slot
with_new-cell all sheet slot within some none = by (known sheet slot.player) refl
  where
    by : (there : Bool) → known sheet slot.player ≡ there → cell_in_slot (with_new all sheet) slot ≡ cell_in_slot sheet slot
    by true is = players-after all sheet.players slot.player slot.round within some is ∙ after-none all slot (cell_in_slot sheet slot) none
    by false is = ap (λ (cells : List Cell). cell_at cells slot.round) (none-after all sheet.players slot.player is)

pub unconcerned : (options : EntryOptions) (entries : List HandEntry) (sheet new : Sheet) (slot : Slot) → AnswerEachOther sheet → entered options entries sheet ≡ Ok new
    → 0 < slot.round → concerns options sheet entries slot ≡ false → cell_in_slot new slot ≡ cell_in_slot sheet slot
unconcerned options entries sheet new slot answered e some other =
    let i = entered_is options entries sheet new e in
    let within = all_within options sheet [] i.all entries i.put tt in
    let none = all_none options sheet [] i.all entries slot answered i.put (none_so_far sheet) other refl in
    ap (λ (s : Sheet). cell_in_slot s slot) (sym i.is) ∙ report_resummed-cell (with_new i.all sheet) slot.player slot.round ∙ with_new-cell i.all sheet slot within some none
