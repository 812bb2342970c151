-- Entries that say what stands in the report put what stands there.
--
-- The cells of a game may differ from the report only between the entries of its two players: what an entry puts for an opponent who has an
-- entry of their own is replaced by that entry.
use Rattle.std.proofs.Common.{◌≡◌, ◌⊎◌, inl, inr, ℕ, ◌<◌, Bool, true, false, cond, ◌&&◌, ◌||◌, List, [], ◌∷◌, ◌++◌, Option, Some, None, Result, Ok, Err, refl, sym, ap, ◌∙◌, subst, append_assoc}
use Rattle.std.specs.Prelude.{◌==◌}
use Rattle.std.specs.List.{AllByRecursion}
use Rattle.std.specs.Option.{option_map_or}
use Rattle.std.proofs.lemmas.Bool.{eq-eqb, eqb-true, true≢false}
use Rattle.trf16_report.specs.Outcomes.{◌>>=◌}
use Rattle.trf16_report.specs.Prelude.{Sheet, cell_at, colour_in_cell, known, opponent_in_cell}
use Rattle.trf16_report.specs.declared.cell.Cell.{Cell}
use Rattle.entries.specs.Prelude.{AreWithin, cell_in_slot, cell_now, cells_by, cell_by_colour, entered, game_cells, is_named, named_alone, named_cell, other_game, own_cells, same_slot, with_entries, with_entry, with_new}
use Rattle.entries.specs.declared.entry.EntryOptions.{EntryOptions}
use Rattle.entries.specs.declared.entry.GameOf.{GameOf}
use Rattle.entries.specs.declared.entry.HandEntry.{HandEntry}
use Rattle.entries.specs.declared.entry.NewCell.{NewCell}
use Rattle.entries.specs.declared.entry.NewCells.{NewCells}
use Rattle.entries.specs.declared.entry.Slot.{Slot}
use Rattle.entries.specs.declared.fault.EntryFault.{EntryFault}
use Rattle.entries.specs.declared.fault.EntryFault.TheVariants.{NoGame}
use Rattle.entry_laws.specs.Standing.{HasOwnEntry, SaysWhatStands, Stands, has_entry, slot_of}
use Rattle.entry_laws.proofs.AllEntries.{all_within, entered_is, report_resummed-cell, slot_is}
use Rattle.entry_laws.proofs.CellsPut.{after-append, any-append, none-after, players-after}
use Rattle.entry_laws.proofs.OneEntry.{cell_by_colour-alike, cell_by_colour-colour, cell_by_colour-opponent, entry_is, listed, same_ok, then_ok}

-- what holds of a slot holds of one that is the same
moved : (P : Slot → Type 0) (a b : Slot) → same_slot a b ≡ true → P a → P b
moved P a b e here =
    let parts = slot_is a b e in
    subst (λ r. P (record { player = b.player; round = r })) parts.1 (subst (λ p. P (record { player = p; round = a.round })) parts.0 here)

or_true : (a b : Bool) → a ≡ true → (a || b) ≡ true
or_true true b e = refl
or_true false b e = absurd (true≢false (sym e))

or_later : (a b : Bool) → b ≡ true → (a || b) ≡ true
or_later true b e = refl
or_later false b e = e

or_rest : (a b : Bool) → (a || b) ≡ true → a ≡ false → b ≡ true
or_rest true b e none = absurd (true≢false none)
or_rest false b e none = e

-- two numbers are one
swapped : (a b : ℕ) → (b == a) ≡ true → (a == b) ≡ true
swapped a b e = subst (λ n. (a == n) ≡ true) (sym (eqb-true b a e)) (eq-eqb a a refl)

-- two cells name one opponent and one colour
record Alike (cell other : Cell) : Type 0 where
  opponent : opponent_in_cell cell ≡ opponent_in_cell other
  colour : colour_in_cell cell ≡ colour_in_cell other

alike_same : (cell other : Cell) → cell ≡ other → Alike cell other
alike_same cell other same = record { opponent = ap opponent_in_cell same; colour = ap colour_in_cell same }

-- some cells are put, and the rest of all entries is to come: a cell differs from that of the report in its result alone, and only if it is
-- to come; whoever an entry names is named so far or to come
record Between (options : EntryOptions) (sheet : Sheet) (entries : List HandEntry) (so_far : List NewCell) (rest : List HandEntry) : Type 0 where
  alike : (slot : Slot) → Alike (cell_now sheet so_far slot) (cell_in_slot sheet slot)
  stands : (slot : Slot) → (cell_now sheet so_far slot ≡ cell_in_slot sheet slot) ⊎ (has_entry options sheet rest slot ≡ true)
  ahead : (slot : Slot) → has_entry options sheet entries slot ≡ true → (is_named so_far slot ≡ true) ⊎ (has_entry options sheet rest slot ≡ true)

-- one more cell
put_now : (sheet : Sheet) (so_far : List NewCell) (new : NewCell) (slot : Slot)
    → cell_now sheet (so_far ++ new ∷ []) slot ≡ cond (same_slot new.slot slot) new.cell (cell_now sheet so_far slot)
put_now sheet so_far new slot = after-append so_far (new ∷ []) slot (cell_in_slot sheet slot)

put_named : (so_far : List NewCell) (new : NewCell) (slot : Slot) → is_named so_far slot ≡ true → is_named (so_far ++ new ∷ []) slot ≡ true
put_named so_far new slot e =
    any-append (λ new. same_slot new.slot slot && new.named) so_far (new ∷ []) ∙ or_true (is_named so_far slot) (is_named (new ∷ []) slot) e

-- the cell of the player whom an entry names is put, as it stands
own_between : (options : EntryOptions) (sheet : Sheet) (entries : List HandEntry) (so_far : List NewCell) (entry : HandEntry) (rest : List HandEntry)
    → Between options sheet entries so_far (entry ∷ rest)
    → Between options sheet entries (so_far ++ named_cell (slot_of options sheet entry) (cell_in_slot sheet (slot_of options sheet entry)) ∷ []) rest
own_between options sheet entries so_far entry rest b = record {
  alike = λ slot. alike slot (same_slot at slot) refl;
  stands = λ slot. stands slot (same_slot at slot) refl;
  ahead = λ slot e. ahead slot (same_slot at slot) refl (b.ahead slot e);
}
  where
    at : Slot
    at = slot_of options sheet entry

    new : NewCell
    new = named_cell at (cell_in_slot sheet at)

    more : List NewCell
    more = so_far ++ new ∷ []

    now : (slot : Slot) (here : Bool) → same_slot at slot ≡ here → cell_now sheet more slot ≡ cond here (cell_in_slot sheet at) (cell_now sheet so_far slot)
    now slot here e = put_now sheet so_far new slot ∙ ap (λ h. cond h (cell_in_slot sheet at) (cell_now sheet so_far slot)) e

    here_now : (slot : Slot) → same_slot at slot ≡ true → cell_now sheet more slot ≡ cell_in_slot sheet slot
    here_now slot e = now slot true e ∙ moved (λ s. cell_in_slot sheet at ≡ cell_in_slot sheet s) at slot e refl

    alike : (slot : Slot) (here : Bool) → same_slot at slot ≡ here → Alike (cell_now sheet more slot) (cell_in_slot sheet slot)
    alike slot true e = alike_same (cell_now sheet more slot) (cell_in_slot sheet slot) (here_now slot e)
    alike slot false e = subst (λ c. Alike c (cell_in_slot sheet slot)) (sym (now slot false e)) (b.alike slot)

    stands : (slot : Slot) (here : Bool) → same_slot at slot ≡ here → (cell_now sheet more slot ≡ cell_in_slot sheet slot) ⊎ (has_entry options sheet rest slot ≡ true)
    stands slot true e = inl (here_now slot e)
    stands slot false e = elim (b.stands slot) [
      | inl same ↦ inl (now slot false e ∙ same)
      | inr later ↦ inr (or_rest (same_slot at slot) (has_entry options sheet rest slot) later e)
    ]

    ahead : (slot : Slot) (here : Bool) → same_slot at slot ≡ here → (is_named so_far slot ≡ true) ⊎ (has_entry options sheet (entry ∷ rest) slot ≡ true)
        → (is_named more slot ≡ true) ⊎ (has_entry options sheet rest slot ≡ true)
    ahead slot true e before =
        inl (any-append (λ new. same_slot new.slot slot && new.named) so_far (new ∷ []) ∙ or_later (is_named so_far slot) (is_named (new ∷ []) slot)
        (ap (λ h. (h && true) || false) e))
    ahead slot false e before = elim before [
      | inl named ↦ inl (put_named so_far new slot named)
      | inr later ↦ inr (or_rest (same_slot at slot) (has_entry options sheet rest slot) later e)
    ]

-- a cell is put that stands there, or has an entry to come
other_between : (options : EntryOptions) (sheet : Sheet) (entries : List HandEntry) (so_far : List NewCell) (rest : List HandEntry) (new : NewCell)
    → Alike new.cell (cell_in_slot sheet new.slot) → (new.cell ≡ cell_in_slot sheet new.slot) ⊎ (has_entry options sheet rest new.slot ≡ true)
    → Between options sheet entries so_far rest → Between options sheet entries (so_far ++ new ∷ []) rest
other_between options sheet entries so_far rest new like is b = record {
  alike = λ slot. alike slot (same_slot new.slot slot) refl;
  stands = λ slot. stands slot (same_slot new.slot slot) refl;
  ahead = λ slot e. elim (b.ahead slot e) [
    | inl named ↦ inl (put_named so_far new slot named)
    | inr later ↦ inr later
  ];
}
  where
    more : List NewCell
    more = so_far ++ new ∷ []

    now : (slot : Slot) (here : Bool) → same_slot new.slot slot ≡ here → cell_now sheet more slot ≡ cond here new.cell (cell_now sheet so_far slot)
    now slot here e = put_now sheet so_far new slot ∙ ap (λ h. cond h new.cell (cell_now sheet so_far slot)) e

    alike : (slot : Slot) (here : Bool) → same_slot new.slot slot ≡ here → Alike (cell_now sheet more slot) (cell_in_slot sheet slot)
    alike slot true e = subst (λ c. Alike c (cell_in_slot sheet slot)) (sym (now slot true e)) (moved (λ s. Alike new.cell (cell_in_slot sheet s)) new.slot slot e like)
    alike slot false e = subst (λ c. Alike c (cell_in_slot sheet slot)) (sym (now slot false e)) (b.alike slot)

    stands : (slot : Slot) (here : Bool) → same_slot new.slot slot ≡ here → (cell_now sheet more slot ≡ cell_in_slot sheet slot) ⊎ (has_entry options sheet rest slot ≡ true)
    stands slot true e = elim is [
      | inl same ↦ inl (now slot true e ∙ moved (λ s. new.cell ≡ cell_in_slot sheet s) new.slot slot e same)
      | inr later ↦ inr (moved (λ s. has_entry options sheet rest s ≡ true) new.slot slot e later)
    ]
    stands slot false e = elim (b.stands slot) [
      | inl same ↦ inl (now slot false e ∙ same)
      | inr later ↦ inr later
    ]

-- the cells of a game whose player has the cell that stands there
record AreOfGame (sheet : Sheet) (so_far : List NewCell) (game : GameOf) (new : NewCells) : Type 0 where
  first : new.first ≡ named_cell game.slot (cell_in_slot sheet game.slot)
  second : (new.second ≡ None) ⊎ ((his : Cell) × (is_named so_far (other_game game).slot ≡ false)
      × (cell_by_colour (other_game game) (cell_now sheet so_far (other_game game).slot) ≡ Ok his)
      × (new.second ≡ Some (record { slot = (other_game game).slot; cell = his; named = false })))

of_game : (sheet : Sheet) (so_far : List NewCell) (game : GameOf) (new : NewCells) → colour_in_cell (cell_now sheet so_far game.slot) ≡ colour_in_cell (cell_in_slot sheet game.slot)
    → Stands sheet game → game_cells sheet so_far game ≡ Ok new → AreOfGame sheet so_far game new
unfolding game_cells
of_game sheet so_far game new like mine e =
    let other = other_game game in
    let both : Cell → Cell → NewCells = λ own his. record { first = named_cell game.slot own; second = Some (record { slot = other.slot; cell = his; named = false }) } in
    let later : Cell → Result NewCells EntryFault = λ own. cell_by_colour other (cell_now sheet so_far other.slot) >>= λ his. Ok (both own his) in
    let one = then_ok (cell_by_colour game (cell_now sheet so_far game.slot)) (λ own. cond (is_named so_far other.slot) (Ok (named_alone game.slot own)) (later own)) new e in
    let own : one.0 ≡ cell_in_slot sheet game.slot =
    same_ok one.0 (cell_in_slot sheet game.slot) (sym one.1 ∙ cell_by_colour-alike game (cell_now sheet so_far game.slot) (cell_in_slot sheet game.slot) like ∙ mine) in
    by both (is_named so_far other.slot) refl one.0 own (λ own his. refl) one.2
  where
    by : (both : Cell → Cell → NewCells) (b : Bool) → is_named so_far (other_game game).slot ≡ b → (own : Cell) → own ≡ cell_in_slot sheet game.slot
        → ((own his : Cell) → both own his ≡ record { first = named_cell game.slot own; second = Some (record { slot = (other_game game).slot; cell = his; named = false }) })
        → cond b (Ok (named_alone game.slot own)) (cell_by_colour (other_game game) (cell_now sheet so_far (other_game game).slot) >>= λ his. Ok (both own his)) ≡ Ok new
        → AreOfGame sheet so_far game new
    by both true is own here are e =
        subst (AreOfGame sheet so_far game) (same_ok (named_alone game.slot own) new e) (record { first = ap (named_cell game.slot) here; second = inl refl })
    by both false is own here are e =
        let two = then_ok (cell_by_colour (other_game game) (cell_now sheet so_far (other_game game).slot)) (λ his. Ok (both own his)) new e in
        subst (AreOfGame sheet so_far game) (sym (are own two.0) ∙ same_ok (both own two.0) new two.2) (record { first = ap (named_cell game.slot) here; second = inr (two.0, is, two.1, refl) })

-- one entry
between_more : (options : EntryOptions) (sheet : Sheet) (entries : List HandEntry) (so_far more : List NewCell) (entry : HandEntry) (rest : List HandEntry)
    → with_entry options sheet so_far entry ≡ Ok more → SaysWhatStands options sheet entries entry → Between options sheet entries so_far (entry ∷ rest)
    → Between options sheet entries more rest
between_more options sheet entries so_far more entry rest e says b =
    let i = entry_is options sheet so_far more entry e in
    let meets : opponent_in_cell (cell_now sheet so_far at) ≡ Some says.opponent =
    (b.alike at).opponent ∙ cell_by_colour-opponent game (cell_in_slot sheet at) (cell_in_slot sheet at) says.mine in
    let cells : own_cells sheet so_far at (Some says.score) (Err (NoGame at.player at.round)) ≡ Ok i.new =
    ap (cells_by sheet so_far at) (sym says.event) ∙ subst (λ r. cells_by sheet so_far (record { player = entry.player; round = r }) entry.event ≡ Ok i.new) (sym i.is) i.cells in
    let played : game_cells sheet so_far game ≡ Ok i.new =
    ap (λ (o : Option ℕ). option_map_or (λ opponent. game_cells sheet so_far (record { slot = at; opponent = opponent; score = Some says.score })) o (Err (NoGame at.player at.round))) (sym meets) ∙ cells in
    let are = of_game sheet so_far game i.new (b.alike at).colour says.mine played in
    subst (λ (cells : List NewCell). Between options sheet entries cells rest) (sym i.more_is) (by i.new are)
  where
    at : Slot
    at = slot_of options sheet entry

    game : GameOf
    game = record { slot = at; opponent = says.opponent; score = Some says.score }

    other : GameOf
    other = other_game game

    own : Between options sheet entries (so_far ++ named_cell at (cell_in_slot sheet at) ∷ []) rest
    own = own_between options sheet entries so_far entry rest b

    -- the opponent has an entry to come
    to_come : HasOwnEntry options sheet entries game → is_named so_far other.slot ≡ false → has_entry options sheet rest other.slot ≡ true
    to_come has free = elim (b.ahead other.slot has.comes) [
      | inl named ↦ absurd (true≢false (sym named ∙ free))
      | inr later ↦ or_rest (same_slot at other.slot) (has_entry options sheet rest other.slot) later (apart (at.player == says.opponent) refl)
    ]
      where
        apart : (b : Bool) → (at.player == says.opponent) ≡ b → same_slot at other.slot ≡ false
        apart true e = absurd (true≢false (sym (swapped says.opponent at.player e) ∙ has.another))
        apart false e = ap (λ h. h && (at.round == at.round)) e

    second_is : (his : Cell) → is_named so_far other.slot ≡ false → cell_by_colour other (cell_now sheet so_far other.slot) ≡ Ok his
        → Between options sheet entries ((so_far ++ named_cell at (cell_in_slot sheet at) ∷ []) ++ record { slot = other.slot; cell = his; named = false } ∷ []) rest
    second_is his free put =
        let like : colour_in_cell his ≡ colour_in_cell (cell_in_slot sheet other.slot) =
        cell_by_colour-colour other (cell_now sheet so_far other.slot) his put ∙ (b.alike other.slot).colour in
        let names : opponent_in_cell his ≡ Some at.player = cell_by_colour-opponent other (cell_now sheet so_far other.slot) his put in
        elim says.theirs [
          | inl stands ↦
              let same : his ≡ cell_in_slot sheet other.slot =
              same_ok his (cell_in_slot sheet other.slot) (sym put ∙ cell_by_colour-alike other (cell_now sheet so_far other.slot) (cell_in_slot sheet other.slot) (b.alike other.slot).colour ∙ stands) in
              other_between options sheet entries (so_far ++ named_cell at (cell_in_slot sheet at) ∷ []) rest (record { slot = other.slot; cell = his; named = false })
              (alike_same his (cell_in_slot sheet other.slot) same) (inl same) own
          | inr has ↦
              other_between options sheet entries (so_far ++ named_cell at (cell_in_slot sheet at) ∷ []) rest (record { slot = other.slot; cell = his; named = false })
              (record { opponent = names ∙ sym has.names; colour = like }) (inr (to_come has free)) own
        ]

    by : (new : NewCells) → AreOfGame sheet so_far game new → Between options sheet entries (so_far ++ listed new) rest
    by new are = subst (λ (first : NewCell). Between options sheet entries (so_far ++ first ∷ option_map_or (λ second. second ∷ []) new.second []) rest) (sym are.first) (behind new.second are.second)
      where
        behind : (second : Option NewCell) → (second ≡ None) ⊎ ((his : Cell) × (is_named so_far other.slot ≡ false) × (cell_by_colour other (cell_now sheet so_far other.slot) ≡ Ok his)
            × (second ≡ Some (record { slot = other.slot; cell = his; named = false })))
            → Between options sheet entries (so_far ++ named_cell at (cell_in_slot sheet at) ∷ option_map_or (λ second. second ∷ []) second []) rest
        behind second is = elim is [
          | inl none ↦ subst (λ (o : Option NewCell). Between options sheet entries (so_far ++ named_cell at (cell_in_slot sheet at) ∷ option_map_or (λ second. second ∷ []) o []) rest) (sym none) own
          | inr some ↦
              subst (λ (o : Option NewCell). Between options sheet entries (so_far ++ named_cell at (cell_in_slot sheet at) ∷ option_map_or (λ second. second ∷ []) o []) rest) (sym some.3)
              (subst (λ (cells : List NewCell). Between options sheet entries cells rest)
              (append_assoc so_far (named_cell at (cell_in_slot sheet at) ∷ []) (record { slot = other.slot; cell = some.0; named = false } ∷ []))
              (second_is some.0 some.1 some.2))
        ]

all_between : (options : EntryOptions) (sheet : Sheet) (entries : List HandEntry) (so_far all : List NewCell) (rest : List HandEntry) → with_entries options sheet so_far rest ≡ Ok all
    → AllByRecursion (SaysWhatStands options sheet entries) rest → Between options sheet entries so_far rest → Between options sheet entries all []
unfolding with_entries
all_between options sheet entries so_far all [] e says b = subst (λ (cells : List NewCell). Between options sheet entries cells []) (same_ok so_far all e) b
all_between options sheet entries so_far all (entry ∷ rest) e says b =
    let one = then_ok (with_entry options sheet so_far entry) (λ more. with_entries options sheet more rest) all e in
    all_between options sheet entries one.0 all rest one.2 says.1 (between_more options sheet entries so_far one.0 entry rest one.1 says.0 b)

-- nothing is to come
stands_now : (options : EntryOptions) (sheet : Sheet) (entries : List HandEntry) (all : List NewCell) (slot : Slot) → Between options sheet entries all []
    → cell_now sheet all slot ≡ cell_in_slot sheet slot
stands_now options sheet entries all slot b = elim (b.stands slot) [
  | inl same ↦ same
  | inr later ↦ absurd (true≢false (sym later))
]

with_new-same : (all : List NewCell) (sheet : Sheet) (slot : Slot) → AreWithin all → 0 < slot.round → cell_now sheet all slot ≡ cell_in_slot sheet slot
    → cell_in_slot (with_new all sheet) slot ≡ cell_in_slot sheet slot
with_new-same all sheet slot within some same = by (known sheet slot.player) refl
  where
    by : (there : Bool) → known sheet slot.player ≡ there → cell_in_slot (with_new all sheet) slot ≡ cell_in_slot sheet slot
    by true is = players-after all sheet.players slot.player slot.round within some is ∙ same
    by false is = ap (λ (cells : List Cell). cell_at cells slot.round) (none-after all sheet.players slot.player is)

pub unchanged : (options : EntryOptions) (entries : List HandEntry) (sheet new : Sheet) (slot : Slot) → entered options entries sheet ≡ Ok new → 0 < slot.round
    → AllByRecursion (SaysWhatStands options sheet entries) entries → cell_in_slot new slot ≡ cell_in_slot sheet slot
unchanged options entries sheet new slot e some says =
    let i = entered_is options entries sheet new e in
    let within = all_within options sheet [] i.all entries i.put tt in
    let start : Between options sheet entries [] entries = record {
      alike = λ slot. alike_same (cell_in_slot sheet slot) (cell_in_slot sheet slot) refl;
      stands = λ slot. inl refl;
      ahead = λ slot there. inr there;
    } in
    let same = stands_now options sheet entries i.all slot (all_between options sheet entries [] i.all entries i.put says start) in
    ap (λ (s : Sheet). cell_in_slot s slot) (sym i.is) ∙ report_resummed-cell (with_new i.all sheet) slot.player slot.round ∙ with_new-same i.all sheet slot within some same
