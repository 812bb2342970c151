-- Entries and their cells, as loops look at them.
use Rattle.std.proofs.Common.{◌≡◌, ℕ, ◌+◌, ◌<◌, ◌≤◌, List, [], ◌∷◌, ◌++◌, length, get_or, drop, refl, Result, Ok, Err}
use Rattle.std.proofs.lemmas.List.{drop_all, drop_more}
use Rattle.trf16_report.specs.Prelude.{Sheet}
use Rattle.trf16_writer.proofs.RoundLemmas.{KeepsStart}
use Rattle.entries.specs.Entered.{with_entries, with_entry}
use Rattle.entries.specs.Outcomes.{Fails}
use Rattle.entries.specs.Steps.{AreWithin, IsInReport, player_changed}
use Rattle.entries.specs.declared.entering.Change.{Change}
use Rattle.entries.specs.declared.entering.Change.TheVariants.{Cells, Points}
use Rattle.entries.specs.declared.entry.EntryOptions.{EntryOptions}
use Rattle.entries.specs.declared.entry.HandEntry.{HandEntry}
use Rattle.entries.specs.declared.entry.NewCell.{NewCell}
use Rattle.entries.specs.declared.fault.EntryFault.{EntryFault}
use Rattle.entries.specs.declared.fault.EntryFault.TheVariants.{NotReached, NotKnown, NamedTwice, HasGame, NoGame, NoColour, HasCell, Refused, OutOfMemory}

pub within-push : (all : List NewCell) (new : NewCell) → AreWithin all → IsInReport new → AreWithin (all ++ new ∷ [])
within-push [] new within one = (one, tt)
within-push (first ∷ rest) new within one = (within.0, within-push rest new within.1 one)

-- a fault that one step answers is that of another which ends with it
pub Fails-on : {A B : Type 0} (fault : EntryFault) (first : Result A EntryFault) (whole : Result B EntryFault)
    → ((f : EntryFault) → first ≡ Err f → whole ≡ Err f) → Fails fault first → Fails fault whole
Fails-on OutOfMemory first whole on h = tt
Fails-on (NotReached n) first whole on h = on (NotReached n) h
Fails-on (NotKnown p) first whole on h = on (NotKnown p) h
Fails-on (NamedTwice p) first whole on h = on (NamedTwice p) h
Fails-on (HasGame p n) first whole on h = on (HasGame p n) h
Fails-on (NoGame p n) first whole on h = on (NoGame p n) h
Fails-on (NoColour p n) first whole on h = on (NoColour p n) h
Fails-on (HasCell p n) first whole on h = on (HasCell p n) h
Fails-on (Refused f) first whole on h = on (Refused f) h

-- one more entry
pub entries-more : (options : EntryOptions) (sheet : Sheet) (so_far more : List NewCell) (entries : List HandEntry) (i : ℕ) (d : HandEntry) → i < length entries
    → with_entry options sheet so_far (get_or entries i d) ≡ Ok more
    → with_entries options sheet so_far (drop i entries) ≡ with_entries options sheet more (drop (i + 1) entries)
unfolding with_entries
entries-more options sheet so_far more entries i d lt e = rw (drop_more entries i d lt, e) refl

pub entries-fail : (options : EntryOptions) (sheet : Sheet) (so_far : List NewCell) (entries : List HandEntry) (i : ℕ) (d : HandEntry) (fault : EntryFault) → i < length entries
    → with_entry options sheet so_far (get_or entries i d) ≡ Err fault
    → with_entries options sheet so_far (drop i entries) ≡ Err fault
unfolding with_entries
entries-fail options sheet so_far entries i d fault lt e = rw (drop_more entries i d lt, e) refl

pub entries-end : (options : EntryOptions) (sheet : Sheet) (so_far : List NewCell) (entries : List HandEntry) (i : ℕ) → length entries ≤ i
    → with_entries options sheet so_far (drop i entries) ≡ Ok so_far
unfolding with_entries
entries-end options sheet so_far entries i le = rw (drop_all i entries le) refl

pub keeps-start : (change : Change) (bye rounds : ℕ) → KeepsStart (player_changed change bye rounds)
keeps-start (Cells all) bye rounds entry = refl
keeps-start Points bye rounds entry = refl
