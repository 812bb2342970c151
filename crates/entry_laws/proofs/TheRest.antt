-- What entries leave as it is beside cells and points.
use Rattle.std.proofs.Common.{◌≡◌, ℕ, Bool, true, false, cond, List, [], ◌∷◌, map, Ok, refl, ap, ◌∙◌, subst}
use Rattle.trf16_report.specs.Prelude.{Entry, Sheet, has_other_points, rounds_played}
use Rattle.entries.specs.Prelude.{entered, player_resummed, player_with_new, report_resummed, with_new}
use Rattle.entries.specs.declared.entry.EntryOptions.{EntryOptions}
use Rattle.entries.specs.declared.entry.HandEntry.{HandEntry}
use Rattle.entries.specs.declared.entry.NewCell.{NewCell}
use Rattle.entry_laws.specs.Concerned.{KeepsRest, front_of}
use Rattle.entry_laws.proofs.AllEntries.{entered_is}

new-fronts : (all : List NewCell) (entries : List Entry) → map front_of (map (player_with_new all) entries) ≡ map front_of entries
new-fronts all [] = refl
new-fronts all (entry ∷ entries) = ap (λ (fronts : List Entry). front_of entry ∷ fronts) (new-fronts all entries)

summed-fronts : (bye rounds : ℕ) (entries : List Entry) → map front_of (map (player_resummed bye rounds) entries) ≡ map front_of entries
summed-fronts bye rounds [] = refl
summed-fronts bye rounds (entry ∷ entries) = ap (λ (fronts : List Entry). front_of entry ∷ fronts) (summed-fronts bye rounds entries)

kept : (all : List NewCell) (sheet : Sheet) → KeepsRest sheet (report_resummed (with_new all sheet))
kept all sheet = by (has_other_points (with_new all sheet))
  where
    by : (other : Bool)
        → KeepsRest sheet (cond other (with_new all sheet) (record (with_new all sheet) {
          players = map
              (player_resummed sheet.bye (rounds_played (with_new all sheet))) (with_new all sheet).players;
        }))
    by true = record { utf8 = refl; carried = refl; fronts = new-fronts all sheet.players; total = refl; initial = refl; bye = refl }
    by false = record {
      utf8 = refl;
      carried = refl;
      fronts = summed-fronts sheet.bye (rounds_played (with_new all sheet)) (with_new all sheet).players ∙ new-fronts all sheet.players;
      total = refl;
      initial = refl;
      bye = refl;
    }

pub rest_stays : (options : EntryOptions) (entries : List HandEntry) (sheet new : Sheet) → entered options entries sheet ≡ Ok new → KeepsRest sheet new
rest_stays options entries sheet new e =
    let i = entered_is options entries sheet new e in
    subst (KeepsRest sheet) i.is (kept i.all sheet)
