-- Who is named together, from one sheet to another and from no line at all.
use Rattle.std.proofs.Common.{◌≡◌, ℕ, ◌<◌, Bool, true, false, ◌&&◌, ◌==◌, not, List, [], ◌∷◌, length, Option, Some, None, refl, sym, ap, ◌∙◌, subst, arith}
use Rattle.std.specs.Prelude.{codes, slice_index_or, filter}
use Rattle.std.specs.List.{list_any}
use Rattle.std.specs.Option.{option_map_or}
use Rattle.trf16_report.specs.Prelude.{columns, is_kind, names_both, apart, apart_from, some_carried, Entry, Sheet, starts_of, are_marked, TellsApart}
use Rattle.std.specs.Prelude.{IfOk, IfSome, Result, Ok, Err, nat_eq}
use Rattle.std.specs.List.{position}
use Rattle.std.proofs.lemmas.List.{length-map}
use Rattle.std.proofs.lemmas.List.Quantifiers.{position-Some}
use Rattle.std.proofs.lemmas.Bool.{eqb-true, or_parts}
use Rattle.trf16_report.specs.Notes.{start_at}
use Rattle.trf16_report.specs.declared.apart.Apart.{Apart}

-- a mark for each two of one sheet is one of another with the same lines and start ranks
pub apart_again : (of again : Apart) (a b : Sheet) → ((i j : ℕ) → are_marked again i j ≡ are_marked of i j) → again.count ≡ of.count
    → b.utf8 ≡ a.utf8 → b.carried ≡ a.carried → starts_of b.players ≡ starts_of a.players → TellsApart of a → TellsApart again b
apart_again of again a b marks count same_columns same_lines same_starts told = record {
  count =
      count ∙ told.count ∙ sym (length-map a.players (λ (e : Entry). e.start)) ∙ ap (λ (starts : List ℕ). length starts) (sym same_starts)
      ∙ length-map b.players (λ (e : Entry). e.start);
  both = λ i j li lj.
      marks i j ∙ told.both i j (omega (arith, li, count)) (omega (arith, lj, count))
      ∙ ap (λ (xs : List ℕ). some_carried (names_both (start_at xs i) (start_at xs j)) a) (sym same_starts)
      ∙ sym (rw (same_columns, same_lines) refl);
}

pub apart_same : (of : Apart) (a b : Sheet) → b.utf8 ≡ a.utf8 → b.carried ≡ a.carried → starts_of b.players ≡ starts_of a.players → TellsApart of a → TellsApart of b
apart_same of a b same_columns same_lines same_starts told = apart_again of of a b (λ i j. refl) refl same_columns same_lines same_starts told

-- where no line is XXP, none names two together
pub not_any : (a b : ℕ) (sheet : Sheet) → some_carried (is_kind (codes "XXP")) sheet ≡ false → some_carried (names_both a b) sheet ≡ false
not_any a b sheet none = lines_none sheet.carried none
  where
    lines_none : (ls : List (Option (List ℕ))) → list_any (λ line. option_map_or (λ bytes. is_kind (codes "XXP") (columns sheet.utf8 bytes)) line false) ls ≡ false
        → list_any (λ line. option_map_or (λ bytes. names_both a b (columns sheet.utf8 bytes)) line false) ls ≡ false
    lines_none [] e = refl
    lines_none (None ∷ rest) e = lines_none rest e
    lines_none (Some bytes ∷ rest) e =
        let parts = or_parts (is_kind (codes "XXP") (columns sheet.utf8 bytes)) (list_any (λ line. option_map_or (λ b. is_kind (codes "XXP") (columns sheet.utf8 b)) line false) rest) e in
        rw (parts.0, lines_none rest parts.1) refl

pub nobody_apart : (sheet : Sheet) (start : ℕ) → some_carried (is_kind (codes "XXP")) sheet ≡ false → apart_from sheet start ≡ []
nobody_apart sheet start none = by (starts_of sheet.players)
  where
    never : (b : Bool) → (b && false) ≡ false
    never true = refl
    never false = refl

    by : (starts : List ℕ) → filter (apart sheet start) starts ≡ []
    by [] = refl
    by (other ∷ rest) =
        let none_here : apart sheet start other ≡ false = ap (λ b. not (start == other) && b) (not_any start other sheet none) ∙ never (not (start == other)) in
        rw (none_here) (by rest)

-- the place of a key that is looked for
pub placed : (keys starts : List ℕ) (start : ℕ) (o : Option ℕ) → o ≡ position (nat_eq start) keys → keys ≡ starts
    → IfSome o (λ i. (slice_index_or starts i 0 ≡ start) × (i < length starts))
placed keys starts start None e same = tt
placed keys starts start (Some i) e same =
    let found = position-Some (nat_eq start) keys i 0 (sym e) in
    subst (λ (xs : List ℕ). (slice_index_or xs i 0 ≡ start) × (i < length xs)) same (sym (eqb-true start (slice_index_or keys i 0) found.1), found.0)

pub some_so : {X : Type 0} (o : Option X) (P Q : X → Type 0) → ((x : X) → P x → Q x) → IfSome o P → IfSome o Q
some_so None P Q so h = tt
some_so (Some x) P Q so h = so x h

-- the mark of two players tells whether a line names their start ranks
pub looked_up : (of : Apart) (sheet : Sheet) (a b i j : ℕ) → TellsApart of sheet → i < length sheet.players → j < length sheet.players
    → slice_index_or (starts_of sheet.players) i 0 ≡ a → slice_index_or (starts_of sheet.players) j 0 ≡ b → are_marked of i j ≡ some_carried (names_both a b) sheet
looked_up of sheet a b i j told li lj first second =
    told.both i j (omega (arith, li, told.count)) (omega (arith, lj, told.count))
    ∙ ap (λ (x : ℕ). some_carried (names_both x (slice_index_or (starts_of sheet.players) j 0)) sheet) first
    ∙ ap (λ (y : ℕ). some_carried (names_both a y) sheet) second

-- who is named together, where the places are those of the players of a sheet; and where no line names two
pub told : {E : Type 0} (r : Result Apart E) (sheet given : Sheet) (keys : List ℕ) (n : ℕ) → keys ≡ starts_of sheet.players → n ≡ length sheet.players
    → ((test : List (List ℕ) → Bool) → some_carried test given ≡ some_carried test sheet)
    → IfOk r (λ apart. (i j : ℕ) → i < apart.count → j < apart.count → are_marked apart i j ≡ some_carried (names_both (start_at keys i) (start_at keys j)) given)
    → IfOk r (λ apart. apart.count ≡ n) → IfOk r (λ apart. TellsApart apart sheet)
told (Ok apart) sheet given keys n keyed size same both count = record {
  count = count ∙ size;
  both = λ i j li lj.
      both i j li lj ∙ same (names_both (start_at keys i) (start_at keys j))
      ∙ ap (λ (xs : List ℕ). some_carried (names_both (start_at xs i) (start_at xs j)) sheet) keyed;
}
told (Err e) sheet given keys n keyed size same both count = tt

pub told_none : (apart : Apart) (sheet : Sheet) → apart.count ≡ length sheet.players → some_carried (is_kind (codes "XXP")) sheet ≡ false
    → ((i j : ℕ) → are_marked apart i j ≡ false) → TellsApart apart sheet
told_none apart sheet count nobody none = record {
  count = count;
  both = λ i j li lj. none i j ∙ sym (not_any (start_at (starts_of sheet.players) i) (start_at (starts_of sheet.players) j) sheet nobody);
}
