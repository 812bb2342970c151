-- In a report that was read no two players have the same start rank: a line whose start rank is known already is refused.
use Rattle.std.proofs.Common.{◌≡◌, ℕ, ◌+◌, ◌<◌, ◌≤◌, false, ◌==◌, nat_eq, nat_lt, List, [], ◌∷◌, ◌++◌, refl, sym, ap, subst, arith, inl, inr, Option, Some, None, Ok}
use Rattle.std.specs.Prelude.{IfSome}
use Rattle.std.specs.List.{AllByRecursion, IsDistinct, list_any}
use Rattle.std.specs.Option.{option_map_or}
use Rattle.std.specs.Str.{is_utf8}
use Rattle.std.proofs.lemmas.Bool.{or_parts, eqb-false, cases_Bool}
use Rattle.std.proofs.lemmas.Bool.Decides.{nat_tests}
use Rattle.std.proofs.lemmas.List.Elements.{All-from_recursion}
use Rattle.trf16_report.specs.Prelude.{columns, lines, without_marks, Entry, Sheet, with_player, starts_of, HasOwnStarts, is_player, line_onto, lines_onto, without_players, has_too_many_rounds, verdict}
use Rattle.trf16_report.proofs.StepLemmas.{same_ok}
use Rattle.trf16_writer.proofs.AcceptedReport.{accepted, sized_is, first_onto}
use Rattle.trf16_report.proofs.LineSteps.{line_keeps, line_adds}
use Rattle.trf16_writer.proofs.ReadStarts.{start_of, start_below}
use Rattle.trf16_report.specs.declared.limits.TheConstants.{MOST_ROUNDS}

-- a start rank that there can be
abbrev IsIn : ℕ → Type 0
IsIn start = (0 < start) × (start ≤ 9999)

-- start ranks that there can be, each once
abbrev Own : List ℕ → Type 0
Own starts = IsDistinct nat_eq starts × AllByRecursion IsIn starts

all_more : (p : ℕ → Type 0) (ys : List ℕ) (y : ℕ) → AllByRecursion p ys → p y → AllByRecursion p (ys ++ y ∷ [])
all_more p [] y all last = (last, tt)
all_more p (z ∷ ys) y all last = (all.0, all_more p ys y all.1 last)

starts-append : (entries : List Entry) (entry : Entry) → starts_of (entries ++ entry ∷ []) ≡ starts_of entries ++ entry.start ∷ []
starts-append [] entry = refl
starts-append (first ∷ entries) entry = ap (λ rest. first.start ∷ rest) (starts-append entries entry)

-- one player more, whose start rank nobody has
one_more : (entries : List Entry) (entry : Entry) → IsDistinct nat_eq (starts_of entries) → list_any (λ (e : Entry). e.start == entry.start) entries ≡ false
    → IsDistinct nat_eq (starts_of entries ++ entry.start ∷ [])
unfolding IsDistinct
one_more [] entry distinct fresh = (tt, tt)
one_more (first ∷ entries) entry distinct fresh =
    let both = or_parts (first.start == entry.start) (list_any (λ (e : Entry). e.start == entry.start) entries) fresh in
    (all_more (λ z. nat_eq first.start z ≡ false) (starts_of entries) entry.start distinct.0 both.0, one_more entries entry distinct.1 both.1)

some_start : (n : ℕ) → (n ≡ 0 → ⊥) → 0 < n
some_start n some = grind arith

line_own : (sheet next : Sheet) (n : ℕ) (line : List (List ℕ)) → line_onto sheet n line ≡ Ok next → Own (starts_of sheet.players) → Own (starts_of next.players)
line_own sheet next n line e own = elim (cases_Bool (is_player line)) [
  | inl named ↦
      let adds = line_adds sheet n line next named e in
      let start = start_of sheet n line adds.0 adds.1 in
      let below : adds.0.start < 10000 = start_below sheet n line adds.0.start start in
      let is_in : IsIn adds.0.start = (some_start adds.0.start (eqb-false adds.0.start 0 start.some), omega arith) in
      let more : Own (starts_of sheet.players ++ adds.0.start ∷ []) =
      (one_more sheet.players adds.0 own.0 start.fresh, all_more IsIn (starts_of sheet.players) adds.0.start own.1 is_in) in
      let whole : Own (starts_of (with_player sheet adds.0).players) = subst Own (sym (starts-append sheet.players adds.0)) more in
      subst (λ (s : Sheet). Own (starts_of s.players)) adds.2 whole
  | inr other ↦
      let keeps = line_keeps (λ entry. entry) sheet n line next other e in
      subst (λ (ps : List Entry). Own (starts_of ps)) (sym keeps.players) own
]

lines_own : (sheet final : Sheet) (n : ℕ) (all : List (List ℕ)) → lines_onto sheet n all ≡ Ok final → Own (starts_of sheet.players)
    → Own (starts_of final.players)
unfolding lines_onto
lines_own sheet final n [] e own = subst (λ (s : Sheet). Own (starts_of s.players)) (same_ok sheet final e) own
lines_own sheet final n (line ∷ rest) e own =
    let first = first_onto sheet final n line rest e in
    lines_own first.0 final (n + 1) rest first.2 (line_own sheet first.0 n (columns sheet.utf8 line) first.1 own)

few_rounds : (total : Option ℕ) → option_map_or (λ total. nat_lt MOST_ROUNDS total) total false ≡ false → IfSome total (λ total. total ≤ MOST_ROUNDS)
few_rounds None e = tt
few_rounds (Some total) e = grind (arith, nat_tests)

pub own_starts : (bytes : List ℕ) (bye : ℕ) (sheet : Sheet) → verdict bytes bye ≡ Ok sheet → HasOwnStarts sheet
unfolding IsDistinct
own_starts bytes bye sheet e =
    let utf8 = is_utf8 (without_marks bytes) in
    let all = lines (without_marks bytes) in
    let r = (accepted bytes bye sheet e).0 in
    let own = lines_own (without_players utf8 all bye) sheet 1 all r.read (tt, tt) in
    record {
      different = own.0;
      within = All-from_recursion IsIn (starts_of sheet.players) own.1;
      rounds = few_rounds sheet.total (sized_is sheet sheet (has_too_many_rounds utf8 all) r.size).named;
    }
