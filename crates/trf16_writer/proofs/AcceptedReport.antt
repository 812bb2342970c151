-- What a report that was read is, rule by rule.
use Rattle.std.proofs.Common.{◌≡◌, ℕ, ◌+◌, Bool, true, false, ◌||◌, ◌==◌, nat_lt, cond, List, ◌∷◌, length, refl, sym, ap, ◌∙◌, subst, Result, Ok, Err}
use Rattle.std.specs.Str.{is_utf8}
use Rattle.trf16_report.specs.Prelude.{columns, lines, without_marks, Sheet, players_fit, line_onto, lines_onto, without_players, has_too_many_rounds, names_too_many_rounds, sized, laid_out, verdict}
use Rattle.trf16_report.specs.Outcomes.{◌>>=◌}
use Rattle.trf16_report.specs.declared.fault.Excess.TheVariants.{Bytes, Players, Rounds}
use Rattle.trf16_report.specs.declared.fault.Fault.{Fault}
use Rattle.trf16_report.specs.declared.fault.Fault.TheVariants.{TooMany, NoPlayers}
use Rattle.trf16_report.specs.declared.limits.TheConstants.{MOST_PLAYERS, MOST_BYTES}
use Rattle.trf16_report.proofs.StepLemmas.{then_ok, same_ok}

pub first_onto : (sheet final : Sheet) (n : ℕ) (line : List ℕ) (rest : List (List ℕ)) → lines_onto sheet n (line ∷ rest) ≡ Ok final
    → (next : Sheet) × (line_onto sheet n (columns sheet.utf8 line) ≡ Ok next) × (lines_onto next (n + 1) rest ≡ Ok final)
unfolding lines_onto
first_onto sheet final n line rest e = then_ok (line_onto sheet n (columns sheet.utf8 line)) (λ next. lines_onto next (n + 1) rest) final e

-- what a report of a sound size is
pub record IsSized (sheet next : Sheet) (long : Bool) : Type 0 where
  pub same : sheet ≡ next
  pub few : nat_lt MOST_PLAYERS (length sheet.players) ≡ false
  pub short : long ≡ false
  pub named : names_too_many_rounds sheet ≡ false
  pub some : (length sheet.players == 0) ≡ false

pub sized_is : (sheet next : Sheet) (long : Bool) → sized sheet long ≡ Ok next → IsSized sheet next long
unfolding sized
sized_is sheet next long e =
    let are = by (nat_lt MOST_PLAYERS (length sheet.players)) (length sheet.players == 0) long (names_too_many_rounds sheet) e in
    record { same = are.0; few = are.1; short = are.2; named = are.3; some = are.4 }
  where
    by : (many none long named : Bool)
        → ◌≡◌ {A = Result Sheet Fault} (cond many (Err (TooMany Players)) (cond (long || named) (Err (TooMany Rounds)) (cond none (Err NoPlayers) (Ok sheet)))) (Ok next)
        → (sheet ≡ next) × (many ≡ false) × (long ≡ false) × (named ≡ false) × (none ≡ false)
    by true none long named e = absurd (cc)
    by false none true named e = absurd (cc)
    by false none false true e = absurd (cc)
    by false true false false e = absurd (cc)
    by false false false false e = (same_ok sheet next e, refl, refl, refl, refl)

-- what a report is before the rules on its players are looked at
pub record IsLaidOut (utf8 : Bool) (all : List (List ℕ)) (bye : ℕ) (report : Sheet) : Type 0 where
  pub read : lines_onto (without_players utf8 all bye) 1 all ≡ Ok report
  pub size : sized report (has_too_many_rounds utf8 all) ≡ Ok report
  pub short : has_too_many_rounds utf8 all ≡ false

-- the lines of a text behind its marks, laid out
abbrev pub IsLaidOutOf : List ℕ → ℕ → Sheet → Type 0
IsLaidOutOf bytes bye report = IsLaidOut (is_utf8 (without_marks bytes)) (lines (without_marks bytes)) bye report

laid_of : (bytes : List ℕ) (bye : ℕ) (report : Sheet) → laid_out bytes bye ≡ Ok report → IsLaidOutOf bytes bye report
unfolding laid_out
laid_of bytes bye report e = by (nat_lt MOST_BYTES (length bytes)) e
  where
    by : (b : Bool)
        → cond b (Err (TooMany Bytes))
        (lines_onto (without_players (is_utf8 (without_marks bytes)) (lines (without_marks bytes)) bye) 1 (lines (without_marks bytes))
        >>= λ sheet. sized sheet (has_too_many_rounds (is_utf8 (without_marks bytes)) (lines (without_marks bytes)))) ≡ Ok report
        → IsLaidOutOf bytes bye report
    by true e = absurd (cc)
    by false e =
        let utf8 = is_utf8 (without_marks bytes) in
        let all = lines (without_marks bytes) in
        let long = has_too_many_rounds utf8 all in
        let s = then_ok (lines_onto (without_players utf8 all bye) 1 all) (λ sheet. sized sheet long) report e in
        let size = sized_is s.0 report long s.2 in
        record {
          read = s.1 ∙ ap (λ (s : Sheet). Ok s) size.same;
          size = ap (λ (s : Sheet). sized s long) (sym size.same) ∙ s.2;
          short = size.short;
        }

-- a report that is laid out and meets a rule on its players
pub rule_met : (bytes : List ℕ) (bye : ℕ) (report : Sheet) (rule : Sheet → Result (Unit {0}) Fault)
    → (laid_out bytes bye >>= λ sheet. rule sheet >>= λ _. Ok sheet) ≡ Ok report → IsLaidOutOf bytes bye report × (rule report ≡ Ok tt)
rule_met bytes bye report rule e =
    let laid = then_ok (laid_out bytes bye) (λ sheet. rule sheet >>= λ _. Ok sheet) report e in
    let looked = then_ok (rule laid.0) (λ _. Ok laid.0) report laid.2 in
    let same : laid.0 ≡ report = same_ok laid.0 report looked.2 in
    (laid_of bytes bye report (laid.1 ∙ ap (λ (s : Sheet). Ok s) same), subst (λ (s : Sheet). rule s ≡ Ok tt) same looked.1)

pub accepted : (bytes : List ℕ) (bye : ℕ) (report : Sheet) → verdict bytes bye ≡ Ok report → IsLaidOutOf bytes bye report × (players_fit report report.players ≡ Ok tt)
unfolding verdict
accepted bytes bye report e = rule_met bytes bye report (λ sheet. players_fit sheet sheet.players) e
