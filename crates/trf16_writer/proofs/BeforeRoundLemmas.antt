-- The report as it stood before a round, case by case.
use Rattle.std.proofs.Common.{◌≡◌, ◌≢◌, ℕ, zero, suc, ◌+◌, ◌<◌, ◌==◌, true, false, ◌&&◌, cond, nat_lt, List, [], ◌∷◌, map, Some, None, refl, sym, ap, ◌∙◌, arith}
use Rattle.std.proofs.lemmas.Bool.Decides.{nat_tests}
use Rattle.trf16_report.specs.Prelude.{Entry, Sheet, before_round, rounds_played, taken_back}

-- a round by how many are in front of it
one : (sheet : Sheet) (round before : ℕ) → round ≡ before + 1
    → before_round sheet round ≡ cond (before == rounds_played sheet) (Some sheet)
    (cond (nat_lt before (rounds_played sheet) && (rounds_played (taken_back sheet before) == before)) (Some (taken_back sheet before)) None)
one sheet zero before e = absurd (omega arith)
one sheet (suc k) before e = let same : k ≡ before = omega arith in rw same refl

is_same : (a b : ℕ) → a ≡ b → (a == b) ≡ true
is_same a b e = grind (arith, nat_tests)

is_other : (a b : ℕ) → a ≢ b → (a == b) ≡ false
is_other a b e = grind (arith, nat_tests)

is_below : (a b : ℕ) → a < b → ((a == b) ≡ false) × (nat_lt a b ≡ true)
is_below a b e = (grind (arith, nat_tests), grind (arith, nat_tests))

-- the round behind the last
pub next_round : (sheet : Sheet) (round before : ℕ) → round ≡ before + 1 → before ≡ rounds_played sheet → Some sheet ≡ before_round sheet round
next_round sheet round before e same = rw (one sheet round before e, is_same before (rounds_played sheet) same) refl

-- an earlier one
pub earlier_round : (sheet back : Sheet) (round before : ℕ) → round ≡ before + 1 → before < rounds_played sheet → back ≡ taken_back sheet before → rounds_played back ≡ before
    → Some back ≡ before_round sheet round
earlier_round sheet back round before e earlier is reached =
    let here : rounds_played (taken_back sheet before) ≡ before = ap rounds_played (sym is) ∙ reached in
    let tests = is_below before (rounds_played sheet) earlier in
    rw (is, one sheet round before e, tests.0, tests.1, is_same (rounds_played (taken_back sheet before)) before here) refl

-- one in front of which no round was paired
pub no_round : (sheet back : Sheet) (round before : ℕ) → round ≡ before + 1 → before < rounds_played sheet → back ≡ taken_back sheet before → rounds_played back ≢ before
    → None ≡ before_round sheet round
no_round sheet back round before e earlier is missed =
    let elsewhere : rounds_played (taken_back sheet before) ≢ before = λ here. missed (ap rounds_played is ∙ here) in
    let tests = is_below before (rounds_played sheet) earlier in
    rw (one sheet round before e, tests.0, tests.1, is_other (rounds_played (taken_back sheet before)) before elsewhere) refl

-- players who stay as they are
pub kept : (players : List Entry) → map (λ (entry : Entry). entry) players ≡ players
kept [] = refl
kept (entry ∷ players) = ap (λ (rest : List Entry). entry ∷ rest) (kept players)
