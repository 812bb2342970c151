-- Reading one thing after the other, as a loop does.
use Rattle.std.proofs.Common.{◌≡◌, ℕ, Bool, true, false, nat_lt, subst, ◌||◌, zero, suc, replicate, ◌-◌, ◌+◌, ◌<◌, ◌≤◌, get_or, drop, List, [], ◌∷◌, ◌++◌, length, Result, Ok, Err, refl, sym, ap, ◌∙◌, append_assoc, arith}
use Rattle.std.specs.Prelude.{MatchResult, is_ok}
use Rattle.std.specs.List.{list_all}
use Rattle.std.specs.Result.{IsErrAnd}
use Rattle.std.proofs.lemmas.Result.{err_from_is_err_and}
use Rattle.std.proofs.lemmas.List.{drop_more, drop_all}
use Rattle.std.specs.Str.{is_utf8, IsUtf8}
use Rattle.std.proofs.lemmas.Str.{is_utf8-from_IsUtf8, IsUtf8-from_is_utf8}
use Rattle.trf16_report.specs.declared.cell.Cell.{Cell}
use Rattle.trf16_report.specs.declared.cell.Cell.TheVariants.{Blank}
use Rattle.trf16_report.specs.declared.fault.Fault.{Fault}
use Rattle.trf16_report.specs.declared.fault.Fault.TheVariants.{BadNumber, Duplicate, Misaligned, BadCell, BadExtension, TooMany, NoPlayers, NoSuchOpponent, SelfOpponent, NotMutual, Colours, Results, Points, OutOfMemory}
use Rattle.trf16_report.specs.Prelude.{blank_at, blanks_at, round_at, rounds_at, is_blank_cell, is_player, line_onto, lines_onto, without_players, whole_report, laid_out, Sheet, columns, lines, without_marks, Fails, Gives}
use Rattle.trf16_report.specs.Outcomes.{◌>>=◌}
use Rattle.trf16_report.proofs.LineSteps.{line_keeps, line_adds}
use Rattle.trf16_report.specs.declared.limits.TheConstants.{MOST_BYTES, MOST_ROUNDS}

-- what was read before, and what is still read
abbrev pub behind : List Cell → Result (List Cell) Fault → Result (List Cell) Fault
behind front read = read >>= λ cells. Ok (front ++ cells)

-- a fault that one reading answers is that of another which ends with it
pub Fails-on : {A B : Type 0} (fault : Fault) (first : Result A Fault) (whole : Result B Fault) → ((f : Fault) → first ≡ Err f → whole ≡ Err f)
    → Fails fault first → Fails fault whole
Fails-on OutOfMemory first whole on h = tt
Fails-on (BadNumber n) first whole on h = on (BadNumber n) h
Fails-on (Duplicate n) first whole on h = on (Duplicate n) h
Fails-on (Misaligned n k) first whole on h = on (Misaligned n k) h
Fails-on (BadCell n r) first whole on h = on (BadCell n r) h
Fails-on (TooMany what) first whole on h = on (TooMany what) h
Fails-on NoPlayers first whole on h = on NoPlayers h
Fails-on (BadExtension n) first whole on h = on (BadExtension n) h
Fails-on (NoSuchOpponent p r) first whole on h = on (NoSuchOpponent p r) h
Fails-on (SelfOpponent p r) first whole on h = on (SelfOpponent p r) h
Fails-on (NotMutual p r) first whole on h = on (NotMutual p r) h
Fails-on (Colours p r) first whole on h = on (Colours p r) h
Fails-on (Results p r) first whole on h = on (Results p r) h
Fails-on (Points p) first whole on h = on (Points p) h

-- the exit of a `?`, where the steps before it met no fault
pub exits : {X Y A : Type 0} (view : X → Y) (answer : Result X Fault) (fault : Fault) (step : Result A Fault) (whole : Result Y Fault)
    → IsErrAnd answer (λ met. met ≡ fault) → Fails fault step → ((f : Fault) → step ≡ Err f → whole ≡ Err f) → Gives view answer whole
exits view answer fault step whole is met on = let p = err_from_is_err_and answer is in rw (p.1, p.2) (Fails-on fault step whole on met)

-- columns that must be blank, one by one
pub blanks_more : (n : ℕ) (line : List (List ℕ)) (columns : List ℕ) (i : ℕ) (d : ℕ) → i < length columns → blank_at n line (get_or columns i d) ≡ Ok tt
    → blanks_at n line (drop i columns) ≡ blanks_at n line (drop (i + 1) columns)
unfolding blanks_at
blanks_more n line columns i d lt e = rw (drop_more columns i d lt, e) refl

pub blanks_fail : (n : ℕ) (line : List (List ℕ)) (columns : List ℕ) (i : ℕ) (d : ℕ) (fault : Fault) → i < length columns
    → blank_at n line (get_or columns i d) ≡ Err fault → blanks_at n line (drop i columns) ≡ Err fault
unfolding blanks_at
blanks_fail n line columns i d fault lt e = rw (drop_more columns i d lt, e) refl

pub blanks_end : (n : ℕ) (line : List (List ℕ)) (columns : List ℕ) (i : ℕ) → length columns ≤ i → blanks_at n line (drop i columns) ≡ Ok tt
unfolding blanks_at
blanks_end n line columns i le = rw (drop_all i columns le) refl

regroup : (front : List Cell) (cell : Cell) (read : Result (List Cell) Fault)
    → behind front (read >>= λ others. Ok (cell ∷ others)) ≡ behind (front ++ cell ∷ []) read
regroup front cell (Ok others) = ap (λ (cells : List Cell). Ok cells) (sym (append_assoc front (cell ∷ []) others))
regroup front cell (Err fault) = refl

pub rounds-go_on : (n : ℕ) (line : List (List ℕ)) (front : List Cell) (before : ℕ) (cell : Cell) (total : Result (List Cell) Fault)
    → before < MOST_ROUNDS → round_at n line before ≡ Ok cell → behind front (rounds_at n line before (MOST_ROUNDS - before)) ≡ total
    → behind (front ++ cell ∷ []) (rounds_at n line (before + 1) (MOST_ROUNDS - (before + 1))) ≡ total
unfolding rounds_at
rounds-go_on n line front before cell total lt here so_far =
    let more : MOST_ROUNDS - before ≡ suc (MOST_ROUNDS - (before + 1)) = omega arith in
    let one : behind front (rounds_at n line before (MOST_ROUNDS - before)) ≡ behind (front ++ cell ∷ []) (rounds_at n line (before + 1) (MOST_ROUNDS - (before + 1))) =
    rw (more, here) (regroup front cell (rounds_at n line (before + 1) (MOST_ROUNDS - (before + 1)))) in
    sym one ∙ so_far

pub rounds-fail : (n : ℕ) (line : List (List ℕ)) (front : List Cell) (before : ℕ) (total : Result (List Cell) Fault) → before < MOST_ROUNDS
    → behind front (rounds_at n line before (MOST_ROUNDS - before)) ≡ total → (fault : Fault) → round_at n line before ≡ Err fault → total ≡ Err fault
unfolding rounds_at
rounds-fail n line front before total lt so_far fault here =
    let more : MOST_ROUNDS - before ≡ suc (MOST_ROUNDS - (before + 1)) = omega arith in
    let one : behind front (rounds_at n line before (MOST_ROUNDS - before)) ≡ Err fault = rw (more, here) refl in
    sym so_far ∙ one

-- a sheet of the same text: its columns and its lines
abbrev pub SameText : Sheet → Sheet → Type 0
SameText sheet next = (next.utf8 ≡ sheet.utf8) × (next.carried ≡ sheet.carried)

-- what a line adds does not change the text
pub line_onto-text : (sheet : Sheet) (n : ℕ) (line : List (List ℕ)) (next : Sheet) → line_onto sheet n line ≡ Ok next → SameText sheet next
line_onto-text sheet n line next e = by (is_player line) refl
  where
    by : (named : Bool) → is_player line ≡ named → SameText sheet next
    by true named = let adds = line_adds sheet n line next named e in subst (SameText sheet) adds.2 (refl, refl)
    by false other = let keeps = line_keeps (λ entry. entry) sheet n line next other e in (keeps.utf8, keeps.carried)

pub lines-go_on : (sheet next : Sheet) (n : ℕ) (line : List ℕ) (rest : List (List ℕ)) → line_onto sheet n (columns sheet.utf8 line) ≡ Ok next
    → lines_onto sheet n (line ∷ rest) ≡ lines_onto next (n + 1) rest
unfolding lines_onto
lines-go_on sheet next n line rest e = rw e refl

pub lines-fail : (sheet : Sheet) (n : ℕ) (line : List ℕ) (rest : List (List ℕ)) (fault : Fault) → line_onto sheet n (columns sheet.utf8 line) ≡ Err fault
    → lines_onto sheet n (line ∷ rest) ≡ Err fault
unfolding lines_onto
lines-fail sheet n line rest fault e = rw e refl

pub lines-end : (sheet : Sheet) (n : ℕ) → lines_onto sheet n [] ≡ Ok sheet
unfolding lines_onto
lines-end sheet n = refl

pub nil_from_length : (bytes : List ℕ) → length bytes ≡ 0 → bytes ≡ []
nil_from_length [] none = refl
nil_from_length (b ∷ bytes) none = absurd (omega arith)

-- the test of all lines where one of those before is too long, and where none is
pub stays_long : (next long here others total : Bool) → next ≡ long → long ≡ true → (long || (here || others)) ≡ total → (next || others) ≡ total
stays_long next long here others total same holds so_far = rw (same, holds) (rw holds at so_far)

pub becomes_long : (next long here others total : Bool) → next ≡ here → long ≡ false → (long || (here || others)) ≡ total → (next || others) ≡ total
becomes_long next long here others total same not_yet so_far = rw same (rw not_yet at so_far)

-- what `from_utf8` tells is the test
pub is_utf8_is : {S E : Type 0} (A : S → Type 0) (B : E → Type 0) (bytes : List ℕ) (r : Result S E)
    → MatchResult r (λ s. A s × IsUtf8 bytes) (λ e. ¬ (IsUtf8 bytes) × B e) → is_ok r ≡ is_utf8 bytes
is_utf8_is A B bytes (Ok s) h = sym (is_utf8-from_IsUtf8 bytes h.1)
is_utf8_is A B bytes (Err e) h = by (is_utf8 bytes) refl
  where
    by : (b : Bool) → is_utf8 bytes ≡ b → false ≡ b
    by true passes = absurd (h.0 (IsUtf8-from_is_utf8 bytes passes))
    by false fails = refl

-- a text that is not too long is what its lines make of a sheet with no players
pub laid_is : (bytes text : List ℕ) (utf8 : Bool) (bye : ℕ) (fresh : Sheet) → nat_lt MOST_BYTES (length bytes) ≡ false → text ≡ without_marks bytes
    → utf8 ≡ is_utf8 text → fresh ≡ without_players utf8 (lines text) bye → laid_out bytes bye ≡ whole_report fresh (lines text)
unfolding laid_out whole_report
laid_is bytes text utf8 bye fresh few same columns_are fresh_is = rw (few, ← same, ← columns_are, fresh_is) refl

-- a report whose players are judged behind it
pub accepted-gives : (sheet : Sheet) (fits given : Result (Unit {0}) Fault) (answer whole : Result Sheet Fault)
    → MatchResult fits (λ _. answer ≡ Ok sheet) (λ fault. answer ≡ Err fault) → Gives (λ x. x) fits given → whole ≡ (given >>= λ _. Ok sheet) → Gives (λ r. r) answer whole
accepted-gives sheet (Ok x) given answer whole is fit e = rw is (e ∙ ap (λ (g : Result (Unit {0}) Fault). g >>= λ _. Ok sheet) fit)
accepted-gives sheet (Err fault) given answer whole is fit e =
    rw is (Fails-on fault given whole (λ f g. e ∙ ap (λ (r : Result (Unit {0}) Fault). r >>= λ _. Ok sheet) g) fit)

-- blank cells say nothing
pub all_are_blank : (n : ℕ) → list_all is_blank_cell (replicate n Blank) ≡ true
all_are_blank zero = refl
all_are_blank (suc n) = all_are_blank n
