-- What is noted line by line is what the lines say in the end.
use Rattle.std.proofs.Common.{◌≡◌, ℕ, Bool, true, false, cond, ◌||◌, ◌+◌, ◌≤◌, ◌<◌, List, [], ◌∷◌, map, Option, Some, None, refl, sym, ap, ◌∙◌, arith, nat_lt, is_some, get_or, length, drop}
use Rattle.std.proofs.lemmas.List.{drop_more, drop_all}
use Rattle.std.proofs.lemmas.Bool.{le-ltb, ltb-false}
use Rattle.std.specs.Prelude.{codes}
use Rattle.std.specs.List.{list_any}
use Rattle.std.specs.Option.{option_map_or, option_or}
use Rattle.trf16_report.specs.Prelude.{columns, is_kind, names_absent, has_other_points, is_of, first_at, first_of, carried_line, without_players, Sheet, is_marked, first_noted, noted_first, earlier, Tells}
use Rattle.std.proofs.lemmas.Bool.Decides.{nat_tests}
use Rattle.std.proofs.Math.Bool.{or-false, or_assoc}
use Rattle.trf16_report.specs.declared.kind.LineKind.TheVariants.{Xxs}
use Rattle.trf16_report.specs.declared.kind.LineKind.{LineKind}
use Rattle.trf16_report.specs.declared.notes.Notes.{Notes}
use Rattle.trf16_report.proofs.AnsweringLemmas.{some_of, some_of-cons, not_of_kind, not_of_kinds, not_absent, first_at-cons}

-- the lines of a kind
abbrev pub of_kind : LineKind → List (List ℕ) → Bool
of_kind kind line = list_any (is_of line) (kind ∷ [])

-- what is noted, and what the lines from line n on say, are together what all lines say
pub record AreNoted (notes : Notes) (utf8 : Bool) (n : ℕ) (rest all : List (List ℕ)) : Type 0 where
  pub absent : (start : ℕ) → (is_marked notes start || some_of (names_absent start) utf8 rest) ≡ some_of (names_absent start) utf8 all
  pub first : (kind : LineKind) → option_or (first_noted notes kind) (first_at (of_kind kind) utf8 n (map (carried_line utf8) rest))
      ≡ first_at (of_kind kind) utf8 1 (map (carried_line utf8) all)
  pub together : (notes.together || some_of (is_kind (codes "XXP")) utf8 rest) ≡ some_of (is_kind (codes "XXP")) utf8 all

first_step : (before : Option ℕ) (here : Bool) (n : ℕ) (others : Option ℕ)
    → option_or (noted_first before here n) others ≡ option_or before (cond here (Some n) others)
first_step (Some k) here n others = refl
first_step None true n others = refl
first_step None false n others = refl

-- before the first line nothing is noted
pub noted-none : (notes : Notes) (utf8 : Bool) (all : List (List ℕ)) → ((start : ℕ) → is_marked notes start ≡ false) → ((kind : LineKind) → first_noted notes kind ≡ None)
    → notes.together ≡ false → AreNoted notes utf8 1 all all
noted-none notes utf8 all none no_first no_line = record {
  absent = λ start. rw (none start) refl;
  first = λ kind. rw (no_first kind) refl;
  together = rw no_line refl;
}

-- one more line
pub noted-more : (notes next : Notes) (utf8 : Bool) (n : ℕ) (line : List ℕ) (rest all : List (List ℕ)) → AreNoted notes utf8 n (line ∷ rest) all
    → ((start : ℕ) → is_marked next start ≡ (is_marked notes start || names_absent start (columns utf8 line)))
    → ((kind : LineKind) → first_noted next kind ≡ noted_first (first_noted notes kind) (is_of (columns utf8 line) kind) n)
    → next.together ≡ (notes.together || is_kind (codes "XXP") (columns utf8 line))
    → AreNoted next utf8 (n + 1) rest all
noted-more notes next utf8 n line rest all noted marks firsts together = record {
  absent = λ start.
      ap (λ b. b || some_of (names_absent start) utf8 rest) (marks start)
      ∙ or_assoc (is_marked notes start) (names_absent start (columns utf8 line)) (some_of (names_absent start) utf8 rest)
      ∙ ap (λ b. is_marked notes start || b) (sym (some_of-cons (names_absent start) utf8 line rest (names_absent start (columns utf8 line)) (not_absent start (columns utf8 line)) refl))
      ∙ noted.absent start;
  first = λ kind.
      let others = first_at (of_kind kind) utf8 (n + 1) (map (carried_line utf8) rest) in
      let here = is_of (columns utf8 line) kind in
      ap (λ (o : Option ℕ). option_or o others) (firsts kind)
      ∙ first_step (first_noted notes kind) here n others
      ∙ ap (option_or (first_noted notes kind)) (sym (first_at-cons (of_kind kind) utf8 n line rest here (not_of_kinds (columns utf8 line) (kind ∷ [])) (or-false here)))
      ∙ noted.first kind;
  together =
      let test = is_kind (codes "XXP") in
      let here = test (columns utf8 line) in
      ap (λ b. b || some_of test utf8 rest) together
      ∙ or_assoc notes.together here (some_of test utf8 rest)
      ∙ ap (λ b. notes.together || b) (sym (some_of-cons test utf8 line rest here (not_of_kind (columns utf8 line) (codes "XXP") refl) refl))
      ∙ noted.together;
}

pub or_none : (o : Option ℕ) → option_or o None ≡ o
or_none None = refl
or_none (Some k) = refl

-- behind the last line
pub noted-all : (notes : Notes) (utf8 : Bool) (n : ℕ) (all : List (List ℕ)) (bye : ℕ) → AreNoted notes utf8 n [] all → Tells notes (without_players utf8 all bye)
noted-all notes utf8 n all bye noted = record {
  absent = λ start. sym (or-false (is_marked notes start)) ∙ noted.absent start;
  first = λ kind. sym (or_none (first_noted notes kind)) ∙ noted.first kind;
  together = sym (or-false notes.together) ∙ noted.together;
}

-- what is noted of one sheet is what another with the same lines says
pub tells_same : (notes : Notes) (a b : Sheet) → b.utf8 ≡ a.utf8 → b.carried ≡ a.carried → Tells notes a → Tells notes b
tells_same notes a b same_columns same_lines told = record {
  absent = λ start. told.absent start ∙ sym (rw (same_columns, same_lines) refl);
  first = λ kind. told.first kind ∙ sym (rw (same_columns, same_lines) refl);
  together = told.together ∙ sym (rw (same_columns, same_lines) refl);
}

-- notes that say the same of each start rank and kind
pub tells_again : (notes again : Notes) (sheet : Sheet) → ((start : ℕ) → is_marked again start ≡ is_marked notes start)
    → ((kind : LineKind) → first_noted again kind ≡ first_noted notes kind) → again.together ≡ notes.together → Tells notes sheet → Tells again sheet
tells_again notes again sheet marks firsts same told = record {
  absent = λ start. marks start ∙ told.absent start;
  first = λ kind. firsts kind ∙ told.first kind;
  together = same ∙ told.together;
}

from_here : (here : Bool) (n m : ℕ) (others : Option ℕ) → (others ≡ Some m → n + 1 ≤ m) → cond here (Some n) others ≡ Some m → n ≤ m
from_here true n m others behind e = let same : n ≡ m = cc in omega arith
from_here false n m others behind e = omega (arith, behind e)

-- a line that is found is none in front of where the search began
first-from : (test : List (List ℕ) → Bool) (utf8 : Bool) (n : ℕ) (lines : List (Option (List ℕ))) (m : ℕ) → first_at test utf8 n lines ≡ Some m → n ≤ m
first-from test utf8 n [] m e = absurd (cc)
first-from test utf8 n (line ∷ rest) m e =
    from_here (option_map_or (λ bytes. test (columns utf8 bytes)) line false) n m (first_at test utf8 (n + 1) rest) (first-from test utf8 (n + 1) rest m) e

earlier_left : (n : ℕ) (o : Option ℕ) → ((m : ℕ) → o ≡ Some m → n ≤ m) → earlier (Some n) o ≡ Some n
earlier_left n None h = refl
earlier_left n (Some m) h = ap (λ (k : ℕ). Some k) (rw (le-ltb m n (h m refl)) refl)

smaller_right : (b : Bool) (n m : ℕ) → (b ≡ false → m ≤ n) → n ≤ m → cond b n m ≡ n
smaller_right true n m h le = refl
smaller_right false n m h le = omega (arith, h refl, le)

earlier_right : (n : ℕ) (o : Option ℕ) → ((m : ℕ) → o ≡ Some m → n ≤ m) → earlier o (Some n) ≡ Some n
earlier_right n None h = refl
earlier_right n (Some m) h = ap (λ (k : ℕ). Some k) (smaller_right (nat_lt n m) n m (ltb-false n m) (h m refl))

two_firsts : (a b : Bool) (n : ℕ) (one other either : Option ℕ) → ((m : ℕ) → one ≡ Some m → n + 1 ≤ m) → ((m : ℕ) → other ≡ Some m → n + 1 ≤ m)
    → earlier one other ≡ either → earlier (cond a (Some n) one) (cond b (Some n) other) ≡ cond (a || b) (Some n) either
two_firsts true true n one other either first second e = earlier_left n (Some n) (λ m e'. let same : n ≡ m = cc in omega arith)
two_firsts true false n one other either first second e = earlier_left n other (λ m e'. omega (arith, second m e'))
two_firsts false true n one other either first second e = earlier_right n one (λ m e'. omega (arith, first m e'))
two_firsts false false n one other either first second e = e

-- the first line that passes one of two tests is the earlier one of their first lines
pub first_of_two : (one other : List (List ℕ) → Bool) (utf8 : Bool) (n : ℕ) (lines : List (Option (List ℕ)))
    → earlier (first_at one utf8 n lines) (first_at other utf8 n lines) ≡ first_at (λ line. one line || other line) utf8 n lines
first_of_two one other utf8 n [] = refl
first_of_two one other utf8 n (None ∷ rest) = first_of_two one other utf8 (n + 1) rest
first_of_two one other utf8 n (Some bytes ∷ rest) =
    two_firsts (one (columns utf8 bytes)) (other (columns utf8 bytes)) n (first_at one utf8 (n + 1) rest) (first_at other utf8 (n + 1) rest)
    (first_at (λ line. one line || other line) utf8 (n + 1) rest) (first-from one utf8 (n + 1) rest) (first-from other utf8 (n + 1) rest)
    (first_of_two one other utf8 (n + 1) rest)

-- of no kinds there is no line
pub first_of_none : (utf8 : Bool) (n : ℕ) (lines : List (Option (List ℕ))) → first_at (λ line. list_any (is_of line) []) utf8 n lines ≡ None
first_of_none utf8 n [] = refl
first_of_none utf8 n (None ∷ rest) = first_of_none utf8 (n + 1) rest
first_of_none utf8 n (Some bytes ∷ rest) = first_of_none utf8 (n + 1) rest

-- the first lines of some kinds and of one more
pub first_of-cons : (kind : LineKind) (kinds : List LineKind) (utf8 : Bool) (n : ℕ) (lines : List (Option (List ℕ)))
    → earlier (first_at (of_kind kind) utf8 n lines) (first_at (λ line. list_any (is_of line) kinds) utf8 n lines) ≡ first_at (λ line. list_any (is_of line) (kind ∷ kinds)) utf8 n lines
first_of-cons kind kinds utf8 n lines =
    ap (λ (o : Option ℕ). earlier o (first_at (λ line. list_any (is_of line) kinds) utf8 n lines)) (same_first lines n)
    ∙ first_of_two (λ line. is_of line kind) (λ line. list_any (is_of line) kinds) utf8 n lines
  where
    same_first : (ls : List (Option (List ℕ))) (k : ℕ) → first_at (of_kind kind) utf8 k ls ≡ first_at (λ line. is_of line kind) utf8 k ls
    same_first [] k = refl
    same_first (None ∷ rest) k = same_first rest (k + 1)
    same_first (Some bytes ∷ rest) k = rw (or-false (is_of (columns utf8 bytes) kind), same_first rest (k + 1)) refl

-- of two first lines and a third it does not matter which two are compared first
pub earlier_assoc : (a b c : Option ℕ) → earlier (earlier a b) c ≡ earlier a (earlier b c)
earlier_assoc None b c = refl
earlier_assoc (Some a) None c = refl
earlier_assoc (Some a) (Some b) None = refl
earlier_assoc (Some a) (Some b) (Some c) = grind (arith, nat_tests)

pub earlier_none : (a : Option ℕ) → earlier a None ≡ a
earlier_none None = refl
earlier_none (Some a) = refl

some_found : (test : List (List ℕ) → Bool) (utf8 : Bool) (lines : List (Option (List ℕ))) (n : ℕ)
    → is_some (first_at test utf8 n lines) ≡ list_any (λ line. option_map_or (λ bytes. test (columns utf8 bytes)) line false) lines
some_found test utf8 [] n = refl
some_found test utf8 (None ∷ rest) n = some_found test utf8 rest (n + 1)
some_found test utf8 (Some bytes ∷ rest) n = by (test (columns utf8 bytes)) (first_at test utf8 (n + 1) rest) (some_found test utf8 rest (n + 1))
  where
    by : (here : Bool) (found : Option ℕ) → is_some found ≡ list_any (λ line. option_map_or (λ b. test (columns utf8 b)) line false) rest
        → is_some (cond here (Some n) found) ≡ (here || list_any (λ line. option_map_or (λ b. test (columns utf8 b)) line false) rest)
    by true found e = refl
    by false found e = e

-- there is a first line XXS exactly where some line is one
pub other_points-first : (sheet : Sheet) → is_some (first_of (Xxs ∷ []) sheet) ≡ has_other_points sheet
other_points-first sheet = some_found (of_kind Xxs) sheet.utf8 sheet.carried 1 ∙ same_any sheet.carried
  where
    same_any : (lines : List (Option (List ℕ))) → list_any (λ line. option_map_or (λ bytes. of_kind Xxs (columns sheet.utf8 bytes)) line false) lines
        ≡ list_any (λ line. option_map_or (λ bytes. is_kind (codes "XXS") (columns sheet.utf8 bytes)) line false) lines
    same_any [] = refl
    same_any (None ∷ rest) = same_any rest
    same_any (Some bytes ∷ rest) = rw (or-false (is_kind (codes "XXS") (columns sheet.utf8 bytes)), same_any rest) refl

-- one more kind is asked for
pub kinds-more : (sheet : Sheet) (kinds : List LineKind) (i : ℕ) (d : LineKind) (before total : Option ℕ) → i < length kinds
    → earlier before (first_of (drop i kinds) sheet) ≡ total
    → earlier (earlier before (first_of (get_or kinds i d ∷ []) sheet)) (first_of (drop (i + 1) kinds) sheet) ≡ total
kinds-more sheet kinds i d before total lt so_far =
    let kind = get_or kinds i d in
    let later = drop (i + 1) kinds in
    earlier_assoc before (first_of (kind ∷ []) sheet) (first_of later sheet)
    ∙ ap (earlier before) (first_of-cons kind later sheet.utf8 1 sheet.carried
    ∙ sym (ap (λ (ks : List LineKind). first_of ks sheet) (drop_more kinds i d lt)))
    ∙ so_far

pub kinds-end : (sheet : Sheet) (kinds : List LineKind) (i : ℕ) (before total : Option ℕ) → length kinds ≤ i → earlier before (first_of (drop i kinds) sheet) ≡ total → before ≡ total
kinds-end sheet kinds i before total le so_far =
    sym (ap (λ (ks : List LineKind). earlier before (first_of ks sheet)) (drop_all i kinds le) ∙ ap (earlier before) (first_of_none sheet.utf8 1 sheet.carried) ∙ earlier_none before) ∙ so_far
