-- The lines of a text that is put together from lines, and whether it is UTF-8.
use Rattle.std.proofs.Common.{◌≡◌, ℕ, ◌+◌, ◌<◌, Bool, true, false, not, ◌&&◌, ◌==◌, cond, get_or, List, [], ◌∷◌, ◌++◌, length, take, drop, refl, sym, ap, ◌∙◌, append_assoc, arith, subst, ◌⊎◌, inl, inr}
use Rattle.std.specs.List.{list_all}
use Rattle.std.specs.Char.{is_ascii}
use Rattle.std.specs.Str.{is_utf8, IsUtf8}
use Rattle.std.proofs.lemmas.Bool.{and_parts, and_from, true≢false, ltb-true, eqb-true}
use Rattle.std.proofs.lemmas.Bool.Decides.{nat_tests}
use Rattle.std.proofs.lemmas.List.{take_at, drop_at, append-nil, length-append, get_or_at}
use Rattle.std.proofs.lemmas.Str.{is_utf8-from_IsUtf8, IsUtf8-from_is_utf8, IsUtf8-append, IsUtf8-nil, IsUtf8-take, IsUtf8-drop, IsCharBoundary-before_ascii, IsCharBoundary-after_ascii, IsUtf8-from_ascii}
use Rattle.std.proofs.lemmas.Str.Ascii.{IsAscii-cons, IsAscii-nil}
use Rattle.std.proofs.Math.Bool.{and-true}
use Rattle.trf16_report.specs.Prelude.{ends_line, onto_first, lines, without_marks}

same_truth : (a b : Bool) → (a ≡ true → b ≡ true) → (b ≡ true → a ≡ true) → a ≡ b
same_truth true b to from = sym (to refl)
same_truth false true to from = from refl
same_truth false false to from = refl

-- a text is UTF-8 where both sides of an ASCII byte in it are
pub utf8_split : (xs : List ℕ) (c : ℕ) (ys : List ℕ) → is_ascii c ≡ true → is_utf8 (xs ++ c ∷ ys) ≡ (is_utf8 xs && is_utf8 ys)
utf8_split xs c ys ascii =
    let small : c < 128 = ltb-true c 128 ascii in
    let whole = xs ++ c ∷ ys in
    let here : get_or whole (length xs) 0 ≡ c = get_or_at xs c ys 0 (length xs) refl in
    let within : length xs < length whole = omega (arith, length-append xs (c ∷ ys)) in
    let below : get_or whole (length xs) 0 < 128 = rw here small in
    let to : is_utf8 whole ≡ true → (is_utf8 xs && is_utf8 ys) ≡ true = λ h.
    let u : IsUtf8 whole = IsUtf8-from_is_utf8 whole h in
    let front : IsUtf8 (take (length xs) whole) = IsUtf8-take whole (length xs) u (IsCharBoundary-before_ascii whole (length xs) within below) in
    let back : IsUtf8 (drop (length xs + 1) whole) = IsUtf8-drop whole (length xs + 1) u (IsCharBoundary-after_ascii whole (length xs) u within below) in
    let same : xs ++ c ∷ ys ≡ (xs ++ c ∷ []) ++ ys = sym (append_assoc xs (c ∷ []) ys) in
    let behind : drop (length xs + 1) whole ≡ ys =
    ap (λ (bs : List ℕ). drop (length xs + 1) bs) same ∙ drop_at (xs ++ c ∷ []) ys (length xs + 1) (length-append xs (c ∷ [])) in
    and_from (is_utf8 xs) (is_utf8 ys)
    (is_utf8-from_IsUtf8 xs (subst IsUtf8 (take_at xs (c ∷ ys) (length xs) refl) front)) (is_utf8-from_IsUtf8 ys (subst IsUtf8 behind back)) in
    let from : (is_utf8 xs && is_utf8 ys) ≡ true → is_utf8 whole ≡ true = λ h.
    let both = and_parts (is_utf8 xs) (is_utf8 ys) h in
    let one : IsUtf8 (c ∷ []) = IsUtf8-from_ascii (c ∷ []) (IsAscii-cons c [] small IsAscii-nil) in
    is_utf8-from_IsUtf8 whole (IsUtf8-append xs (c ∷ ys) (IsUtf8-from_is_utf8 xs both.0) (IsUtf8-append (c ∷ []) ys one (IsUtf8-from_is_utf8 ys both.1))) in
    same_truth (is_utf8 whole) (is_utf8 xs && is_utf8 ys) to from

pub utf8_nil : is_utf8 [] ≡ true
utf8_nil = is_utf8-from_IsUtf8 [] IsUtf8-nil

pub utf8_behind : (xs ys : List ℕ) → list_all is_ascii xs ≡ true → is_utf8 (xs ++ ys) ≡ is_utf8 ys
utf8_behind [] ys h = refl
utf8_behind (c ∷ xs) ys h =
    let both = and_parts (is_ascii c) (list_all is_ascii xs) h in
    utf8_split [] c (xs ++ ys) both.0 ∙ rw utf8_nil (utf8_behind xs ys both.1)

pub utf8_ascii : (xs : List ℕ) → list_all is_ascii xs ≡ true → is_utf8 xs ≡ true
utf8_ascii xs h = sym (ap is_utf8 (append-nil xs)) ∙ utf8_behind xs [] h ∙ utf8_nil

pub utf8_front : (xs ys : List ℕ) → list_all is_ascii ys ≡ true → is_utf8 (xs ++ ys) ≡ is_utf8 xs
utf8_front xs [] h = ap is_utf8 (append-nil xs)
utf8_front xs (c ∷ ys) h =
    let both = and_parts (is_ascii c) (list_all is_ascii ys) h in
    utf8_split xs c ys both.0 ∙ rw (utf8_ascii ys both.1) (and-true (is_utf8 xs))

-- a byte that is no end of a line
abbrev pub is_inside : ℕ → Bool
is_inside b = not (ends_line b)

not_true : (b : Bool) → not b ≡ true → b ≡ false
not_true true h = absurd (true≢false (sym h))
not_true false h = refl

no_return : (b : ℕ) → ends_line b ≡ false → (b == 13) ≡ false
no_return b h = grind (arith, nat_tests)

no_feed : (b : ℕ) → ends_line b ≡ false → (b == 10) ≡ false
no_feed b h = grind (arith, nat_tests)

-- a line in front of others
pub lines-line : (line rest : List ℕ) → list_all is_inside line ≡ true → lines (line ++ 10 ∷ rest) ≡ line ∷ lines rest
lines-line [] [] h = refl
lines-line [] (c ∷ rest) h = refl
lines-line (b ∷ []) rest h =
    let inside = not_true (ends_line b) (and_parts (is_inside b) true h).0 in
    let others : lines (10 ∷ rest) ≡ [] ∷ lines rest = lines-line [] rest refl in
    rw (no_return b inside, no_feed b inside, others) refl
lines-line (b ∷ c ∷ line) rest h =
    let both = and_parts (is_inside b) (list_all is_inside (c ∷ line)) h in
    let inside = not_true (ends_line b) both.0 in
    let others : lines (c ∷ (line ++ 10 ∷ rest)) ≡ (c ∷ line) ∷ lines rest = lines-line (c ∷ line) rest both.1 in
    rw (no_return b inside, no_feed b inside, others) refl

-- no line holds an end of a line
abbrev pub are_inside : List (List ℕ) → Bool
are_inside all = list_all (λ line. list_all is_inside line) all

inside_onto : (b : ℕ) (all : List (List ℕ)) → is_inside b ≡ true → are_inside all ≡ true → are_inside (onto_first b all) ≡ true
inside_onto b [] h h' = rw h refl
inside_onto b (first ∷ others) h h' = rw h h'

lines_step : (b : ℕ) (pair ends : Bool) (x y z : List (List ℕ)) → ends_line b ≡ ends → are_inside x ≡ true → are_inside y ≡ true → are_inside z ≡ true
    → are_inside (cond pair ([] ∷ x) (cond ends ([] ∷ y) (onto_first b z))) ≡ true
lines_step b true ends x y z e hx hy hz = hx
lines_step b false true x y z e hx hy hz = hy
lines_step b false false x y z e hx hy hz = inside_onto b z (rw e refl) hz

one_step : (b : ℕ) (ends : Bool) → ends_line b ≡ ends → are_inside (cond ends ([] ∷ []) ((b ∷ []) ∷ [])) ≡ true
one_step b true e = refl
one_step b false e = rw e refl

pub lines-inside : (bytes : List ℕ) → are_inside (lines bytes) ≡ true
lines-inside [] = refl
lines-inside (b ∷ []) = one_step b (ends_line b) refl
lines-inside (b ∷ c ∷ rest) =
    lines_step b ((b == 13) && (c == 10)) (ends_line b) (lines rest) (lines (c ∷ rest)) (lines (c ∷ rest)) refl (lines-inside rest) (lines-inside (c ∷ rest)) (lines-inside (c ∷ rest))

-- a text in front of some lines
onto : List ℕ → List (List ℕ) → List (List ℕ)
onto front [] = front ∷ []
onto front (first ∷ others) = (front ++ first) ∷ others

abbrev pub are_utf8 : List (List ℕ) → Bool
are_utf8 all = list_all is_utf8 all

onto-onto : (front : List ℕ) (b : ℕ) (all : List (List ℕ)) → onto front (onto_first b all) ≡ onto (front ++ b ∷ []) all
unfolding onto
onto-onto front b [] = refl
onto-onto front b (first ∷ others) = ap (λ (bs : List ℕ). bs ∷ others) (sym (append_assoc front (b ∷ []) first))

end_ascii : (b : ℕ) → ends_line b ≡ true → is_ascii b ≡ true
end_ascii b h = grind (arith, nat_tests)

from_onto : (all : List (List ℕ)) → are_utf8 (onto [] all) ≡ are_utf8 all
unfolding onto
from_onto [] = rw utf8_nil refl
from_onto (first ∷ others) = refl

-- a text is UTF-8 where its lines are
utf8_onto : (front bytes : List ℕ) → is_utf8 (front ++ bytes) ≡ are_utf8 (onto front (lines bytes))
unfolding onto
utf8_onto front [] = ap is_utf8 (append-nil front) ∙ sym (and-true (is_utf8 front))
utf8_onto front (b ∷ []) = by (ends_line b) refl
  where
    by : (ends : Bool) → ends_line b ≡ ends → is_utf8 (front ++ b ∷ []) ≡ are_utf8 (onto front (cond ends ([] ∷ []) ((b ∷ []) ∷ [])))
    by true e = utf8_split front b [] (end_ascii b e) ∙ rw (utf8_nil, append-nil front) refl
    by false e = sym (and-true (is_utf8 (front ++ b ∷ [])))
utf8_onto front (b ∷ c ∷ rest) =
    by ((b == 13) && (c == 10)) (ends_line b) refl refl (utf8_onto [] rest ∙ from_onto (lines rest)) (utf8_onto [] (c ∷ rest) ∙ from_onto (lines (c ∷ rest)))
    (utf8_onto (front ++ b ∷ []) (c ∷ rest))
  where
    by : (pair ends : Bool) → ((b == 13) && (c == 10)) ≡ pair → ends_line b ≡ ends → is_utf8 rest ≡ are_utf8 (lines rest) → is_utf8 (c ∷ rest) ≡ are_utf8 (lines (c ∷ rest))
        → is_utf8 ((front ++ b ∷ []) ++ c ∷ rest) ≡ are_utf8 (onto (front ++ b ∷ []) (lines (c ∷ rest)))
        → is_utf8 (front ++ b ∷ c ∷ rest) ≡ are_utf8 (onto front (cond pair ([] ∷ lines rest) (cond ends ([] ∷ lines (c ∷ rest)) (onto_first b (lines (c ∷ rest))))))
    by true ends e e' two one more =
        let both = and_parts (b == 13) (c == 10) e in
        let is_b : b ≡ 13 = eqb-true b 13 both.0 in
        let is_c : c ≡ 10 = eqb-true c 10 both.1 in
        utf8_split front b (c ∷ rest) (rw is_b refl) ∙ rw (utf8_split [] c rest (rw is_c refl), utf8_nil, append-nil front, two) refl
    by false true e e' two one more = utf8_split front b (c ∷ rest) (end_ascii b e') ∙ rw (append-nil front, one) refl
    by false false e e' two one more =
        ap is_utf8 (sym (append_assoc front (b ∷ []) (c ∷ rest))) ∙ more ∙ ap are_utf8 (sym (onto-onto front b (lines (c ∷ rest))))

pub utf8_lines : (bytes : List ℕ) → is_utf8 bytes ≡ are_utf8 (lines bytes)
utf8_lines bytes = utf8_onto [] bytes ∙ from_onto (lines bytes)

-- byte order marks

abbrev pub has_mark : List ℕ → Bool
has_mark (a ∷ b ∷ c ∷ rest) = (a == 0xEF) && (b == 0xBB) && (c == 0xBF)
has_mark _ = false

pub no_mark : (bytes : List ℕ) → has_mark bytes ≡ false → without_marks bytes ≡ bytes
no_mark [] h = refl
no_mark (a ∷ []) h = refl
no_mark (a ∷ b ∷ []) h = refl
no_mark (a ∷ b ∷ c ∷ rest) h = rw h refl

pub without_marks-no_mark : (bytes : List ℕ) → has_mark (without_marks bytes) ≡ false
without_marks-no_mark [] = refl
without_marks-no_mark (a ∷ []) = refl
without_marks-no_mark (a ∷ b ∷ []) = refl
without_marks-no_mark (a ∷ b ∷ c ∷ rest) = by ((a == 0xEF) && (b == 0xBB) && (c == 0xBF)) refl (without_marks-no_mark rest)
  where
    by : (test : Bool) → ((a == 0xEF) && (b == 0xBB) && (c == 0xBF)) ≡ test → has_mark (without_marks rest) ≡ false
        → has_mark (cond test (without_marks rest) (a ∷ b ∷ c ∷ rest)) ≡ false
    by true e h = h
    by false e h = e

-- the first line stands at the front
first_step : (b : ℕ) (all : List (List ℕ)) (first : List ℕ) (others : List (List ℕ)) → onto_first b all ≡ first ∷ others
    → ((all ≡ []) × (first ≡ b ∷ [])) ⊎ ((tail : List ℕ) × (more : List (List ℕ)) × (all ≡ tail ∷ more) × (first ≡ b ∷ tail))
first_step b [] first others e = let same : b ∷ [] ≡ first = cc in inl (refl, sym same)
first_step b (tail ∷ more) first others e = let same : b ∷ tail ≡ first = cc in inr (tail, more, refl, sym same)

pub lines-front : (bytes first : List ℕ) (others : List (List ℕ)) → lines bytes ≡ first ∷ others → (rest : List ℕ) × (bytes ≡ first ++ rest)
lines-front [] first others e = absurd (none first others e)
  where
    none : (first : List ℕ) (others : List (List ℕ)) → [] ≡ first ∷ others → ⊥
    none first others e = cc
lines-front (b ∷ []) first others e = by (ends_line b) e
  where
    by : (ends : Bool) → cond ends ([] ∷ []) ((b ∷ []) ∷ []) ≡ first ∷ others → (rest : List ℕ) × (b ∷ [] ≡ first ++ rest)
    by true e = let same : [] ≡ first = cc in (b ∷ [], ap (λ (bs : List ℕ). bs ++ b ∷ []) same)
    by false e = let same : b ∷ [] ≡ first = cc in ([], same ∙ sym (append-nil first))
lines-front (b ∷ c ∷ rest) first others e = by ((b == 13) && (c == 10)) (ends_line b) e (lines-front (c ∷ rest))
  where
    empty : (more : List (List ℕ)) → [] ∷ more ≡ first ∷ others → (rest' : List ℕ) × (b ∷ c ∷ rest ≡ first ++ rest')
    empty more e = let same : [] ≡ first = cc in (b ∷ c ∷ rest, ap (λ (bs : List ℕ). bs ++ b ∷ c ∷ rest) same)

    by : (pair ends : Bool) → cond pair ([] ∷ lines rest) (cond ends ([] ∷ lines (c ∷ rest)) (onto_first b (lines (c ∷ rest)))) ≡ first ∷ others
        → ((first' : List ℕ) (others' : List (List ℕ)) → lines (c ∷ rest) ≡ first' ∷ others' → (rest' : List ℕ) × (c ∷ rest ≡ first' ++ rest'))
        → (rest' : List ℕ) × (b ∷ c ∷ rest ≡ first ++ rest')
    by true ends e again = empty (lines rest) e
    by false true e again = empty (lines (c ∷ rest)) e
    by false false e again =
        elim (first_step b (lines (c ∷ rest)) first others e) [
          | inl none ↦ (c ∷ rest, ap (λ (bs : List ℕ). bs ++ c ∷ rest) (sym none.1))
          | inr some ↦
              let more = again some.0 some.1 some.2 in
              (more.0, ap (λ (bs : List ℕ). b ∷ bs) more.1 ∙ ap (λ (bs : List ℕ). bs ++ more.0) (sym some.3))
        ]

and_no : (b : Bool) → (b && false) ≡ false
and_no true = refl
and_no false = refl

pub line-no_mark : (bytes first : List ℕ) (others : List (List ℕ)) (rest : List ℕ) → lines bytes ≡ first ∷ others → has_mark bytes ≡ false → has_mark (first ++ 10 ∷ rest) ≡ false
line-no_mark bytes [] others [] e h = refl
line-no_mark bytes [] others (x ∷ []) e h = refl
line-no_mark bytes [] others (x ∷ y ∷ rest) e h = refl
line-no_mark bytes (a ∷ []) others [] e h = refl
line-no_mark bytes (a ∷ []) others (x ∷ rest) e h = rw (and_no (a == 0xEF)) refl
line-no_mark bytes (a ∷ b ∷ []) others rest e h = and_no ((a == 0xEF) && (b == 0xBB))
line-no_mark bytes (a ∷ b ∷ c ∷ first) others rest e h =
    let front = lines-front bytes (a ∷ b ∷ c ∷ first) others e in
    rw front.1 at h
