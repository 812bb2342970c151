-- What the start rank on a player's line is.
use Rattle.std.proofs.Common.{◌≡◌, ℕ, ◌<◌, ◌≤◌, Bool, true, false, ◌&&◌, ◌==◌, cond, List, [], ◌∷◌, length, refl, sym, ap, ◌∙◌, arith, rules, subst, Option, Some, None, Result, Ok, Err}
use Rattle.std.specs.Option.{ok_or}
use Rattle.std.specs.List.{list_all}
use Rattle.std.specs.Prelude.{nat_le}
use Rattle.std.specs.Char.{is_ascii_digit}
use Rattle.std.proofs.lemmas.Bool.{and_parts, leb-true}
use Rattle.std.proofs.lemmas.Str.Parse.{IsNumeralModel, numerals_by_fold, digits_value_short}
use Rattle.trf16_report.specs.Prelude.{text, words, is_number, number_after, number_of, number_in, trimmed, Entry, Sheet, known, blank_at, blanks_at, start_number_at, start_at, points_at, cells_at, player_at}
use Rattle.trf16_report.specs.Outcomes.{◌>>=◌}
use Rattle.trf16_report.specs.declared.cell.Cell.{Cell}
use Rattle.trf16_report.specs.declared.fault.Fault.{Fault}
use Rattle.trf16_report.specs.declared.fault.Fault.TheVariants.{BadNumber, Duplicate}
use Rattle.trf16_report.proofs.StepLemmas.{then_ok, same_ok}

pub own : IsNumeralModel (λ bs. list_all is_ascii_digit bs ≡ true) (number_after 0)
own = numerals_by_fold (λ bs. list_all is_ascii_digit bs ≡ true) (search rules) number_after (search rules)

-- at most four digits spell a number below 10000
value_below : (bytes : List ℕ) → list_all is_ascii_digit bytes ≡ true → length bytes ≤ 4 → number_after 0 bytes < 10000
value_below bytes h few = digits_value_short own bytes 4 h few

-- what a number says
pub record IsNumberWord (word : List ℕ) (n : ℕ) : Type 0 where
  pub digits : list_all is_ascii_digit word ≡ true
  pub below : n < 10000

pub number_is : (word : List ℕ) (n : ℕ) → number_of word ≡ Some n → IsNumberWord word n
number_is word n e = by (is_number word) refl e
  where
    by : (b : Bool) → is_number word ≡ b → cond b (Some (number_after 0 word)) None ≡ Some n → IsNumberWord word n
    by true is e' =
        let one = and_parts (nat_le 1 (length word) && nat_le (length word) 4) (list_all is_ascii_digit word) is in
        let two = and_parts (nat_le 1 (length word)) (nat_le (length word) 4) one.0 in
        let below : number_after 0 word < 10000 = value_below word one.1 (leb-true (length word) 4 two.1) in
        let same : number_after 0 word ≡ n = cc in
        record { digits = one.1; below = omega arith }
    by false is e' = absurd (cc)

number_below : (all : List (List ℕ)) (n : ℕ) → number_in all ≡ Some n → n < 10000
number_below [] n e = absurd (cc)
number_below (word ∷ []) n e = (number_is word n e).below
number_below (word ∷ word' ∷ all) n e = absurd (cc)

pub ok_or_ok : {A : Type 0} (o : Option A) (fault : Fault) (y : A) → ok_or o fault ≡ Ok y → o ≡ Some y
ok_or_ok (Some x) fault y e = let same : x ≡ y = cc in ap (λ z. Some z) same
ok_or_ok None fault y e = absurd (cc)

-- a step that is refused where a test holds
unless_ok : (b : Bool) (x y : ℕ) (fault : Fault) → ◌≡◌ {A = Result ℕ Fault} (cond b (Err fault) (Ok x)) (Ok y) → (b ≡ false) × (x ≡ y)
unless_ok true x y fault e = absurd (cc)
unless_ok false x y fault e = (refl, same_ok x y e)

-- what a start rank that was read is
pub record IsStart (sheet : Sheet) (n : ℕ) (line : List (List ℕ)) (start : ℕ) : Type 0 where
  pub number : number_in (words (text line 5 8)) ≡ Some start
  pub some : (start == 0) ≡ false
  pub fresh : known sheet start ≡ false

pub start_is : (sheet : Sheet) (n : ℕ) (line : List (List ℕ)) (start : ℕ) → start_at sheet n line ≡ Ok start → IsStart sheet n line start
unfolding start_at start_number_at
start_is sheet n line start e =
    let outer = then_ok (start_number_at n line) (λ s. cond (known sheet s) (Err (Duplicate n)) (Ok s)) start e in
    let fresh = unless_ok (known sheet outer.0) outer.0 start (Duplicate n) outer.2 in
    let inner = then_ok (ok_or (number_in (words (text line 5 8))) (BadNumber n)) (λ s. cond (s == 0) (Err (BadNumber n)) (Ok s)) outer.0 outer.1 in
    let some = unless_ok (inner.0 == 0) inner.0 outer.0 (BadNumber n) inner.2 in
    let read : number_in (words (text line 5 8)) ≡ Some inner.0 = ok_or_ok (number_in (words (text line 5 8))) (BadNumber n) inner.0 inner.1 in
    let same : inner.0 ≡ start = some.1 ∙ fresh.1 in
    record {
      number = read ∙ ap (λ s. Some s) same;
      some = ap (λ s. s == 0) (sym same) ∙ some.0;
      fresh = ap (known sheet) (sym fresh.1) ∙ fresh.0;
    }

same_start : (sheet : Sheet) (n : ℕ) (line : List (List ℕ)) (made entry : Entry) → made ≡ entry → IsStart sheet n line made.start → IsStart sheet n line entry.start
same_start sheet n line made entry e is = subst (λ (x : Entry). IsStart sheet n line x.start) e is

-- the start rank of a player who was read
pub start_of : (sheet : Sheet) (n : ℕ) (line : List (List ℕ)) (entry : Entry) → player_at sheet n line ≡ Ok entry → IsStart sheet n line entry.start
unfolding player_at
start_of sheet n line entry e =
    let made : ℕ → Option ℕ → List Cell → Entry = λ start points cells.
    record { start = start; line = n; points = points; left = trimmed (text line 9 80); right = trimmed (text line 85 89); cells = cells } in
    let rest : ℕ → Option ℕ → Result Entry Fault = λ start points. blanks_at n line (90 ∷ 91 ∷ []) >>= λ _. cells_at n line >>= λ cells. Ok (made start points cells) in
    let s1 = then_ok (blank_at n line 4) (λ _. start_at sheet n line >>= λ start. points_at n line >>= rest start) entry e in
    let s2 = then_ok (start_at sheet n line) (λ start. points_at n line >>= rest start) entry s1.2 in
    let s3 = then_ok (points_at n line) (rest s2.0) entry s2.2 in
    let s4 = then_ok (blanks_at n line (90 ∷ 91 ∷ [])) (λ _. cells_at n line >>= λ cells. Ok (made s2.0 s3.0 cells)) entry s3.2 in
    let s5 = then_ok (cells_at n line) (λ cells. Ok (made s2.0 s3.0 cells)) entry s4.2 in
    same_start sheet n line (made s2.0 s3.0 s5.0) entry (same_ok (made s2.0 s3.0 s5.0) entry s5.2) (start_is sheet n line s2.0 s2.1)

pub start_below : (sheet : Sheet) (n : ℕ) (line : List (List ℕ)) (start : ℕ) → IsStart sheet n line start → start < 10000
start_below sheet n line start is = number_below (words (text line 5 8)) start is.number
