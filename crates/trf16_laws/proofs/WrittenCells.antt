-- The cells of a line, written in their columns, read back as themselves.
use Rattle.std.proofs.Common.{◌≡◌, ℕ, zero, suc, ◌-◌, ◌<◌, Bool, true, false, ◌&&◌, nat_lt, List, [], ◌∷◌, ◌++◌, length, refl, ◌∙◌, arith, Option, Some, None}
use Rattle.std.specs.Prelude.{codes}
use Rattle.std.specs.Fmt.{decimal}
use Rattle.std.specs.List.{list_all}
use Rattle.std.specs.Option.{option_map_or}
use Rattle.std.specs.Char.{is_ascii, is_ascii_digit, to_ascii_uppercase}
use Rattle.std.proofs.lemmas.Bool.{and_parts, and_from, ltb-true, ne_eqb}
use Rattle.std.proofs.lemmas.Bool.Decides.{nat_tests}
use Rattle.std.proofs.lemmas.List.{length-append, length-replicate}
use Rattle.trf16_report.specs.Prelude.{words, cell_from, cell_of, opponent_in, opponent_in_cell, blanks, right_in_four, colour_letter, meeting_text, cell_text}
use Rattle.trf16_report.specs.declared.cell.Colour.{Colour}
use Rattle.trf16_report.specs.declared.cell.Colour.TheVariants.{White, Black}
use Rattle.trf16_report.specs.declared.cell.Bye.{Bye as ByeKind}
use Rattle.trf16_report.specs.declared.cell.Bye.TheVariants.{Half, Full, Allocated, Zero}
use Rattle.trf16_report.specs.declared.cell.GameOutcome.{GameOutcome}
use Rattle.trf16_report.specs.declared.cell.GameOutcome.TheVariants.{Win, Draw, Loss}
use Rattle.trf16_report.specs.declared.cell.Cell.{Cell}
use Rattle.trf16_report.specs.declared.cell.Cell.TheVariants.{Blank, Bye, Game, Forfeit, Unfinished}
use Rattle.trf16_laws.proofs.WrittenNumbers.{words-blanks, words-digits, digits-decimal, length-decimal, number_of-decimal}
use Rattle.trf16_report.proofs.WrittenColumns.{is_plain}

-- the opponent that a cell names is a start rank
abbrev pub is_sound : Cell → Bool
is_sound cell = option_map_or (λ opponent. nat_lt 0 opponent && nat_lt opponent 10000) (opponent_in_cell cell) true

pub words-decimal : (n : ℕ) → n < 10000 → words (right_in_four (decimal n)) ≡ decimal n ∷ []
words-decimal n lt = words-blanks (4 - length (decimal n)) (decimal n) ∙ words-digits (decimal n) (digits-decimal n lt) (length-decimal n lt).0

pub opponent-decimal : (n : ℕ) → 0 < n → n < 10000 → opponent_in (words (right_in_four (decimal n))) ≡ Some (Some n)
opponent-decimal n some lt = rw (words-decimal n lt, number_of-decimal n lt, ne_eqb n 0 (λ e. omega (arith, e))) refl

-- a cell, as its three fields
pub record Fields (cell : Cell) : Type 0 where
  pub opponent : List ℕ
  pub colour : ℕ
  pub result : ℕ
  pub four : length opponent ≡ 4
  pub spelled : cell_text cell ≡ opponent ++ (32 ∷ colour ∷ 32 ∷ result ∷ [])
  pub read : cell_from opponent (colour ∷ []) (result ∷ []) ≡ Some cell
  pub plain : list_all is_plain (cell_text cell) ≡ true

pub length-four : (n : ℕ) → n < 10000 → length (right_in_four (decimal n)) ≡ 4
length-four n lt =
    let sizes = length-decimal n lt in
    omega (arith, length-append (blanks (4 - length (decimal n))) (decimal n), length-replicate {A = ℕ} (4 - length (decimal n)) 32)

pub list_all-append : (test : ℕ → Bool) (xs ys : List ℕ) → list_all test xs ≡ true → list_all test ys ≡ true → list_all test (xs ++ ys) ≡ true
list_all-append test [] ys h h' = h'
list_all-append test (x ∷ xs) ys h h' =
    let both = and_parts (test x) (list_all test xs) h in
    and_from (test x) (list_all test (xs ++ ys)) both.0 (list_all-append test xs ys both.1 h')

pub plain-blanks : (n : ℕ) → list_all is_plain (blanks n) ≡ true
plain-blanks zero = refl
plain-blanks (suc n) = plain-blanks n

plain_digit : (b : ℕ) → is_ascii_digit b ≡ true → is_plain b ≡ true
plain_digit b h = grind (arith, nat_tests)

pub plain-digits : (bytes : List ℕ) → list_all is_ascii_digit bytes ≡ true → list_all is_plain bytes ≡ true
plain-digits [] h = refl
plain-digits (b ∷ rest) h =
    let both = and_parts (is_ascii_digit b) (list_all is_ascii_digit rest) h in
    and_from (is_plain b) (list_all is_plain rest) (plain_digit b both.0) (plain-digits rest both.1)

ascii_digit : (b : ℕ) → is_ascii_digit b ≡ true → is_ascii b ≡ true
ascii_digit b h = grind (arith, nat_tests)

pub ascii-digits : (bytes : List ℕ) → list_all is_ascii_digit bytes ≡ true → list_all is_ascii bytes ≡ true
ascii-digits [] h = refl
ascii-digits (b ∷ rest) h =
    let both = and_parts (is_ascii_digit b) (list_all is_ascii_digit rest) h in
    and_from (is_ascii b) (list_all is_ascii rest) (ascii_digit b both.0) (ascii-digits rest both.1)

pub plain-number : (n : ℕ) → n < 10000 → list_all is_plain (right_in_four (decimal n)) ≡ true
plain-number n lt =
    list_all-append is_plain (blanks (4 - length (decimal n))) (decimal n) (plain-blanks (4 - length (decimal n))) (plain-digits (decimal n) (digits-decimal n lt))

meeting_fields : (cell : Cell) (opponent : ℕ) (colour : Option Colour) (result : ℕ) → 0 < opponent → opponent < 10000
    → cell_text cell ≡ meeting_text opponent colour result → is_plain (colour_letter colour) ≡ true → is_plain result ≡ true
    → cell_of (Some opponent) (to_ascii_uppercase (colour_letter colour)) (to_ascii_uppercase result) ≡ Some cell → Fields cell
meeting_fields cell opponent colour result some lt e plain-c plain-r read = record {
  opponent = right_in_four (decimal opponent);
  colour = colour_letter colour;
  result = result;
  four = length-four opponent lt;
  spelled = e;
  read = rw (opponent-decimal opponent some lt) read;
  plain = rw e (list_all-append is_plain (right_in_four (decimal opponent)) (32 ∷ colour_letter colour ∷ 32 ∷ result ∷ []) (plain-number opponent lt)
      (rw (plain-c, plain-r) refl));
}

in_range : (opponent : ℕ) → (nat_lt 0 opponent && nat_lt opponent 10000) ≡ true → (0 < opponent) × (opponent < 10000)
in_range opponent h =
    let both = and_parts (nat_lt 0 opponent) (nat_lt opponent 10000) h in
    (ltb-true 0 opponent both.0, ltb-true opponent 10000 both.1)

bye_fields : (bye : ByeKind) → Fields (Bye bye)
bye_fields Half = record { opponent = codes "0000"; colour = 45; result = 72; four = refl; spelled = refl; read = refl; plain = refl }
bye_fields Full = record { opponent = codes "0000"; colour = 45; result = 70; four = refl; spelled = refl; read = refl; plain = refl }
bye_fields Allocated = record { opponent = codes "0000"; colour = 45; result = 85; four = refl; spelled = refl; read = refl; plain = refl }
bye_fields Zero = record { opponent = codes "0000"; colour = 45; result = 90; four = refl; spelled = refl; read = refl; plain = refl }

game_fields : (opponent : ℕ) (colour : Colour) (rated : Bool) (got : GameOutcome) → 0 < opponent → opponent < 10000 → Fields (Game opponent colour rated got)
game_fields opponent White true Win some lt = meeting_fields (Game opponent White true Win) opponent (Some White) 49 some lt refl refl refl refl
game_fields opponent White true Draw some lt = meeting_fields (Game opponent White true Draw) opponent (Some White) 61 some lt refl refl refl refl
game_fields opponent White true Loss some lt = meeting_fields (Game opponent White true Loss) opponent (Some White) 48 some lt refl refl refl refl
game_fields opponent White false Win some lt = meeting_fields (Game opponent White false Win) opponent (Some White) 87 some lt refl refl refl refl
game_fields opponent White false Draw some lt = meeting_fields (Game opponent White false Draw) opponent (Some White) 68 some lt refl refl refl refl
game_fields opponent White false Loss some lt = meeting_fields (Game opponent White false Loss) opponent (Some White) 76 some lt refl refl refl refl
game_fields opponent Black true Win some lt = meeting_fields (Game opponent Black true Win) opponent (Some Black) 49 some lt refl refl refl refl
game_fields opponent Black true Draw some lt = meeting_fields (Game opponent Black true Draw) opponent (Some Black) 61 some lt refl refl refl refl
game_fields opponent Black true Loss some lt = meeting_fields (Game opponent Black true Loss) opponent (Some Black) 48 some lt refl refl refl refl
game_fields opponent Black false Win some lt = meeting_fields (Game opponent Black false Win) opponent (Some Black) 87 some lt refl refl refl refl
game_fields opponent Black false Draw some lt = meeting_fields (Game opponent Black false Draw) opponent (Some Black) 68 some lt refl refl refl refl
game_fields opponent Black false Loss some lt = meeting_fields (Game opponent Black false Loss) opponent (Some Black) 76 some lt refl refl refl refl

forfeit_fields : (opponent : ℕ) (colour : Option Colour) (won : Bool) → 0 < opponent → opponent < 10000 → Fields (Forfeit opponent colour won)
forfeit_fields opponent None true some lt = meeting_fields (Forfeit opponent None true) opponent None 43 some lt refl refl refl refl
forfeit_fields opponent None false some lt = meeting_fields (Forfeit opponent None false) opponent None 45 some lt refl refl refl refl
forfeit_fields opponent (Some White) true some lt = meeting_fields (Forfeit opponent (Some White) true) opponent (Some White) 43 some lt refl refl refl refl
forfeit_fields opponent (Some White) false some lt = meeting_fields (Forfeit opponent (Some White) false) opponent (Some White) 45 some lt refl refl refl refl
forfeit_fields opponent (Some Black) true some lt = meeting_fields (Forfeit opponent (Some Black) true) opponent (Some Black) 43 some lt refl refl refl refl
forfeit_fields opponent (Some Black) false some lt = meeting_fields (Forfeit opponent (Some Black) false) opponent (Some Black) 45 some lt refl refl refl refl

unfinished_fields : (opponent : ℕ) (colour : Colour) → 0 < opponent → opponent < 10000 → Fields (Unfinished opponent colour)
unfinished_fields opponent White some lt = meeting_fields (Unfinished opponent White) opponent (Some White) 32 some lt refl refl refl refl
unfinished_fields opponent Black some lt = meeting_fields (Unfinished opponent Black) opponent (Some Black) 32 some lt refl refl refl refl

pub fields_of : (cell : Cell) → is_sound cell ≡ true → Fields cell
fields_of Blank h = record { opponent = blanks 4; colour = 32; result = 32; four = refl; spelled = refl; read = refl; plain = refl }
fields_of (Bye bye) h = bye_fields bye
fields_of (Game opponent colour rated got) h = let r = in_range opponent h in game_fields opponent colour rated got r.0 r.1
fields_of (Forfeit opponent colour won) h = let r = in_range opponent h in forfeit_fields opponent colour won r.0 r.1
fields_of (Unfinished opponent colour) h = let r = in_range opponent h in unfinished_fields opponent colour r.0 r.1

-- a list of four
pub four_are : (xs : List ℕ) → length xs ≡ 4 → (a : ℕ) × (b : ℕ) × (c : ℕ) × (d : ℕ) × (xs ≡ a ∷ b ∷ c ∷ d ∷ [])
four_are [] h = absurd (omega arith)
four_are (a ∷ []) h = absurd (omega arith)
four_are (a ∷ b ∷ []) h = absurd (omega arith)
four_are (a ∷ b ∷ c ∷ []) h = absurd (omega arith)
four_are (a ∷ b ∷ c ∷ d ∷ []) h = (a, b, c, d, refl)
four_are (a ∷ b ∷ c ∷ d ∷ e ∷ xs) h = absurd (omega arith)
