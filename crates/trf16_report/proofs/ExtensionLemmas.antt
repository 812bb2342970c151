-- The first byte of a line tells that it is no extension.
use Rattle.std.proofs.Common.{◌≡◌, ℕ, Bool, true, false, cond, ◌&&◌, ◌||◌, ◌==◌, List, [], ◌∷◌, map, refl, ap, ◌∙◌, arith}
use Rattle.std.specs.Char.{to_ascii_lowercase}
use Rattle.std.proofs.lemmas.Slice.Eq.{bytes_eq-Decides}
use Rattle.std.proofs.lemmas.Bool.Decides.{nat_tests}
use Rattle.trf16_report.specs.Prelude.{columns, onto_first, goes_on, text, is_kind, is_word, words_of, is_of, begins_with_x}
use Rattle.std.specs.Prelude.{codes}
use Rattle.std.specs.List.{list_any}
use Rattle.trf16_report.specs.declared.kind.LineKind.{LineKind}
use Rattle.trf16_report.specs.declared.kind.LineKind.TheVariants.{Xxa, Xxs, Rank}

one_column : (b : ℕ) (t : Bool) (cols : List (List ℕ)) → (w : List ℕ) × (text (cond t (onto_first b cols) ((b ∷ []) ∷ cols)) 1 3 ≡ b ∷ w)
one_column b true [] = (_, refl)
one_column b true (first ∷ others) = (_, refl)
one_column b false cols = (_, refl)

-- the kind of a line begins with the line's first byte
kind_begins : (utf8 : Bool) (b : ℕ) (rest : List ℕ) → (w : List ℕ) × (text (columns utf8 (b ∷ rest)) 1 3 ≡ b ∷ w)
kind_begins utf8 b [] = (_, refl)
kind_begins utf8 b (c ∷ rest) = one_column b (utf8 && goes_on c) (columns utf8 (c ∷ rest))

is_x : (b : ℕ) → to_ascii_lowercase b ≡ 120 → ((b == 88) || (b == 120)) ≡ true
is_x b e = grind (arith, nat_tests)

other_word : (b : ℕ) (w capitals : List ℕ) → ((b == 88) || (b == 120)) ≡ false → is_word (b ∷ w) (88 ∷ capitals) ≡ false
other_word b w capitals other = by (is_word (b ∷ w) (88 ∷ capitals)) refl
  where
    by : (t : Bool) → is_word (b ∷ w) (88 ∷ capitals) ≡ t → t ≡ false
    by true is =
        let same = (bytes_eq-Decides (map to_ascii_lowercase (b ∷ w)) (map to_ascii_lowercase (88 ∷ capitals))).0 is in
        let first : to_ascii_lowercase b ≡ 120 = cc in
        let x = is_x b first in
        absurd (cc)
    by false is = refl

-- a line that does not begin so is of none of these kinds
pub no_extension : (utf8 : Bool) (line capitals : List ℕ) → begins_with_x line ≡ false → is_kind (88 ∷ capitals) (columns utf8 line) ≡ false
no_extension utf8 [] capitals other = refl
no_extension utf8 (b ∷ rest) capitals other =
    let kind = kind_begins utf8 b rest in
    ap (λ (w : List ℕ). is_word w (88 ∷ capitals)) kind.1 ∙ other_word b kind.0 capitals other

pub of_no_kind : (utf8 : Bool) (line : List ℕ) (kind : LineKind) → begins_with_x line ≡ false → is_of (columns utf8 line) kind ≡ false
of_no_kind utf8 line Xxa other = no_extension utf8 line (88 ∷ 65 ∷ []) other
of_no_kind utf8 line Xxs other = no_extension utf8 line (88 ∷ 83 ∷ []) other
of_no_kind utf8 line Rank other =
    ap (λ b. b && list_any (λ word. is_word word (codes "RANK")) (words_of (columns utf8 line))) (no_extension utf8 line (88 ∷ 67 ∷ []) other)
