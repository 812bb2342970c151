-- What a word of points looks like (TRF16, columns 81 to 84): a law's words.
use Rattle.std.specs.Prelude.{◌≡◌, ◌⊎◌, ℕ, ◌+◌, ◌*◌, true, List, [], ◌∷◌, ◌++◌}
use Rattle.std.specs.List.{list_all}
use Rattle.std.specs.Char.{is_ascii_digit}
use Rattle.std.specs.Str.{byte}
use Rattle.trf16_report.specs.Fields.{number_after}

-- the half point behind whole points: none where nothing stands there; else a point or comma, and 0 for none or 5 for one [with points_of]
abbrev pub SpellsHalf : List ℕ → ℕ → Type 0
SpellsHalf [] half = half ≡ 0
SpellsHalf (mark ∷ digit ∷ []) half =
    ((mark ≡ byte ".") ⊎ (mark ≡ byte ",")) × (((digit ≡ byte "0") × (half ≡ 0)) ⊎ ((digit ≡ byte "5") × (half ≡ 1)))
SpellsHalf _ half = ⊥

-- a word is digits, and behind them a half point or none: digits of a number whose digits in front are read [with points_of]
pub record SpellsPoints (front : ℕ) (word : List ℕ) (points : ℕ) : Type 0 where
  pub digits : List ℕ
  pub behind : List ℕ
  pub half : ℕ
  pub word_is : word ≡ digits ++ behind
  pub are_digits : list_all is_ascii_digit digits ≡ true
  pub is_half : SpellsHalf behind half
  pub points_are : points ≡ 2 * number_after front digits + half
