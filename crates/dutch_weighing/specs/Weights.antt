-- The items of a quality that are sums over pairs and downfloaters (C.04.3 C.6, C.8 to C.19), and what the next bracket can be (C.7) where that is
-- measured, written as the digits of one number: its weight. It is the sum of what each pair and each downfloater weighs alone, and of what the
-- next bracket weighs, so a certificate bounds it. What bounds the choice by beginnings stands on these; a reader of its promise may pass them
-- by.
use Rattle.std.specs.Prelude.{◌≡◌, ℕ, ◌+◌, ◌-◌, ◌*◌, ◌<◌, ◌≤◌, not, ◌||◌, ◌==◌, List, [], ◌∷◌, ◌++◌, map, length, count_by, Option, Some, None}
use Rattle.std.specs.List.{AllByRecursion}
use Rattle.std.specs.Option.{ForSome}
use Rattle.dual.specs.Prelude.{Costs}
use Rattle.dutch_arrangements.specs.declared.bracket.Shape.{Shape}
use Rattle.dutch_arrangements.specs.Prelude.{numbers_from, IsIn}
use Rattle.dutch_player.specs.declared.float.Float.{Float}
use Rattle.dutch_player.specs.declared.float.Float.TheVariants.{Up, Down}
use Rattle.dutch_player.specs.Prelude.{Facts}
use Rattle.dutch_bracket.specs.declared.reached.BracketKind.TheVariants.{Ordinary}
use Rattle.dutch_bracket.specs.Prelude.{Context, seated_so, no_value, Quality, float_of, highest_first, is_float, quality_with, IsAbove, Reached, ends_round, numbers_meet, number_may_be_left, first_group, scoregroups, seat_of, HasNoBetter, NextValue, next_in}

-- how C.7 is measured: how many players the next bracket has below each candidate of a shape, which of its differences have a digit of their
-- own, and the base of its digits [with Scale]
pub record NextScale : Type 0 where
  pub players : ℕ
  pub psd : List ℕ
  pub base : ℕ

-- the bases of the digits of C.16, C.17, C.18 and C.19 [with Scale]
pub record FloatBases : Type 0 where
  pub down_again : ℕ
  pub up_again : ℕ
  pub down_again_before : ℕ
  pub up_again_before : ℕ

-- which differences have a digit of their own in C.6, and which in C.16 to C.19; what C.7 is measured by, if it is; the bases of the
-- digits, for C.6 and C.8 to C.15 one alone; and what the last digit is worth [own]
pub record Scale : Type 0 where
  pub psd : List ℕ
  pub next : Option NextScale
  pub floats : List ℕ
  pub base : ℕ
  pub float_bases : FloatBases
  -- what the last digit is worth: an even number, so that half of a weight is whole
  pub unit : ℕ

-- how often each of some differences stands in a list
abbrev pub counts : List ℕ → List ℕ → List ℕ
counts differences list = map (λ d. count_by (λ by. by == d) list) differences

-- digits with their base
abbrev pub in_base : ℕ → List ℕ → List (ℕ × ℕ)
in_base base numbers = map (λ number. (base, number)) numbers

-- C.7: the digits of the next bracket: how many of its players are in no pair, and how often each difference stands in its PSD
abbrev pub digits_below : Option NextScale → ℕ → List ℕ → List (ℕ × ℕ)
digits_below None alone psd = []
digits_below (Some next) alone psd = in_base next.base (alone ∷ counts next.psd psd)

-- the digits of a quality that are numbers of players: C.8 to C.15
abbrev pub player_digits : Quality → List ℕ
player_digits q =
    q.wide_differences ∷ q.third_colours ∷ q.missed_preferences ∷ q.missed_strong
    ∷ q.down_again ∷ q.up_again ∷ q.down_again_before ∷ q.up_again_before ∷ []

-- and those that are numbers of differences: C.16 to C.19
abbrev pub float_digits : Scale → Quality → List (ℕ × ℕ)
float_digits scale q =
    in_base scale.float_bases.down_again (counts scale.floats q.down_again_by)
    ++ (in_base scale.float_bases.up_again (counts scale.floats q.up_again_by)
    ++ (in_base scale.float_bases.down_again_before (counts scale.floats q.down_again_before_by)
    ++ in_base scale.float_bases.up_again_before (counts scale.floats q.up_again_before_by)))

-- the digits of a quality, each with its base, the first one counts most: C.6, C.7 if it is measured, C.8 to C.15, and C.16 to C.19; those
-- of C.7 are given [with weight_of]
abbrev pub digits_with : Scale → ℕ → List ℕ → Quality → List (ℕ × ℕ)
digits_with scale alone psd q =
    in_base scale.base (counts scale.psd q.psd)
    ++ (digits_below scale.next alone psd ++ (in_base scale.base (player_digits q) ++ float_digits scale q))

-- a number with further digits behind it
abbrev pub written : ℕ → List (ℕ × ℕ) → ℕ
written front [] = front
written front (digit ∷ digits) = written (digit.0 * front + digit.1) digits

-- so many units as the number with the digits of a quality says, those of C.7 as they are given
unfoldable pub weight_with : Scale → ℕ → List ℕ → Quality → ℕ
weight_with scale alone psd quality = scale.unit * written 0 (digits_with scale alone psd quality)

-- how many players of the next bracket are in none of so many pairs; 0 if C.7 is not measured [with Scale]
abbrev pub alone_by : Option NextScale → ℕ → ℕ
alone_by None pairs = 0
alone_by (Some next) pairs = next.players - 2 * pairs

-- the digits of a quality, those of C.7 by its own value of the next bracket
abbrev pub digits : Scale → Quality → List (ℕ × ℕ)
digits scale q = digits_with scale (alone_by scale.next q.next_pairs) q.next_psd q

-- the weight of a quality: as many units, which are what the last digit is worth, as the number with its digits says [own]
abbrev pub weight_of : Scale → Quality → ℕ
weight_of scale q = weight_with scale (alone_by scale.next q.next_pairs) q.next_psd q

-- a quality of nobody
abbrev pub nobody : Quality
nobody = record {
  psd = [];
  next_pairs = 0;
  next_psd = [];
  wide_differences = 0;
  third_colours = 0;
  missed_preferences = 0;
  missed_strong = 0;
  down_again = 0;
  up_again = 0;
  down_again_before = 0;
  up_again_before = 0;
  down_again_by = [];
  up_again_by = [];
  down_again_before_by = [];
  up_again_before_by = [];
}

-- what so many players of the next bracket who are in no pair, and its differences, weigh [with weight_of]
abbrev pub weight_below : Scale → ℕ → List ℕ → ℕ
weight_below scale alone psd = weight_with scale alone psd nobody

-- more than each weight with the PSD of a quality, and no more than any with a higher PSD: the number of its PSD and one more, with digits 0
-- behind it [with weight_of]
unfoldable pub weight_above : Scale → Quality → ℕ
weight_above scale q =
    scale.unit * written (written 0 (in_base scale.base (counts scale.psd q.psd)) + 1)
    (digits_below scale.next 0 [] ++ (in_base scale.base (player_digits nobody) ++ float_digits scale nobody))

-- what a pair of numbers of a bracket weighs alone
abbrev pub weight_of_pair : Facts → Reached → Scale → ℕ → ℕ → ℕ
weight_of_pair facts reached scale a b =
    weight_with scale 0 [] (quality_with facts (seated_so facts reached ((seat_of reached.seats a, seat_of reached.seats b) ∷ []) []) no_value)

-- what a downfloater weighs alone
abbrev pub weight_of_one_down : Facts → Reached → Scale → ℕ → ℕ
weight_of_one_down facts reached scale a = weight_with scale 0 [] (quality_with facts (seated_so facts reached [] (seat_of reached.seats a ∷ [])) no_value)

-- who may meet and who may be left over, by number, and what each pair and each downfloater weighs [C.1 to C.3; own]
abbrev pub weighing : Facts → Reached → Scale → Costs
weighing facts reached scale = record {
  meets = numbers_meet facts reached;
  weight = weight_of_pair facts reached scale;
  may_be_left = λ a. not (ends_round reached.kind) || number_may_be_left facts reached a;
  left_cost = weight_of_one_down facts reached scale;
}

-- a bracket of a field above lower seats, and the scale on which its pairs and its downfloaters are weighed [own]
pub record Weighing : Type 0 where
  pub facts : Facts
  pub reached : Reached
  pub lower : List ℕ
  pub scale : Scale

-- all numbers of a bracket
abbrev pub numbers : Reached → List ℕ
numbers reached = numbers_from 1 (length reached.seats)

-- a list stands the highest first, and has these differences alone [with IsScale]
abbrev pub IsAmong : List ℕ → List ℕ → Type 0
IsAmong differences list = (highest_first list ≡ list) × AllByRecursion (λ by. IsIn by differences) list

-- a scale names differences from the highest on, and its last digit is worth something [own]
pub record IsScale (scale : Scale) : Type 0 where
  pub psd : highest_first scale.psd ≡ scale.psd
  pub next : ForSome scale.next (λ next. highest_first next.psd ≡ next.psd)
  pub floats : highest_first scale.floats ≡ scale.floats
  pub some : 0 < scale.unit

-- where C.7 is measured, a quality has no more pairs there than the next bracket has players for [with IsScale]
abbrev pub IsWithin : Option NextScale → Quality → Type 0
IsWithin next quality = ForSome next (λ n. 2 * quality.next_pairs ≤ n.players)

-- a scale of C.7 has a digit for each difference of the next bracket of a quality, which has no more pairs there than players for them [with
-- IsScale]
pub record IsOnNext (next : NextScale) (quality : Quality) : Type 0 where
  pub psd : IsAmong next.psd quality.next_psd
  pub within : 2 * quality.next_pairs ≤ next.players

-- C.7: a candidate has no better value of the next bracket than another one; where the scale measures it, its weight tells
abbrev pub HasNoBetterOn : Option NextScale → Quality → NextValue → Type 0
HasNoBetterOn None quality other = HasNoBetter quality other
HasNoBetterOn (Some next) quality other = Unit {0}

-- two qualities have one value of the next bracket, or the scale measures it [C.7; own]
abbrev pub HasSameNextOn : Option NextScale → Quality → Quality → Type 0
HasSameNextOn None q r = next_in q ≡ next_in r
HasSameNextOn (Some next) q r = Unit {0}

-- a scale has a digit for each difference of a quality [with IsScale]
pub record IsOn (scale : Scale) (quality : Quality) : Type 0 where
  pub psd : IsAmong scale.psd quality.psd
  pub next : ForSome scale.next (λ next. IsOnNext next quality)
  pub down_again_by : IsAmong scale.floats quality.down_again_by
  pub up_again_by : IsAmong scale.floats quality.up_again_by
  pub down_again_before_by : IsAmong scale.floats quality.down_again_before_by
  pub up_again_before_by : IsAmong scale.floats quality.up_again_before_by

-- each digit of a quality is less than its base, and, if C.7 is measured, its next bracket has no more pairs than players for them [with
-- IsScale]
pub record HasDigits (scale : Scale) (quality : Quality) : Type 0 where
  pub small : AllByRecursion (λ digit. digit.1 < digit.0) (digits scale quality)
  pub within : IsWithin scale.next quality

-- how many of some had a float in the last round (1), or in the one before it (2)
abbrev pub count_had : Facts → Float → ℕ → List ℕ → ℕ
count_had facts float back seats = count_by (λ seat. is_float float (float_of facts back seat)) seats

-- the bases of C.16 to C.19 are above the numbers of players who can be counted there [with IsScale]
pub record HasFloatBases (facts : Facts) (seats : List ℕ) (bases : FloatBases) : Type 0 where
  pub down_again : count_had facts Down 1 seats < bases.down_again
  pub up_again : count_had facts Up 1 seats < bases.up_again
  pub down_again_before : count_had facts Down 2 seats < bases.down_again_before
  pub up_again_before : count_had facts Up 2 seats < bases.up_again_before

-- where C.7 is measured, the next bracket has so many players below each candidate of a shape of an ordinary bracket above lower seats, and
-- its base is above that [with IsScale]
pub record IsNextScale (facts : Facts) (reached : Reached) (lower : List ℕ) (shape : Shape) (next : NextScale) : Type 0 where
  pub above : IsAbove facts reached lower
  pub ordinary : reached.kind ≡ Ordinary
  pub players : next.players ≡ (length reached.seats - 2 * shape.pairs) + length (first_group facts (scoregroups facts lower))
  pub high : next.players < next.base

-- a scale is one for the candidates of a shape: the base of each digit is above what they can have there [with IsScale]
pub record IsScaleFor (facts : Facts) (reached : Reached) (lower : List ℕ) (shape : Shape) (scale : Scale) : Type 0 where
  pub high : length reached.seats < scale.base
  pub floats : HasFloatBases facts reached.seats scale.float_bases
  pub next : ForSome scale.next (IsNextScale facts reached lower shape)

-- a scale is one for a bracket's candidates of a shape [with IsScale]
abbrev pub IsScaleHere : Context → Shape → Scale → Type 0
IsScaleHere context shape scale = IsScaleFor context.facts context.reached context.lower shape scale
