-- A wish for a candidate of a bracket, that two of its players meet or that one of them is left over, and what it leaves of pairs and of
-- players left over (C.04.3 B.3).
use Rattle.std.specs.Prelude.{ℕ, Bool, true, not, ◌&&◌, ◌||◌, ◌==◌, Option, Some, None}
use Rattle.std.specs.List.{list_any}
use Rattle.dutch_arrangements.specs.Prelude.{Arrangement, paired, is_member, pairs_by_number}
use Rattle.dutch_candidates.specs.declared.wish.Wish.{Wish}
use Rattle.dutch_candidates.specs.declared.wish.Wish.TheVariants.{Pair, LeftOver}

-- a pair is that of two players, in whatever order
abbrev pub are_these : ℕ → ℕ → ℕ × ℕ → Bool
are_these p q pair = ((pair.0 == p) && (pair.1 == q)) || ((pair.0 == q) && (pair.1 == p))

-- an arrangement grants that two meet if they are one of its pairs, in either order; it grants that a player is left over if the player is
-- in none [B.3]
abbrev pub grants : Wish → Arrangement → Bool
grants (Pair p q) lists = list_any (are_these p q) (pairs_by_number lists)
grants (LeftOver p) lists = not (is_member p (paired lists))

-- the same where something is wished; where nothing is, every arrangement will do [own]
abbrev pub is_wished : Option Wish → Arrangement → Bool
is_wished None = λ lists. true
is_wished (Some wish) = grants wish

-- a player is one of a pair
abbrev pub has_player : ℕ → ℕ × ℕ → Bool
has_player p pair = (pair.0 == p) || (pair.1 == p)

-- a pair has one of two players, with another one [with fits_as_pair]
abbrev pub parts : ℕ → ℕ → ℕ × ℕ → Bool
parts p q pair = not (are_these p q pair) && (has_player p pair || has_player q pair)

-- two may be a pair of an arrangement that grants what is wished: of two who are to meet neither is paired with another one, and whoever is to be
-- left over is in no pair [B.3; own]
abbrev pub fits_as_pair : Option Wish → ℕ → ℕ → Bool
fits_as_pair None a b = true
fits_as_pair (Some (Pair p q)) a b = not (parts p q (a, b))
fits_as_pair (Some (LeftOver p)) a b = not (has_player p (a, b))

-- one may be left over by such an arrangement: neither of two who are to meet [with fits_as_pair]
abbrev pub fits_as_left : Option Wish → ℕ → Bool
fits_as_left None a = true
fits_as_left (Some (Pair p q)) a = not (a == p) && not (a == q)
fits_as_left (Some (LeftOver p)) a = true

-- a rule that is narrowed to what is wished: two meet by it who may meet, and may be a pair of an arrangement that grants that [with
-- fits_as_pair]
abbrev pub meets_narrowed : Option Wish → (ℕ → ℕ → Bool) → ℕ → ℕ → Bool
meets_narrowed wish meets a b = fits_as_pair wish a b && meets a b

-- and one may be left over by it who may be left over, also by such an arrangement [with fits_as_pair]
abbrev pub left_narrowed : Option Wish → (ℕ → Bool) → ℕ → Bool
left_narrowed wish may_be_left a = fits_as_left wish a && may_be_left a
