-- Beginnings of arrangements that rule a wish out by their first halves (C.04.3 B.6, B.7). What skips candidates stands on these; a reader
-- of its promise may pass them by.
use Rattle.std.specs.Prelude.{ℕ, Bool, true, false, not, ◌&&◌, ◌||◌, nat_le, List}
use Rattle.dutch_arrangements.specs.declared.prefix.Filling.{Filling}
use Rattle.dutch_arrangements.specs.declared.prefix.Filling.TheVariants.{ChoosingS1, S2, S2r}
use Rattle.dutch_arrangements.specs.Prelude.{Arrangement, is_member, Beginning}
use Rattle.dutch_candidates.specs.declared.wish.Wish.{Wish}
use Rattle.dutch_candidates.specs.declared.wish.Wish.TheVariants.{Pair, LeftOver}

-- of two players one alone is in a list
abbrev pub has_one_of : ℕ → ℕ → List ℕ → Bool
has_one_of p q numbers =
    (is_member p numbers && not (is_member q numbers)) || (is_member q numbers && not (is_member p numbers))

-- a moved-down player and a resident meet in no arrangement whose S1 is chosen and has both or neither
abbrev pub s1_bars : Filling → ℕ → ℕ → Arrangement → Bool
s1_bars ChoosingS1 p q lists = false
s1_bars S2 p q lists = not (has_one_of p q lists.s1)
s1_bars S2r p q lists = not (has_one_of p q lists.s1)

-- and two residents in none whose S1R is chosen and has both or neither
abbrev pub s1r_bars : Filling → ℕ → ℕ → Arrangement → Bool
s1r_bars ChoosingS1 p q lists = false
s1r_bars S2 p q lists = false
s1r_bars S2r p q lists = not (has_one_of p q lists.s1r)

-- the first halves rule out that two meet, by whether each of them was moved down: two who were never meet
abbrev pub halves_bar : Bool → Bool → Filling → ℕ → ℕ → Arrangement → Bool
halves_bar true true filling p q lists = true
halves_bar true false filling p q lists = s1_bars filling p q lists
halves_bar false true filling p q lists = s1_bars filling p q lists
halves_bar false false filling p q lists = s1r_bars filling p q lists

-- whoever is in a first half is in a pair
abbrev pub half_pairs : Filling → ℕ → Arrangement → Bool
half_pairs ChoosingS1 p lists = false
half_pairs S2 p lists = is_member p lists.s1
half_pairs S2r p lists = is_member p lists.s1r

-- a beginning in a bracket with so many moved-down players rules a wish out by its first halves: they keep the two apart; they have the one
abbrev pub rules_out : ℕ → Wish → Beginning → Bool
rules_out mdps (Pair p q) b = halves_bar (nat_le p mdps) (nat_le q mdps) b.filling p q b.lists
rules_out mdps (LeftOver p) b = half_pairs b.filling p b.lists
