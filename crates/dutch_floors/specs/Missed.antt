-- How many players miss so in known pairs, and beside them (C.04.3 C.8 to C.11). Only private functions' clauses cite these.
use Rattle.std.specs.Prelude.{◌≡◌, ℕ, ◌+◌, true, List, [], length, filter}
use Rattle.dutch_bracket.specs.declared.colours_missed.Miss.TheVariants.{Wide, Third, Preference, StrongPreference}
use Rattle.dutch_bracket.specs.Prelude.{count_in_pairs, count_with_topscorers, is_uneven, misses, seated_so}
use Rattle.dutch_floors.specs.Behind.{Basis}
use Rattle.dutch_floors.specs.FloorOf.{more_in}
use Rattle.dutch_floors.specs.declared.known_pairs.PairSums.{PairSums}

-- what pairs add up to for C.8 to C.11, if so many more miss their preference beside them
pub record AreMissed (basis : Basis) (more : ℕ) (pairs : List (ℕ × ℕ)) (sums : PairSums) : Type 0 where
  pub wide : sums.wide ≡ count_with_topscorers basis.facts (misses Wide) pairs
  pub third : sums.third ≡ count_with_topscorers basis.facts (misses Third) pairs
  pub missed : sums.missed ≡ count_in_pairs basis.facts (misses Preference) pairs + more
  pub strong : sums.strong ≡ count_in_pairs basis.facts (misses StrongPreference) pairs + more_in true basis.facts basis.reached basis.shape (seated_so basis.facts basis.reached pairs [])
  pub uneven : sums.uneven ≡ length (filter (is_uneven basis.facts) pairs)
