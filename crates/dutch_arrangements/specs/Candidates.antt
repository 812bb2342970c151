-- A candidate with those whom it leaves over (C.04.3 B.2, B.3).
use Rattle.std.specs.Prelude.{ℕ, List}
use Rattle.dutch_arrangements.specs.Arrangements.{Arrangement}

-- the four lists of a candidate, and its downfloaters by rank [B.2, B.3]
pub record Candidate : Type 0 where
  pub lists : Arrangement
  pub down : List ℕ
