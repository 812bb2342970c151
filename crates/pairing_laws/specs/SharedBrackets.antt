-- What the law of shared brackets names (C.04.3 A.9, B.2): brackets in which two seats stand, and pairs of two seats.
use Rattle.std.specs.Prelude.{ℕ, Bool, ◌⊎◌, ◌&&◌, not, List}
use Rattle.dutch_arrangements.specs.Prelude.{IsIn, is_member}
use Rattle.dutch_bracket.specs.Prelude.{all_pairs}
use Rattle.dutch_rounds.specs.Prelude.{Visit}

-- a bracket that was reached keeps its pairs, as all do but an ordinary one that is paired again, and two seats stand in it [A.9; own]
abbrev pub shares : ℕ → ℕ → Visit → Bool
shares one other visit = not visit.again && (is_member one visit.bracket.seats && is_member other visit.bracket.seats)

-- two seats are one of some pairs [B.2]
abbrev pub ArePaired : ℕ → ℕ → List (ℕ × ℕ) → Type 0
ArePaired one other pairs = IsIn (one, other) pairs ⊎ IsIn (other, one) pairs

-- what is chosen in a bracket that was reached, as pairs of seats [B.2]
abbrev pub pairs_in : Visit → List (ℕ × ℕ)
pairs_in visit = all_pairs visit.bracket.seats visit.lists
