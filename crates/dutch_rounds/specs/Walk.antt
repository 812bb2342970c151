-- What the walk over the brackets keeps of its seats: a model that carries the round's proof.
use Rattle.std.specs.Prelude.{◌≡◌, ℕ, ◌<◌, List, [], ◌∷◌, ◌++◌, length}
use Rattle.std.specs.List.{AllByRecursion}
use Rattle.dutch_player.specs.Prelude.{Facts}
use Rattle.dutch_rounds.specs.Round.{everybody}
use Rattle.dutch_bracket.specs.Prelude.{score_at}

-- seats of a field by rank, each before all that follow
abbrev pub AreRanked : Facts → List ℕ → Type 0
AreRanked facts [] = Unit {0}
AreRanked facts (a ∷ rest) = (a < length facts.seats) × AllByRecursion (λ b. a < b) rest × AreRanked facts rest

-- the scores of some seats are above those of others
abbrev pub AreAbove : Facts → List ℕ → List ℕ → Type 0
AreAbove facts tops lows = AllByRecursion (λ a. AllByRecursion (λ b. score_at facts b < score_at facts a) lows) tops

-- the seats moved down and those not used yet are ranked, and the ones moved down are above the others; those not used yet are all
-- seats behind some in front, who are above them
pub record Goes (facts : Facts) (moved_down rest : List ℕ) : Type 0 where
  pub ranked : AreRanked facts (moved_down ++ rest)
  pub above : AreAbove facts moved_down rest
  pub front : List ℕ
  pub all : everybody facts ≡ front ++ rest
  pub high : AreAbove facts front rest
