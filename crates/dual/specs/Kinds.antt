-- How a certificate is checked by kinds of players. Only private functions' clauses cite these.
use Rattle.std.specs.Prelude.{◌≡◌, ◌↔◌, ℕ, ◌+◌, ◌*◌, ◌^◌, ◌<◌, Bool, true, false, List, All, length, slice_index, slice_index_or}
use Rattle.dual.specs.declared.table.CertificateTable.{CertificateTable}
use Rattle.dual.specs.Checks.{CanBear}
use Rattle.dual.specs.Duals.{Certificate, slack}
use Rattle.dual.specs.Floors.{class_of}
use Rattle.dual.specs.Matchings.{Costs}
use Rattle.dual.specs.Tables.{has_mark, potential_in}

-- two players are of one kind: of one class, with one potential, and in the same priced sets
pub record AreAlike (table : CertificateTable) (classes : List ℕ) (u a : ℕ) : Type 0 where
  pub of_class : class_of classes u ≡ class_of classes a
  pub potential : potential_in table u ≡ potential_in table a
  pub sets : All (λ set. has_mark set u ≡ has_mark set a) table.sets.items

-- a player's place in a list by numbers names a known player of the same kind
pub record HasFirst (knows : ℕ → Type 0) (table : CertificateTable) (classes firsts : List ℕ) (v : ℕ) : Type 0 where
  pub known : knows (slice_index firsts v)
  pub below : slice_index firsts v < length firsts
  pub alike : AreAlike table classes v (slice_index firsts v)

-- the place of a pair in a square has a mark
abbrev pub IsTold : List Bool → ℕ → ℕ → ℕ → Type 0
IsTold marks size u v = slice_index_or marks (u * size + v) false ≡ true

-- the places of all pairs of a player, with those whom the player may meet, have a mark
abbrev pub AreTold : Costs → List Bool → ℕ → ℕ → List ℕ → Type 0
AreTold costs marks size u players = All (λ v. costs.meets u v ≡ true → IsTold marks size u v) players

-- a pair can bear its potentials, and its slack stands in its place of a square
abbrev pub IsWritten : Costs → Certificate → ℕ → List ℕ → ℕ → ℕ → Type 0
IsWritten costs certificate size slacks u v =
    CanBear costs certificate (2 ^ 1024) u v × (slice_index slacks (u * size + v) ≡ slack costs certificate (u, v))

-- so are all pairs of players who may meet
abbrev pub AreWritten : Costs → Certificate → List ℕ → ℕ → List ℕ → Type 0
AreWritten costs certificate players size slacks =
    All (λ u. All (λ v. costs.meets u v ≡ true → IsWritten costs certificate size slacks u v) players) players

-- a square of slacks with marks: where a place has one, its pair is written
pub record IsSlate (costs : Costs) (certificate : Certificate) (size : ℕ) (slacks : List ℕ) (marks : List Bool) : Type 0 where
  pub square : length slacks ≡ size * size
  pub marked : length marks ≡ size * size
  pub told : (u v : ℕ) → v < size → IsTold marks size u v → IsWritten costs certificate size slacks u v

-- no mark is lost
abbrev pub KeepsMarks : List Bool → List Bool → Type 0
KeepsMarks old new = (place : ℕ) → slice_index_or old place false ≡ true → slice_index_or new place false ≡ true

-- a pair of known players stands for another one: one can bear its potentials if the other can, and they have the same slack
pub record StandsFor (knows : ℕ → Type 0) (costs : Costs) (certificate : Certificate) (size u v a b : ℕ) : Type 0 where
  pub known : knows b
  pub below : b < size
  pub bears : CanBear costs certificate (2 ^ 1024) u v ↔ CanBear costs certificate (2 ^ 1024) a b
  pub same : slack costs certificate (u, v) ≡ slack costs certificate (a, b)
