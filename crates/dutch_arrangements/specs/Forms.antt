-- Lists of pairs that are in the form in which an arrangement has its pairs (C.04.3 B.2, B.3).
use Rattle.std.specs.Prelude.{◌≡◌, ℕ, ◌+◌, ◌<◌, ◌≤◌, ◌⊎◌, List, [], ◌∷◌, ◌++◌, length}
use Rattle.std.specs.List.{AllByRecursion}
use Rattle.dutch_arrangements.specs.Arrangements.{Frame, Arrangement, arrangements}
use Rattle.dutch_sequence.specs.Keys.{IsIn}
use Rattle.dutch_arrangements.specs.declared.bracket.Shape.{Shape}

-- two lists of numbers, place by place, as pairs
abbrev pub by_place : List ℕ → List ℕ → List (ℕ × ℕ)
by_place [] seconds = []
by_place (a ∷ firsts) [] = []
by_place (a ∷ firsts) (b ∷ seconds) = (a, b) ∷ by_place firsts seconds

-- the pairs of an arrangement, by number: S1 with S2, then S1R with S2R [B.3]
abbrev pub pairs_by_number : Arrangement → List (ℕ × ℕ)
pairs_by_number a = by_place a.s1 a.s2 ++ by_place a.s1r a.s2r

-- the players of some pairs
abbrev pub players_in : List (ℕ × ℕ) → List ℕ
players_in [] = []
players_in (pair ∷ pairs) = pair.0 ∷ pair.1 ∷ players_in pairs

-- no number comes twice [with IsInForm]
abbrev pub NoneTwice : List ℕ → Type 0
NoneTwice [] = Unit {0}
NoneTwice (x ∷ xs) = (IsIn x xs → ⊥) × NoneTwice xs

-- the first members of some pairs ascend [with IsInForm]
abbrev pub FirstsAscend : List (ℕ × ℕ) → Type 0
FirstsAscend [] = Unit {0}
FirstsAscend (pair ∷ pairs) = AllByRecursion (λ later. pair.0 < later.0) pairs × FirstsAscend pairs

-- the number of a moved-down player [with IsInForm]
abbrev pub IsMovedDown : Frame → ℕ → Type 0
IsMovedDown frame number = (0 < number) × (number ≤ frame.mdps)

-- the number of a resident [with IsInForm]
abbrev pub IsResident : Frame → ℕ → Type 0
IsResident frame number = (frame.mdps < number) × (number ≤ length frame.scores)

-- pairs in the form of a shape: first as many as it has moved-down players, each of a moved-down player and then a resident; the others of
-- two residents; in both parts the first members ascend, and no player comes twice [B.2, B.3]
pub record IsInForm (frame : Frame) (shape : Shape) (pairs : List (ℕ × ℕ)) : Type 0 where
  pub moved_down : List (ℕ × ℕ)
  pub others : List (ℕ × ℕ)
  pub parts : pairs ≡ moved_down ++ others
  pub count : length pairs ≡ shape.pairs
  pub moved_down_count : length moved_down ≡ shape.mdps
  pub of_moved_down : AllByRecursion (λ pair. IsMovedDown frame pair.0 × IsResident frame pair.1) moved_down
  pub of_residents : AllByRecursion (λ pair. IsResident frame pair.0 × IsResident frame pair.1) others
  pub moved_down_ascend : FirstsAscend moved_down
  pub others_ascend : FirstsAscend others
  pub none_twice : NoneTwice (players_in pairs)

-- some pairs are those of an arrangement of a shape [with IsInForm]
pub record HasArrangement (frame : Frame) (shape : Shape) (pairs : List (ℕ × ℕ)) : Type 0 where
  pub lists : Arrangement
  pub inside : IsIn lists (arrangements frame shape)
  pub same : pairs_by_number lists ≡ pairs

-- some pairs with one more among them [with TakesPair]
pub record IsInsertion (pair : ℕ × ℕ) (pairs more : List (ℕ × ℕ)) : Type 0 where
  pub front : List (ℕ × ℕ)
  pub behind : List (ℕ × ℕ)
  pub before : pairs ≡ front ++ behind
  pub after : more ≡ front ++ pair ∷ behind

-- a shape with one pair more, and in it as many moved-down players or one more [with TakesPair]
pub record HasOneMore (shape more : Shape) : Type 0 where
  pub pairs : more.pairs ≡ shape.pairs + 1
  pub mdps : (more.mdps ≡ shape.mdps) ⊎ (more.mdps ≡ shape.mdps + 1)

-- an arrangement's pairs with one more among them are in the form of a shape with one pair more, and in it as many moved-down players or
-- one more [C.5]
pub record TakesPair (frame : Frame) (shape : Shape) (a : Arrangement) (pair : ℕ × ℕ) : Type 0 where
  pub larger : Shape
  pub one_more : HasOneMore shape larger
  pub pairs : List (ℕ × ℕ)
  pub inserted : IsInsertion pair (pairs_by_number a) pairs
  pub in_form : IsInForm frame larger pairs
