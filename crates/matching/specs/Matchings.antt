-- Matchings as lists of partners, and labels of vertices.
use Rattle.std.specs.Prelude.{◌≡◌, ◌≢◌, ◌≤◌, ◌+◌, ◌*◌, ℕ, Bool, true, List, length, All, Option, Some}
use Rattle.std.specs.List.{slice_get}

-- a list gives the vertex a the partner b [with IsMatching]
abbrev pub Gives : List (Option ℕ) → ℕ → ℕ → Type 0
Gives partners a b = slice_get partners a ≡ Some (Some b)

-- two different vertices are joined, in both orders, and a list gives each the other as partner [with IsMatching]
pub record IsPair (joined : ℕ → ℕ → Bool) (partners : List (Option ℕ)) (a b : ℕ) : Type 0 where
  pub given : Gives partners a b
  pub back : Gives partners b a
  pub two : a ≢ b
  pub joined_to : joined a b ≡ true
  pub joined_from : joined b a ≡ true

-- a list has a place for each vertex, and whoever has a partner there is in a pair with that one [own]
pub record IsMatching (size : ℕ) (joined : ℕ → ℕ → Bool) (partners : List (Option ℕ)) : Type 0 where
  pub places : length partners ≡ size
  pub pairs : (a b : ℕ) → Gives partners a b → IsPair joined partners a b

-- whoever are in a pair by a first list are partners in a second one
abbrev pub HasPairs : (ℕ → ℕ → Bool) → List (Option ℕ) → List (Option ℕ) → Type 0
HasPairs joined links partners = (a b : ℕ) → IsPair joined links a b → Gives partners a b

-- each vertex has a label, none of them above the greatest [with IsMatching]
pub record AreLabels (size most : ℕ) (labels : List ℕ) : Type 0 where
  pub places : length labels ≡ size
  pub within : All (λ label. label ≤ most) labels

-- the most steps for so many vertices: the square of their number for the first pass, and as many again for the search from each of them
-- [own]
abbrev pub most_steps : ℕ → ℕ
most_steps size = size * size + size * (size * size)
