-- Where the levels of a listing stand: a model that carries the listing, and which a reader of its promise may pass by.
use Rattle.std.specs.Prelude.{ℕ, List, [], Option, Some, None}
use Rattle.dutch_arrangements.specs.Arrangements.{Arrangement}
use Rattle.dutch_listing.specs.declared.levels.Stand.{Stand}
use Rattle.dutch_listing.specs.declared.levels.Stand.TheVariants.{AtStart, InBlock, Between}

-- what a level has still to give, the cursor that waits in it, and the arrangement that it drew last
pub record Standing : Type 0 where
  pub coming : List Arrangement
  pub own : Option Arrangement
  pub latest : Arrangement

-- what is left of the block in which a level stands
abbrev pub in_block : {X : Type 0} → Stand → List X → List X
in_block AtStart coming = []
in_block InBlock coming = coming
in_block Between coming = []

-- the cursor behind which the next block begins: only the first one may have it
abbrev pub own_at : Stand → Option Arrangement → Option Arrangement
own_at AtStart own = own
own_at InBlock own = None
own_at Between own = None

-- what the choice of S1R goes by: the rule, S1 and S2, the remainder, and the choices to come
pub record S1rChoices (R : Type 0) : Type 0 where
  pub rule : R
  pub s1 : List ℕ
  pub s2 : List ℕ
  pub remainder : List ℕ
  pub coming : List (List ℕ)

-- what the choice of S2 goes by: the rule, how many pairs the remainder makes, S1, the residents, and the choices to come
pub record S2Choices (R : Type 0) : Type 0 where
  pub rule : R
  pub k : ℕ
  pub s1 : List ℕ
  pub residents : List ℕ
  pub coming : List (List ℕ)

-- what the choice of S1 goes by: the rule, how many pairs the remainder makes, the residents, and the choices to come
pub record S1Choices (R : Type 0) : Type 0 where
  pub rule : R
  pub k : ℕ
  pub residents : List ℕ
  pub coming : List (List ℕ)
