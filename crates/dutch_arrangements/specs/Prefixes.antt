-- Beginnings of arrangements: what is fixed while a bracket's arrangements are gone through (C.04.3 B.6, B.7).
use Rattle.std.specs.Prelude.{◌≡◌, ℕ, List}
use Rattle.dutch_arrangements.specs.declared.prefix.Filling.{Filling}
use Rattle.dutch_arrangements.specs.declared.prefix.Filling.TheVariants.{ChoosingS1, S2, S2r}
use Rattle.dutch_arrangements.specs.Arrangements.{Arrangement}
use Rattle.dutch_sequence.specs.Choices.{GoesOn}

-- the lists that are fixed so far, and which of them is being filled [B.6, B.7]
pub record Beginning : Type 0 where
  pub filling : Filling
  pub lists : Arrangement

-- an arrangement begins with these lists: before S1 is chosen every one does; while S2 is filled S1 is its own and its S2 goes on; while S2R
-- is filled S1, S2 and S1R are its own and its S2R goes on [with Beginning]
abbrev pub BeginsAt : Filling → Arrangement → Arrangement → Type 0
BeginsAt ChoosingS1 beginning a = Unit {0}
BeginsAt S2 beginning a = (beginning.s1 ≡ a.s1) × GoesOn beginning.s2 a.s2
BeginsAt S2r beginning a = (beginning.s1 ≡ a.s1) × (beginning.s2 ≡ a.s2) × (beginning.s1r ≡ a.s1r) × GoesOn beginning.s2r a.s2r

-- lists, with another one in the place of the one that is being filled: S2R, or S2 before it
abbrev pub filled : Filling → Arrangement → List ℕ → Arrangement
filled ChoosingS1 lists list = record { s1 = lists.s1; s2 = list; s1r = lists.s1r; s2r = lists.s2r }
filled S2 lists list = record { s1 = lists.s1; s2 = list; s1r = lists.s1r; s2r = lists.s2r }
filled S2r lists list = record { s1 = lists.s1; s2 = lists.s2; s1r = lists.s1r; s2r = list }

-- a beginning, with so much of the list that is being filled [own]
abbrev pub with_list : Beginning → List ℕ → Beginning
with_list beginning list = record { filling = beginning.filling; lists = filled beginning.filling beginning.lists list }

-- an arrangement has these lists [with Beginning]
abbrev pub Begins : Beginning → Arrangement → Type 0
Begins beginning a = BeginsAt beginning.filling beginning.lists a
