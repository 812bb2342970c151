-- Which arrangements of a bracket a floor is for (C.04.3 B.3, B.6, B.7). What bounds the choice by beginnings stands on these; a reader of
-- its promise may pass them by.
use Rattle.std.specs.Prelude.{◌≡◌, ℕ, Bool, true, false, if◌then◌else◌, nat_lt, List}
use Rattle.dutch_arrangements.specs.declared.prefix.Filling.{Filling}
use Rattle.dutch_arrangements.specs.declared.prefix.Filling.TheVariants.{ChoosingS1, S2, S2r}
use Rattle.dutch_arrangements.specs.Prelude.{is_member, Beginning}
use Rattle.dutch_weight_floors.specs.declared.scope.Standing.{Standing}
use Rattle.dutch_weight_floors.specs.declared.scope.Standing.TheVariants.{Any, Outside, First, Resident, FirstResident, OtherResident}
use Rattle.dutch_bracket.specs.Beginnings.{has_s1}

-- all arrangements, or those with an S1, or those with an S1 and an S1R: as far as a list is being filled [B.3, B.6, B.7; own]
pub record Scope : Type 0 where
  pub filling : Filling
  pub s1 : List ℕ
  pub s1r : List ℕ

-- a scope covers a beginning, by the list that is being filled in the scope [with Scope]
abbrev pub CoversBy : Filling → Scope → Beginning → Type 0
CoversBy ChoosingS1 scope b = Unit {0}
CoversBy S2 scope b = (has_s1 b.filling ≡ true) × (b.lists.s1 ≡ scope.s1)
CoversBy S2r scope b = (b.filling ≡ S2r) × (b.lists.s1 ≡ scope.s1) × (b.lists.s1r ≡ scope.s1r)

-- all arrangements with a beginning are among those of a scope [with Scope]
abbrev pub Covers : Scope → Beginning → Type 0
Covers scope = CoversBy scope.filling scope

-- where a moved-down player stands: in S1 or outside of it; anywhere, if no S1 is known
abbrev pub moved_down_standing : Filling → List ℕ → ℕ → Standing
moved_down_standing ChoosingS1 s1 a = Any
moved_down_standing S2 s1 a = if is_member a s1 then First else Outside
moved_down_standing S2r s1 a = if is_member a s1 then First else Outside

-- where a resident stands: in S1R or outside of it, if it is known
abbrev pub resident_standing : Filling → List ℕ → ℕ → Standing
resident_standing ChoosingS1 s1r a = Any
resident_standing S2 s1r a = Resident
resident_standing S2r s1r a = if is_member a s1r then FirstResident else OtherResident

-- where a number stands in the arrangements of a scope: in S1, S1R or outside of them; anywhere, if no S1 is known [own]
abbrev pub standing_of : ℕ → Scope → ℕ → Standing
standing_of mdps scope a =
    if nat_lt mdps a then resident_standing scope.filling scope.s1r a else moved_down_standing scope.filling scope.s1 a

-- two who stand so may be a pair: of S1 and of the residents, and of two residents, one of S1R and one outside of it, if it is known [B.6,
-- B.7; own]
abbrev pub is_joined : Standing → Standing → Bool
is_joined Any Any = true
is_joined First Resident = true
is_joined Resident First = true
is_joined First OtherResident = true
is_joined OtherResident First = true
is_joined Resident Resident = true
is_joined FirstResident OtherResident = true
is_joined OtherResident FirstResident = true
is_joined one other = false

-- one who stands so may be in no pair [with is_joined]
abbrev pub may_stay : Standing → Bool
may_stay First = false
may_stay FirstResident = false
may_stay Any = true
may_stay Outside = true
may_stay Resident = true
may_stay OtherResident = true

-- one who stood so before stands within that now: anywhere, if he stood anywhere; in S1R or outside of it, if he was a resident; else as before
abbrev pub is_within : Standing → Standing → Bool
is_within Any now = true
is_within Outside Outside = true
is_within First First = true
is_within Resident Resident = true
is_within Resident FirstResident = true
is_within Resident OtherResident = true
is_within FirstResident FirstResident = true
is_within OtherResident OtherResident = true
is_within before now = false
