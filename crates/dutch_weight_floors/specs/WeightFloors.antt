-- What floors by weight say behind a beginning (C.04.3 C.6 to C.19), and from which weight on nothing is better than a quality. What
-- bounds the choice by beginnings stands on these; a reader of its promise may pass them by.
use Rattle.std.specs.Prelude.{◌≡◌, ℕ, zero, suc, ◌+◌, ◌-◌, ◌*◌, ◌≤◌, ◌==◌, true, false, Bool, if◌then◌else◌, List, [], ◌∷◌, All, drop, length, sum_by, Option, Some, None}
use Rattle.std.specs.Option.{ForSome}
use Rattle.dual.specs.declared.table.CertificateTable.{CertificateTable}
use Rattle.dual.specs.Prelude.{Certificate, FloorTable, IsChecked, certificate_in, slack_in, slack_left_in}
use Rattle.dutch_arrangements.specs.declared.bracket.Shape.{Shape}
use Rattle.dutch_arrangements.specs.declared.prefix.Filling.{Filling}
use Rattle.dutch_arrangements.specs.declared.prefix.Filling.TheVariants.{ChoosingS1, S2, S2r}
use Rattle.dutch_arrangements.specs.Prelude.{Arrangement, Fits, IsExchange, ExchangeClass, IsIn, Begins, Beginning}
use Rattle.dutch_player.specs.Prelude.{Facts}
use Rattle.dutch_candidates.specs.declared.wish.Wish.{Wish}
use Rattle.dutch_bracket.specs.Prelude.{Context, fixed_lists, NextValue, Quality, IsOf, Reached, frame_of, can_be_chosen, candidates_of, quality_of, number_pairs}
use Rattle.dutch_candidates.specs.Wishes.{is_wished}
use Rattle.dutch_weight_floors.specs.Scopes.{Covers, Scope}
use Rattle.dutch_weighing.specs.Prelude.{HasNoBetterOn, IsOn, IsScale, IsScaleFor, IsScaleHere, Scale, Weighing, weight_above, weight_of}
use Rattle.dutch_weight_floors.specs.Orders.{Order, added_for}
use Rattle.dutch_weight_floors.specs.ScopedCosts.{IsFloorBy, Scoped, all_numbers, costs_in}
use Rattle.dutch_weight_floors.specs.declared.scoped.Reach.{Reach}
use Rattle.dutch_weight_floors.specs.declared.weight_floor.Bar.{Bar}

-- a bracket of a field above lower seats, a shape of its arrangements, what is wished of them, and a scale [with AreOf]
pub record Weighed : Type 0 where
  pub facts : Facts
  pub reached : Reached
  pub lower : List ℕ
  pub shape : Shape
  pub wish : Option Wish
  pub scale : Scale

-- a bracket whose pairs are weighed, for a shape and a wish
abbrev pub weighed_for : Weighing → Shape → Option Wish → Weighed
weighed_for w shape wish = record { facts = w.facts; reached = w.reached; lower = w.lower; shape = shape; wish = wish; scale = w.scale }

-- a floor, which arrangements it is for, and what the members of their S1R add to it; the certificate that it is, and over whom its matchings
-- go [own]
pub record ScopedFloor : Type 0 where
  pub scope : Scope
  pub order : Order
  pub reach : Reach
  pub table : CertificateTable
  pub floor : FloorTable

-- a list begins with a number
abbrev pub is_first : ℕ → List ℕ → Bool
is_first number [] = false
is_first number (x ∷ list) = x == number

-- so many numbers from one on, without those that are met in a list in turn
abbrev pub passed_over : List ℕ → ℕ → ℕ → List ℕ
passed_over list first zero = []
passed_over list first (suc count) =
    if is_first first list then passed_over (drop 1 list) (suc first) count else first ∷ passed_over list (suc first) count

-- the moved-down players who are known to be left over: those outside of S1, once it is chosen
abbrev pub left_known : Filling → ℕ → List ℕ → List ℕ
left_known ChoosingS1 mdps s1 = []
left_known S2 mdps s1 = passed_over s1 1 mdps
left_known S2r mdps s1 = passed_over s1 1 mdps

-- what a floor says behind a beginning, beside what it owes: its base, and what the pairs of the beginning and those known to be left over add
abbrev pub bound_behind : FloorTable → ℕ → Beginning → ℕ
bound_behind floor mdps b =
    floor.base + (sum_by (slack_in floor) (number_pairs (fixed_lists b)) + sum_by (slack_left_in floor) (left_known b.filling mdps b.lists.s1))

-- a bracket of a field, and the scale on which its pairs and its downfloaters are weighed
abbrev pub weighing_of : Weighed → Weighing
weighing_of weighed = record { facts = weighed.facts; reached = weighed.reached; lower = weighed.lower; scale = weighed.scale }

-- the arrangements of a scope that grant what is wished, with what an order adds, and over whom their matchings go
abbrev pub scoped_by : Weighed → Scope → Reach → Order → Scoped
scoped_by w scope reach order = record { weighing = weighing_of w; scope = scope; wish = w.wish; reach = reach; order = order }

-- what a candidate weighs
abbrev pub weight_in : Weighed → Arrangement → ℕ
weight_in w a = weight_of w.scale (quality_of w.facts w.reached w.lower a)

-- an arrangement is a candidate of a bracket's shape that can be chosen, and grants what is wished [with IsLeast]
pub record IsChoosable (w : Weighed) (a : Arrangement) : Type 0 where
  pub of : IsOf w.facts w.reached
  pub fits : Fits (frame_of w.facts w.reached) w.shape
  pub listed : IsIn a (candidates_of w.facts w.reached w.shape)
  pub can : can_be_chosen w.facts w.reached w.lower a ≡ true
  pub wished : is_wished w.wish a ≡ true

-- what the members of an arrangement's S1R add [with Order]
abbrev pub added_in : Order → Arrangement → ℕ
added_in order a = sum_by (added_for order) a.s1r

-- a floor of the weights of a bracket in a scope: behind a beginning that the scope covers no candidate weighs less that can be chosen and
-- grants what is wished, with what the members of its S1R add [own]
abbrev pub IsWeightFloor : Weighed → ScopedFloor → Type 0
IsWeightFloor w kept =
    (b : Beginning) (a : Arrangement) → IsChoosable w a → Begins b a → Covers kept.scope b
    → bound_behind kept.floor w.reached.mdps b ≤ kept.floor.debt + (weight_in w a + added_in kept.order a)

-- the most that members of an S1R add behind a beginning
abbrev pub IsMostAdded : Order → Beginning → ℕ → Type 0
IsMostAdded order b most = (a : Arrangement) → Begins b a → added_in order a ≤ most

-- the scale of floors by weight is one for the candidates of their shape [with IsLeast]
abbrev pub IsScaled : Weighed → Type 0
IsScaled w = IsScaleFor w.facts w.reached w.lower w.shape w.scale

-- a certificate was checked pair by pair for the costs of a scope, and a floor tells the slacks
abbrev pub IsCheckedFor : Scoped → Certificate → FloorTable → Type 0
IsCheckedFor scoped = IsChecked (costs_in scoped) (all_numbers scoped)

-- the certificate of a kept floor was checked pair by pair for the costs of its scope: so another one can be checked beside it
pub record IsCheckedIn (w : Weighed) (kept : ScopedFloor) : Type 0 where
  pub pairs : IsCheckedFor (scoped_by w kept.scope kept.reach kept.order) (certificate_in kept.table) kept.floor

-- a certificate was checked pair by pair, and gives this floor of the matchings of a scope that leave over as many as the shape does
pub record IsFloorFor (w : Weighed) (scoped : Scoped) (certificate : Certificate) (floor : FloorTable) : Type 0 where
  pub least : IsFloorBy scoped.reach scoped (length w.reached.seats - 2 * w.shape.pairs) floor
  pub checked : IsCheckedFor scoped certificate floor

-- floors of a bracket and a shape, on a scale for it
pub record AreFloors (weighed : Weighed) (floors : List ScopedFloor) : Type 0 where
  pub scaled : IsScaled weighed
  pub hold : All (IsWeightFloor weighed) floors
  pub checked : All (IsCheckedIn weighed) floors

-- of some arrangements no candidate weighs less that can be chosen and grants what is wished, on a scale for them [with IsLeast]
pub record IsLeastOf (Among : Arrangement → Type 0) (weighed : Weighed) (least : ℕ) : Type 0 where
  pub scaled : IsScaled weighed
  pub none_less : (a : Arrangement) → IsChoosable weighed a → Among a → least ≤ weight_in weighed a

-- no candidate with a beginning weighs less that can be chosen, and that grants the wish if there is one, on a scale for them [C.6 to C.19; own]
abbrev pub IsLeast : Weighed → Beginning → ℕ → Type 0
IsLeast weighed b = IsLeastOf (Begins b) weighed

-- an arrangement goes on from a beginning, with an S1R that is such an exchange [with IsLeastWith]
abbrev pub BeginsWith : Beginning → ExchangeClass → Arrangement → Type 0
BeginsWith b exchange a = Begins b a × IsExchange exchange a.s1r

-- no candidate with a beginning weighs less whose S1R is such an exchange, that can be chosen, and that grants the wish if there is one [D.2; own]
abbrev pub IsLeastWith : Weighed → Beginning → ExchangeClass → ℕ → Type 0
IsLeastWith weighed b exchange = IsLeastOf (BeginsWith b exchange) weighed

-- floors by weight are those of a bracket above lower seats, a shape and a wish [own]
pub record AreOf (context : Context) (shape : Shape) (wish : Option Wish) (weighed : Weighed) : Type 0 where
  pub facts_are : weighed.facts ≡ context.facts
  pub reached_is : weighed.reached ≡ context.reached
  pub lower_are : weighed.lower ≡ context.lower
  pub shape_is : weighed.shape ≡ shape
  pub wish_is : weighed.wish ≡ wish

-- if there are floors by weight, a quality weighs no less than this on their scale, which is one for the candidates of a shape
abbrev pub WeighsNoLess : Context → Shape → Option Weighed → ℕ → Quality → Type 0
WeighsNoLess context shape weights least quality =
    ForSome weights (λ w. IsScaleHere context shape w.scale × (least ≤ weight_of w.scale quality))

-- if there are floors by weight, a candidate has no better value of the next bracket than another one, or the weights tell of it
abbrev pub KnowsNext : Option Weighed → Quality → NextValue → Type 0
KnowsNext weights quality other = ForSome weights (λ w. HasNoBetterOn w.scale.next quality other)

-- a bar is that of a quality, on a scale with a digit for each of its differences: what it weighs, and what all with a higher PSD weigh at
-- least [C.6 to C.19; own]
pub record IsBar (scale : Scale) (quality : Quality) (bar : Bar) : Type 0 where
  pub weight : bar.weight ≡ weight_of scale quality
  pub above : bar.above ≡ weight_above scale quality
  pub on : IsOn scale quality
  pub falls : IsScale scale

-- if there is a bar, it is that of a quality that is there, on the scale of floors that are there
abbrev pub HasBar : Option Weighed → Option Quality → Option Bar → Type 0
HasBar weighed quality None = Unit {0}
HasBar None quality (Some bar) = ⊥
HasBar (Some weighed) None (Some bar) = ⊥
HasBar (Some weighed) (Some quality) (Some bar) = IsBar weighed.scale quality bar
