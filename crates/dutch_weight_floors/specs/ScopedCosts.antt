-- What pairs and downfloaters weigh in the arrangements of a bracket that a floor is for (C.04.3 B.3, B.6, B.7), also where those who go down
-- are paired out with all lower players (C.4), or meet the next lower scoregroup (C.7). Where something is wished, the bracket's pairs and
-- those left over fit it. What bounds the choice by beginnings stands on these; a reader of its promise may pass them by.
use Rattle.std.specs.Prelude.{◌≡◌, ℕ, ◌+◌, ◌-◌, ◌^◌, ◌%◌, ◌<◌, ◌≤◌, [], length, min, Bool, true, false, ◌&&◌, ◌||◌, not, ◌==◌, if◌then◌else◌, nat_lt, nat_le, List, ◌++◌, slice_index, slice_index_or, is_some, Option}
use Rattle.dual.specs.Prelude.{FloorTable, IsFloor, Costs, is_marked}
use Rattle.dutch_arrangements.specs.Prelude.{numbers_from}
use Rattle.dutch_player.specs.Prelude.{may_meet}
use Rattle.dutch_weight_floors.specs.declared.scoped.Reach.{Reach}
use Rattle.dutch_weight_floors.specs.declared.scoped.Reach.TheVariants.{Bracket, Lower, Next}
use Rattle.dutch_candidates.specs.declared.wish.Wish.{Wish}
use Rattle.dutch_weight_floors.specs.declared.scope.Standing.{Standing}
use Rattle.dutch_weight_floors.specs.Orders.{AddsNothing, Order, with_lesser}
use Rattle.dutch_weight_floors.specs.Scopes.{Scope, is_joined, is_within, may_stay, standing_of}
use Rattle.dutch_bracket.specs.Prelude.{seat_of, seats_meet, seats_may_be_left, count_below, seat_below}
use Rattle.dutch_candidates.specs.Wishes.{fits_as_left, fits_as_pair}
use Rattle.dutch_weighing.specs.Prelude.{Scale, Weighing, weighing, alone_weight, class_of, met_weight}

-- a bracket whose pairs are weighed, a scope of its arrangements, what is wished of them, over whom their matchings go, and what is added to
-- pairs of residents [own]
pub record Scoped : Type 0 where
  pub weighing : Weighing
  pub scope : Scope
  pub wish : Option Wish
  pub reach : Reach
  pub order : Order

-- where a number of the bracket stands
abbrev pub side_in : Scoped → ℕ → Standing
side_in s = standing_of s.weighing.reached.mdps s.scope

-- two may be a pair by where they stand, and by what is wished [B.3, B.6, B.7; own]
abbrev pub joins_in : Scoped → ℕ → ℕ → Bool
joins_in s a b = is_joined (side_in s a) (side_in s b) && fits_as_pair s.wish a b

-- one may be in no pair by where they stand, and by what is wished [with joins_in]
abbrev pub stays_in : Scoped → ℕ → Bool
stays_in s a = may_stay (side_in s a) && fits_as_left s.wish a

-- what a pair costs that weighs so much: of two residents also the lesser of what both add
abbrev pub with_order : ℕ → Order → ℕ → ℕ → ℕ → ℕ
with_order mdps order a b weight = if nat_lt mdps a && nat_lt mdps b then with_lesser order weight a b else weight

-- C.1 to C.3: who may meet and who may be left over in the arrangements of a scope that grant what is wished, and what each pair and each
-- downfloater costs
abbrev pub bracket_costs : Scoped → Costs
bracket_costs s =
    let costs = weighing s.weighing.facts s.weighing.reached s.weighing.scale in
    record {
      meets = λ a b. joins_in s a b && costs.meets a b;
      weight = λ a b. with_order s.weighing.reached.mdps s.order a b (costs.weight a b);
      may_be_left = λ a. stays_in s a && costs.may_be_left a;
      left_cost = costs.left_cost;
    }

-- ---- C.4: over all lower players too

-- the seat of a number; behind those of the bracket come the lower players by rank
abbrev pub any_seat : Scoped → ℕ → ℕ
any_seat s = seat_of (s.weighing.reached.seats ++ s.weighing.lower)

-- a number of the bracket
abbrev pub is_inside : Scoped → ℕ → Bool
is_inside s a = nat_le a (length s.weighing.reached.seats)

-- a lower player, or one who may be in no pair of the bracket
abbrev pub goes_down : Scoped → ℕ → Bool
goes_down s a = not (is_inside s a) || stays_in s a

-- what one who goes down weighs; a lower player weighs nothing
abbrev pub going_weight : Scoped → ℕ → ℕ
going_weight s a = if is_inside s a then (bracket_costs s).left_cost a else 0

-- both of two may go down
abbrev pub both_go : Scoped → ℕ → ℕ → Bool
both_go s a b = goes_down s a && goes_down s b

-- what both weigh who go down (the first one alone if the sum does not fit)
abbrev pub both_weigh : Scoped → ℕ → ℕ → ℕ
both_weigh s a b =
    if nat_lt (going_weight s a + going_weight s b) (2 ^ 1024) then going_weight s a + going_weight s b else going_weight s a

-- what two weigh at least, as a pair of the bracket or as two who go down
abbrev pub least_of : Bool → Bool → ℕ → ℕ → ℕ
least_of may_pair may_go pair going = if may_pair then (if may_go then min pair going else pair) else going

-- C.4: two may be paired once all who go down are paired out
abbrev pub may_pair_out : Scoped → ℕ → ℕ → Bool
may_pair_out s a b = both_go s a b && seats_meet s.weighing.facts (any_seat s a) (any_seat s b)

-- C.1 to C.4: two are a pair of the bracket, or are paired out; whoever goes down, and is not paired out, has the bye
abbrev pub lower_costs : Scoped → Costs
lower_costs s =
    let inside = bracket_costs s in
    record {
      meets = λ a b. inside.meets a b || may_pair_out s a b;
      weight = λ a b. least_of (inside.meets a b) (both_go s a b) (inside.weight a b) (both_weigh s a b);
      may_be_left = λ a. goes_down s a && seats_may_be_left s.weighing.facts (any_seat s a);
      left_cost = going_weight s;
    }

-- ---- C.7: over the next lower scoregroup too

-- both of two are numbers of the bracket
abbrev pub are_inside : Scoped → ℕ → ℕ → Bool
are_inside s a b = is_inside s a && is_inside s b

-- a number of the bracket or of the next lower scoregroup
abbrev pub is_number_below : Weighing → ℕ → Bool
is_number_below w a = nat_le 1 a && nat_le a (count_below w.facts w.reached w.lower)

-- C.7: two who go down may meet in the next bracket (C.1, C.3)
abbrev pub may_meet_below : Scoped → ℕ → ℕ → Bool
may_meet_below s a b =
    (both_go s a b && (is_number_below s.weighing a && is_number_below s.weighing b))
    && (not (a == b)
    && may_meet s.weighing.facts (seat_below s.weighing.facts s.weighing.reached s.weighing.lower a)
    (seat_below s.weighing.facts s.weighing.reached s.weighing.lower b))

-- what two weigh as a pair of the next bracket
abbrev pub pair_weight_below : Scoped → ℕ → ℕ → ℕ
pair_weight_below s a b = if is_inside s a then met_weight s.weighing a else met_weight s.weighing b

-- C.1 to C.3, C.7: two of the bracket are a pair of it, and others one of the next bracket; whoever goes down, and is in no pair there, is left
-- over there
abbrev pub next_costs : Scoped → Costs
next_costs s =
    let inside = bracket_costs s in
    record {
      meets = λ a b. if are_inside s a b then inside.meets a b else may_meet_below s a b;
      weight = λ a b. if are_inside s a b then inside.weight a b else pair_weight_below s a b;
      may_be_left = goes_down s;
      left_cost = alone_weight s.weighing;
    }

-- ---- over whom the matchings go

-- who may meet and who may be left over, and what that costs, by the players over whom the matchings go
abbrev pub costs_by : Reach → Scoped → Costs
costs_by Bracket = bracket_costs
costs_by Lower = lower_costs
costs_by Next = next_costs

-- who may meet and who may be left over in the arrangements of a scope that grant what is wished, and what that costs [C.1 to C.4, C.7; own]
abbrev pub costs_in : Scoped → Costs
costs_in s = costs_by s.reach s

-- how many players they go over [with IsReached]
abbrev pub size_by : Reach → Weighing → ℕ
size_by Bracket w = length w.reached.seats
size_by Lower w = length w.reached.seats + length w.lower
size_by Next w = count_below w.facts w.reached w.lower

-- a number of one of the players over whom the matchings go [own]
abbrev pub IsReached : Scoped → ℕ → Type 0
IsReached s a = (0 < a) × (a ≤ size_by s.reach s.weighing)

-- matchings go over the next lower scoregroup only where a scale measures it
abbrev pub MeasuresNext : Reach → Scale → Type 0
MeasuresNext Bracket scale = Unit {0}
MeasuresNext Lower scale = Unit {0}
MeasuresNext Next scale = is_some scale.next ≡ true

-- a table tells where each of the first numbers stands
abbrev pub TellsSides : ℕ → Scope → List Standing → Type 0
TellsSides mdps scope sides = (a : ℕ) (d : Standing) → 0 < a → a ≤ length sides → slice_index_or sides (a - 1) d ≡ standing_of mdps scope a

-- ---- the costs of one scope beside those of another

-- two have the same weights, wish and players, and add nothing to pairs: so they differ by their scopes alone
pub record DifferByScope (before : Scoped) (now : Scoped) : Type 0 where
  pub weighing : now.weighing ≡ before.weighing
  pub wish : now.wish ≡ before.wish
  pub reach : now.reach ≡ before.reach
  pub nothing_before : AddsNothing before.order
  pub nothing_now : AddsNothing now.order

-- one who stood so before stands so now that no pair with him is new, and none weighs another thing: he stands within that. Where a pair of the
-- bracket may be paired out too, and weighs the lesser of both (`least_of`), he stands as before
abbrev pub KeepsPairs : Reach → Standing → Standing → Type 0
KeepsPairs Bracket before now = is_within before now ≡ true
KeepsPairs Lower before now = now ≡ before
KeepsPairs Next before now = is_within before now ≡ true

-- who has no mark keeps his pairs
abbrev pub MarkTurned : List Bool → Scoped → Scoped → Type 0
MarkTurned turned before now = (a : ℕ) → is_marked turned a ≡ false → KeepsPairs now.reach (side_in before a) (side_in now a)

-- ---- who weighs alike

-- two weigh alike: both are of the bracket and of one class, or neither is; and where the next lower scoregroup is measured, both weigh the
-- same as ones who meet there
pub record WeighAlike (s : Scoped) (a b : ℕ) : Type 0 where
  pub inside : is_inside s a ≡ is_inside s b
  pub class : is_inside s a ≡ true → class_of s.weighing a ≡ class_of s.weighing b
  pub met : s.reach ≡ Next → met_weight s.weighing a ≡ met_weight s.weighing b

-- classes by number: each number is named by one who weighs alike
abbrev pub TellAlike : Scoped → List ℕ → ℕ → Type 0
TellAlike s classes end = (a : ℕ) → 0 < a → a < end → WeighAlike s a (slice_index classes a)

-- ---- floors of the matchings

-- all whom they go over
abbrev pub all_numbers : Scoped → List ℕ
all_numbers s = numbers_from 1 (size_by s.reach s.weighing)

-- a floor for so many left over where they go over the bracket alone, for one at most with all lower players (C.4), and for any number with
-- the next lower scoregroup (C.7)
abbrev pub IsFloorBy : Reach → Scoped → ℕ → FloorTable → Type 0
IsFloorBy Bracket s left = IsFloor (costs_in s) (all_numbers s) left
IsFloorBy Lower s left = IsFloor (costs_in s) (all_numbers s) (length (all_numbers s) % 2)
IsFloorBy Next s left = λ floor. (count : ℕ) → IsFloor (costs_in s) (all_numbers s) count floor

-- a floor that adds nothing for players left over
abbrev pub without_left : FloorTable → FloorTable
without_left floor = record { base = floor.base; debt = floor.debt; size = floor.size; slacks = floor.slacks; slacks_left = [] }

-- what is kept of a floor, by the players over whom the matchings go
abbrev pub kept_by : Reach → FloorTable → FloorTable
kept_by Bracket floor = floor
kept_by Lower floor = without_left floor
kept_by Next floor = without_left floor
