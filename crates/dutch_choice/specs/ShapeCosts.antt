-- The players of a bracket, in the penultimate one with all lower players, as a graph with costs (C.04.3 B.1, B.2, C.1 to C.5). What costs
-- least is the bracket's shape.
use Rattle.std.specs.Prelude.{◌≡◌, ℕ, ◌+◌, ◌-◌, ◌*◌, ◌%◌, ◌==◌, ◌≤◌, Bool, true, false, not, ◌&&◌, ◌||◌, ◌++◌, nat_le, if◌then◌else◌, length}
use Rattle.dual.specs.Prelude.{Costs}
use Rattle.dutch_arrangements.specs.declared.bracket.Shape.{Shape}
use Rattle.dutch_bracket.specs.Prelude.{Context, FitsHere, eligible_here, ends_round, has_member, is_penultimate, number_may_be_left, numbers_meet, seat_of, seats_may_be_left, seats_meet}
use Rattle.dutch_choice.specs.declared.certified.ShapeFloor.{ShapeFloor}

-- two who may be a pair of a candidate: they may meet, and one of them at most was moved down [B.2, C.1, C.3]
abbrev pub are_pair : Context → ℕ → ℕ → Bool
are_pair context a b =
    numbers_meet context.facts context.reached a b && not (nat_le a context.reached.mdps && nat_le b context.reached.mdps)

-- how many players are matched: those of the bracket, and in the penultimate one all lower ones [own]
abbrev pub count_all : Context → ℕ
count_all context =
    if is_penultimate context.reached.kind then length context.reached.seats + length context.lower else length context.reached.seats

-- the seat of a number; behind those of the bracket come the lower players by rank [own]
abbrev pub any_seat : Context → ℕ → ℕ
any_seat context = seat_of (context.reached.seats ++ context.lower)

-- in the penultimate bracket two may be paired out, in a lower bracket: they may meet [C.4]
abbrev pub are_paired_out : Context → ℕ → ℕ → Bool
are_paired_out context a b =
    is_penultimate context.reached.kind
    && ((nat_le 1 a && nat_le 1 b) && seats_meet context.facts (any_seat context a) (any_seat context b))

-- one may be left over: in the penultimate bracket and in one that ends the round who may have the bye, in an ordinary one everybody [C.2, C.4]
abbrev pub may_stay : Context → ℕ → Bool
may_stay context a =
    if is_penultimate context.reached.kind then seats_may_be_left context.facts (any_seat context a)
    else (not (ends_round context.reached.kind) || number_may_be_left context.facts context.reached a)

-- what it costs that one is in no pair of the bracket: for a moved-down player a little more, for a lower player nothing
abbrev pub alone_cost : Context → ℕ → ℕ
alone_cost context a =
    if nat_le a context.reached.mdps then 4098 else if nat_le a (length context.reached.seats) then 4096 else 0

-- what it costs to have the bye in the penultimate bracket: more than all else
abbrev pub bye_cost : Context → ℕ
bye_cost context = if is_penultimate context.reached.kind then 16777216 else 0

-- who may be paired, and who may be left over; and what that costs when the shape is looked for [C.1 to C.4]
abbrev pub shape_costs : Context → Costs
shape_costs context = record {
  meets = λ a b. are_pair context a b || are_paired_out context a b;
  weight = λ a b. if are_pair context a b then 0 else alone_cost context a + alone_cost context b;
  may_be_left = may_stay context;
  left_cost = λ a. alone_cost context a + bye_cost context;
}

-- a vertex for each number, and the vertex 0, which is joined to nobody
abbrev pub vertices : Context → ℕ
vertices context = count_all context + 1

-- two vertices are joined if they may be paired, in the bracket or out of it
abbrev pub joined : Context → ℕ → ℕ → Bool
joined context = (shape_costs context).meets

-- what it costs that an odd number leaves one over in the penultimate bracket
abbrev pub spare_cost : Context → ℕ
spare_cost context = if is_penultimate context.reached.kind && (count_all context % 2 == 1) then 16777216 else 0

-- what a shape costs: those who are in none of its pairs
abbrev pub cost_of : Context → Shape → ℕ
cost_of context shape =
    (4096 * ((length context.reached.seats - shape.pairs) - shape.pairs) + 2 * (context.reached.mdps - shape.mdps)) + spare_cost context

-- no shape that has a candidate that can be chosen costs less, beside what is owed, than a floor
abbrev pub IsShapeFloor : Context → ShapeFloor → Type 0
IsShapeFloor context floor =
    (shape : Shape) → FitsHere context shape → has_member (eligible_here context shape) ≡ true → floor.base ≤ floor.debt + cost_of context shape

-- no shape that costs no more than this one has a candidate that can be chosen
abbrev pub IsTooCheap : Context → Shape → Type 0
IsTooCheap context shape =
    (t : Shape) → FitsHere context t → cost_of context t ≤ cost_of context shape → has_member (eligible_here context t) ≡ false
