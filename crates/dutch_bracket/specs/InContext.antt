-- What is said of a bracket above its lower seats, by the one record that holds its field, the bracket and those seats: each word here is
-- the definition of the same name over the three.
use Rattle.std.specs.Prelude.{ℕ, Bool, List, Option}
use Rattle.dutch_arrangements.specs.Prelude.{Frame, Arrangement, Fits}
use Rattle.dutch_arrangements.specs.declared.bracket.Shape.{Shape}
use Rattle.dutch_bracket.specs.Context.{Context}
use Rattle.dutch_bracket.specs.Quality.{Quality}
use Rattle.dutch_bracket.specs.Reached.{frame_of}
use Rattle.dutch_bracket.specs.Brackets.{candidates_of, can_be_chosen, eligible, first_group, quality_of, scoregroups, shape_of}

-- the bracket by scores [with Context]
abbrev pub frame_here : Context → Frame
frame_here context = frame_of context.facts context.reached

-- the next lower scoregroup
abbrev pub group_here : Context → List ℕ
group_here context = first_group context.facts (scoregroups context.facts context.lower)

-- it has room for a shape [with Context]
abbrev pub FitsHere : Context → Shape → Type 0
FitsHere context shape = Fits (frame_here context) shape

-- its candidates of a shape [with Context]
abbrev pub candidates_here : Context → Shape → List Arrangement
candidates_here context shape = candidates_of context.facts context.reached shape

-- a candidate can be chosen in it [with Context]
abbrev pub can_be_chosen_here : Context → Arrangement → Bool
can_be_chosen_here context a = can_be_chosen context.facts context.reached context.lower a

-- its candidates of a shape that can be chosen [with Context]
abbrev pub eligible_here : Context → Shape → List Arrangement
eligible_here context shape = eligible context.facts context.reached context.lower shape

-- its shape [with Context]
abbrev pub shape_here : Context → Option Shape
shape_here context = shape_of context.facts context.reached context.lower

-- the quality of a candidate in it [with Context]
abbrev pub quality_here : Context → Arrangement → Quality
quality_here context a = quality_of context.facts context.reached context.lower a
