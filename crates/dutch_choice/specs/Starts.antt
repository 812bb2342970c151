-- Where a lister stands that is lent to whoever looks through the candidates of a bracket's shape.
use Rattle.std.specs.Prelude.{◌≡◌, false, ◌∷◌, Option, Some, None}
use Rattle.dutch_arrangements.specs.declared.bracket.Shape.{Shape}
use Rattle.dutch_arrangements.specs.Prelude.{Candidate, Listing, Passes, down}
use Rattle.dutch_bracket.specs.Prelude.{Context, can_be_chosen_here, candidates_here, frame_here, shape_here}
use Rattle.dutch_candidates.specs.declared.greatest.Lister.{Lister}
use Rattle.dutch_candidates.specs.declared.narrowed.NarrowedRule.{NarrowedRule}
use Rattle.dutch_candidates.specs.declared.wish.Wish.{Wish}
use Rattle.dutch_choice.specs.declared.start.FoundShape.{FoundShape}
use Rattle.dutch_choice.specs.declared.start.Start.{Start}
use Rattle.dutch_choice.specs.declared.start.Start.TheVariants.{Anew, Drawn}

-- a listing is of a bracket, by its rules as they are narrowed to what is wished [own]
pub record ListsHere (context : Context) (wish : Option Wish) (listing : Listing NarrowedRule) : Type 0 where
  pub frame : listing.frame ≡ frame_here context
  pub field : listing.rule.rule.field.now ≡ context.facts
  pub bracket : listing.rule.rule.reached.now ≡ context.reached
  pub wished : listing.rule.wish ≡ wish

-- of the candidates of a shape the first that can be chosen is drawn: a listing stands behind it, and all candidates before it cannot be
-- chosen [C.4; own]
pub record StandsBehindFirst (context : Context) (shape : Shape) (listing : Listing NarrowedRule) (drawn : Candidate) : Type 0 where
  pub shape_is : listing.shape ≡ shape
  pub passes : Passes (λ a. can_be_chosen_here context a ≡ false) (candidates_here context shape) (drawn.lists ∷ listing.coming)
  pub down_is : drawn.down ≡ down (frame_here context) drawn.lists

-- a lister stands where it is said to stand: anywhere, or behind the first candidate of a shape that can be chosen, which is drawn [own]
abbrev pub StandsAt : Context → Shape → Start → Lister NarrowedRule → Type 0
StandsAt context shape Anew lister = Unit {0}
StandsAt context shape Drawn lister = StandsBehindFirst context shape lister.listing lister.drawn

-- a lister is of a bracket and of what is wished, and stands where it is said to stand [own]
abbrev pub IsLent : Context → Option Wish → Shape → Start → Lister NarrowedRule → Type 0
IsLent context wish shape start lister = ListsHere context wish lister.listing × StandsAt context shape start lister

-- what is found is the shape of a bracket, and a lister for which nothing is wished stands where it is said to stand; nothing is found only
-- if there is no shape [own]
abbrev pub IsFoundShape : Context → Lister NarrowedRule → Option FoundShape → Type 0
IsFoundShape context lister None = shape_here context ≡ None
IsFoundShape context lister (Some found) = (shape_here context ≡ Some found.shape) × IsLent context None found.shape found.start lister
