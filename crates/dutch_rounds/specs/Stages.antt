-- A walk over the brackets of a round, as the round from where it stands on: a model that carries the round's proof.
use Rattle.std.specs.Prelude.{◌≡◌, ℕ, ◌+◌, Bool, true, false, not, if◌then◌else◌, List, [], ◌∷◌, ◌++◌, length, map, Option, Some, None}
use Rattle.dutch_arrangements.specs.declared.bracket.Shape.{Shape}
use Rattle.dutch_arrangements.specs.Prelude.{Fits, down}
use Rattle.dutch_player.specs.Prelude.{Facts}
use Rattle.dutch_bracket.specs.declared.reached.BracketKind.{BracketKind}
use Rattle.dutch_bracket.specs.declared.reached.BracketKind.TheVariants.{Ordinary, Last, Penultimate, Collapsed}
use Rattle.dutch_rounds.specs.Stage.{Stage}
use Rattle.dutch_rounds.specs.declared.walk.Next.{Next}
use Rattle.dutch_rounds.specs.declared.walk.Next.TheVariants.{Bracket, Bye}
use Rattle.dutch_rounds.specs.declared.walk.Halt.{Halt}
use Rattle.dutch_rounds.specs.declared.walk.Halt.TheVariants.{NoPairing, Undecided, Fault}
use Rattle.dutch_bracket.specs.Prelude.{quality_in, Reached, IsOf, frame_of, Choice, choice, completable, quality_of, scoregroups, AreSeats, all_pairs, seat_of}
use Rattle.dutch_rounds.specs.Round.{Round, Pairing, Visit, brackets, everybody, round, ending, final_bracket, ordinary_bracket, passing, pairing_in, penultimate_bracket}
use Rattle.dutch_rounds.specs.Outcomes.{IsStage, IsStoppedIn, bracket_and_shape, visit_of}
use Rattle.dutch_rounds.specs.WaysOut.{StandsBefore}

-- where a walk stands in a field: the most steps of a bracket, those used for the one that comes next, its number, the round from there
-- on, and who has the bye if none comes
pub record Walk : Type 0 where
  pub facts : Facts
  pub limit : ℕ
  pub used : ℕ
  pub number : ℕ
  pub rest : Round
  pub bye : List ℕ

-- the kind of the bracket of a scoregroup above lower seats
abbrev pub group_kind : List ℕ → BracketKind
group_kind [] = Last
group_kind (seat ∷ seats) = Ordinary

-- who has the bye, if no bracket comes next
abbrev pub bye_at : Next → List ℕ
bye_at (Bracket reached lower) = []
bye_at (Bye bye) = bye.items

-- what is chosen in a stage
abbrev pub choice_of : Stage → Choice
choice_of stage = record { shape = stage.shape; lists = stage.candidate.lists }

-- C.4: an ordinary bracket is paired again if those that it leaves over cannot be paired out with all lower players
abbrev pub is_again : BracketKind → Bool → Bool
is_again Ordinary complete = not complete
is_again Last complete = false
is_again Penultimate complete = false
is_again Collapsed complete = false

module _ (facts : Facts) where
  -- the round from a bracket above lower seats on, by its kind
  abbrev pub round_by : BracketKind → Reached → List ℕ → Round
  round_by Ordinary reached lower = ordinary_bracket facts reached lower (λ left. brackets facts (reached.number + 1) left (scoregroups facts lower))
  round_by Last reached lower = final_bracket facts reached
  round_by Penultimate reached lower = penultimate_bracket facts reached lower
  round_by Collapsed reached lower = final_bracket facts reached

  -- the round from what comes next on
  abbrev pub round_from : Next → Round
  round_from (Bracket reached lower) = round_by reached.kind reached lower.now
  round_from (Bye bye) = ending facts bye.items

  -- what comes next, under a number
  abbrev pub StandsAt : ℕ → Next → Type 0
  StandsAt number (Bracket reached lower) = StandsBefore facts number reached lower.now
  StandsAt number (Bye bye) = AreSeats facts bye.items

  -- what a walk keeps: what comes next stands there, and the brackets passed, of which the number is one more, and those to come are
  -- those of the round
  pub record IsUnderWay (number : ℕ) (next : Next) : Type 0 where
    pub stands : StandsAt number next
    pub passed : List Visit
    pub count : number ≡ 1 + length passed
    pub whole : passed ++ (round_from next).reached ≡ (round facts).reached

  -- a stage in front of the rest of a round, without its pairs if it is paired again
  abbrev pub stage_first : Stage → Round → Round
  stage_first stage rest =
      if stage.again then passing facts stage.reached (choice_of stage) rest else pairing_in facts stage.reached (choice_of stage) rest

  -- a stage is settled as its bracket above lower seats is
  pub record IsSettled (lower : List ℕ) (stage : Stage) : Type 0 where
    pub choice : choice facts stage.reached lower ≡ Some (choice_of stage)
    pub down : stage.candidate.down ≡ down (frame_of facts stage.reached) stage.candidate.lists
    pub value : quality_in stage.quality ≡ quality_of facts stage.reached lower stage.candidate.lists
    pub again : stage.again ≡ is_again stage.reached.kind (completable facts (map (seat_of stage.reached.seats) stage.candidate.down ++ lower))

-- pairs in front of those of a pairing
abbrev pub in_front : List (ℕ × ℕ) → Pairing → Pairing
in_front pairs later = record { pairs = pairs ++ later.pairs; bye = later.bye }

-- the pairs of a stage by seat: none if it is paired again [A.9]
abbrev pub own_pairs : Stage → List (ℕ × ℕ)
own_pairs stage = if stage.again then [] else all_pairs stage.reached.seats stage.candidate.lists

-- a walk at its start: all can be paired out, and the whole round is to come
pub record Starts (facts : Facts) (limit : ℕ) (walk : Walk) : Type 0 where
  pub complete : completable facts (everybody facts) ≡ true
  pub facts' : walk.facts ≡ facts
  pub limit' : walk.limit ≡ limit
  pub rest : walk.rest ≡ round facts
  pub first : walk.number ≡ 1

-- a walk has gone behind a stage, where no step is used
pub record IsBehind (stage : Stage) (old new : Walk) : Type 0 where
  pub facts : new.facts ≡ old.facts
  pub limit : new.limit ≡ old.limit
  pub used : new.used ≡ 0
  pub number : new.number ≡ old.number + 1
  pub rest : old.rest ≡ stage_first old.facts stage new.rest

-- a walk has ended: the brackets are passed, and who is left over, one of the field, has the bye
pub record HasEnded (walk : Walk) : Type 0 where
  pub rest : walk.rest ≡ ending walk.facts walk.bye
  pub bye : AreSeats walk.facts walk.bye
  pub count : walk.number ≡ 1 + length (round walk.facts).reached

-- how a walk goes on: behind a stage, or nowhere at its end
abbrev pub GoesOn : Walk → Walk → Option Stage → Type 0
GoesOn old new (Some stage) = IsBehind stage old new × IsStage old.facts stage
GoesOn old new None = (new ≡ old) × HasEnded old

-- the pairs of a round by seat, and the seat that has the bye, if one has
abbrev pub ArePairs : Facts → List (ℕ × ℕ) → List ℕ → Type 0
ArePairs facts pairs bye = (round facts).pairing ≡ Some (record { pairs = pairs; bye = bye })

-- the bracket of a number, which it bears, with its shape, if the round reaches it
abbrev pub IsFound : Facts → ℕ → Option (Reached × Shape) → Type 0
IsFound facts number None = visit_of number (round facts).reached ≡ None
IsFound facts number (Some (reached, shape)) =
    (reached.number ≡ number) × (bracket_and_shape (visit_of number (round facts).reached) ≡ Some (reached, shape))
    × IsOf facts reached × Fits (frame_of facts reached) shape

-- why a question ends before the walk does
abbrev pub IsHalt : Facts → ℕ → Halt → Type 0
IsHalt facts limit NoPairing = completable facts (everybody facts) ≡ false
IsHalt facts limit (Undecided bracket used) = IsStoppedIn facts limit bracket used
IsHalt facts limit (Fault fault) = Unit {0}

-- the steps told of an undecided bracket are those used
abbrev pub TellsUsed : ℕ → Halt → Type 0
TellsUsed used NoPairing = Unit {0}
TellsUsed used (Undecided bracket told) = told ≡ used
TellsUsed used (Fault fault) = Unit {0}
