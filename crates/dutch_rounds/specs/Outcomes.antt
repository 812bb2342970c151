-- What the calls on a round answer.
use Rattle.std.specs.Prelude.{◌≡◌, ℕ, zero, suc, ◌+◌, ◌≤◌, true, List, [], ◌∷◌, map, length, Option, Some, None, option_map, is_some}
use Rattle.std.specs.List.{AllByRecursion}
use Rattle.dutch_arrangements.specs.declared.bracket.Shape.{Shape}
use Rattle.dutch_arrangements.specs.Prelude.{Fits}
use Rattle.dutch_player.specs.Prelude.{Facts}
use Rattle.dutch_rounds.specs.declared.round.Outcome.{Outcome}
use Rattle.dutch_rounds.specs.declared.round.Outcome.TheVariants.{Paired, NoPairing, Undecided}
use Rattle.dutch_rounds.specs.declared.round.BracketAt.{BracketAt}
use Rattle.dutch_rounds.specs.declared.round.BracketAt.TheVariants.{Bracket, NotReached, NoPairing as NoPairingAt, Undecided as UndecidedAt}
use Rattle.dutch_rounds.specs.declared.round.AllStages.{AllStages}
use Rattle.dutch_rounds.specs.declared.round.AllStages.TheVariants.{Paired as StagesPaired, NoPairing as NoStages, Undecided as StagesUndecided}
use Rattle.dutch_rounds.specs.Stage.{Stage}
use Rattle.dutch_bracket.specs.Prelude.{IsOfBracket, quality_in, Reached, IsAbove, IsOf, frame_of, choice, quality_of, AreSeats, seats_meet, seats_may_be_left}
use Rattle.dutch_rounds.specs.Lower.{lower_of}
use Rattle.dutch_rounds.specs.Round.{Visit, round, everybody}
use Rattle.dutch_bracket.specs.Completion.{Completable}
use Rattle.dutch_rounds.specs.Boards.{boards}

-- the bracket at a place of a list, the first at 0
abbrev pub visit_at : ℕ → List Visit → Option Visit
visit_at place [] = None
visit_at zero (visit ∷ visits) = Some visit
visit_at (suc place) (visit ∷ visits) = visit_at place visits

-- the bracket of a number, the first has 1; none has 0 [with IsBracketAt]
abbrev pub visit_of : ℕ → List Visit → Option Visit
visit_of zero visits = None
visit_of (suc place) visits = visit_at place visits

-- a bracket that was reached, with its shape [with IsBracketAt]
abbrev pub bracket_and_shape : Option Visit → Option (Reached × Shape)
bracket_and_shape found = option_map (λ visit. (visit.bracket, visit.shape)) found

-- a call was stopped at its limit, in one of the brackets reached or in the one behind them [own]
abbrev pub IsStoppedIn : Facts → ℕ → ℕ → ℕ → Type 0
IsStoppedIn facts limit bracket used = (used ≡ limit) × (1 ≤ bracket) × (bracket ≤ length (round facts).reached + 1)

-- what pairing a round answers: the boards, that there is no pairing, or that it stopped [own]
abbrev pub IsOutcome : Facts → ℕ → Outcome → Type 0
IsOutcome facts limit (Paired all) = option_map (boards facts) (round facts).pairing ≡ Some all.items
IsOutcome facts limit NoPairing = (round facts).pairing ≡ None
IsOutcome facts limit (Undecided bracket used) = IsStoppedIn facts limit bracket used

-- a stage as one of the brackets that were reached [with AreStages]
abbrev pub visit : Stage → Visit
visit stage = record { bracket = stage.reached; shape = stage.shape; lists = stage.candidate.lists; again = stage.again }

-- a stage's bracket stands above all players below it; above them its candidate is the choice, and the quality that it tells is that of its
-- candidate [B.8, C.6 to C.19; own]
pub record IsStage (facts : Facts) (stage : Stage) : Type 0 where
  pub bracket : IsOf facts stage.reached
  pub candidate : IsOfBracket facts stage.reached stage.candidate
  pub above : IsAbove facts stage.reached (lower_of facts stage.reached)
  pub choice : choice facts stage.reached (lower_of facts stage.reached) ≡ Some (record { shape = stage.shape; lists = stage.candidate.lists })
  pub value : quality_in stage.quality ≡ quality_of facts stage.reached (lower_of facts stage.reached) stage.candidate.lists

-- what asking for all stages answers: the brackets that the round reaches, in order, each a stage, and who has the bye; that there is no
-- pairing; or that it stopped [own]
abbrev pub AreStages : Facts → ℕ → AllStages → Type 0
AreStages facts limit (StagesPaired stages bye) =
    (map visit stages.items ≡ (round facts).reached) × AllByRecursion (IsStage facts) stages.items
    × (option_map (λ pairing. pairing.bye) (round facts).pairing ≡ Some bye.items) × AreSeats facts bye.items
AreStages facts limit NoStages = (round facts).pairing ≡ None
AreStages facts limit (StagesUndecided bracket used) = IsStoppedIn facts limit bracket used

-- all present players can be paired out where a round is paired, and cannot where it has no pairing [A.9]
abbrev pub TellsCompletion : Facts → Outcome → Type 0
TellsCompletion facts (Paired all) = Completable (seats_meet facts) (seats_may_be_left facts) (everybody facts)
TellsCompletion facts NoPairing = ¬ Completable (seats_meet facts) (seats_may_be_left facts) (everybody facts)
TellsCompletion facts (Undecided bracket used) = Unit {0}

-- what asking for a bracket answers: the bracket that bears the number, with its shape; that the round is paired and has none of that
-- number; that there is no pairing, and none of that number; or that it stopped [own]
abbrev pub IsBracketAt : Facts → ℕ → ℕ → BracketAt → Type 0
IsBracketAt facts limit number (Bracket reached shape) =
    (reached.number ≡ number) × (bracket_and_shape (visit_of number (round facts).reached) ≡ Some (reached, shape))
    × IsOf facts reached × Fits (frame_of facts reached) shape
IsBracketAt facts limit number NotReached = (visit_of number (round facts).reached ≡ None) × (is_some (round facts).pairing ≡ true)
IsBracketAt facts limit number NoPairingAt = (visit_of number (round facts).reached ≡ None) × ((round facts).pairing ≡ None)
IsBracketAt facts limit number (UndecidedAt bracket used) = IsStoppedIn facts limit bracket used

-- all present players can be paired out where a bracket is reached or the round ends before it, and cannot where it has no pairing [with
-- TellsCompletion]
abbrev pub TellsCompletionAt : Facts → BracketAt → Type 0
TellsCompletionAt facts (Bracket reached shape) = Completable (seats_meet facts) (seats_may_be_left facts) (everybody facts)
TellsCompletionAt facts NotReached = Completable (seats_meet facts) (seats_may_be_left facts) (everybody facts)
TellsCompletionAt facts NoPairingAt = ¬ Completable (seats_meet facts) (seats_may_be_left facts) (everybody facts)
TellsCompletionAt facts (UndecidedAt bracket used) = Unit {0}
