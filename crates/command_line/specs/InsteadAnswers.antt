-- What is answered to a player who asks for another opponent, or for the bye: what stands against it first.
use Rattle.std.specs.Prelude.{◌≡◌, ℕ, ◌<◌, Bool, true, false, not, ◌&&◌, ◌==◌, if◌then◌else◌, List, [], ◌∷◌, length, Option, Some, None, option_map}
use Rattle.std.specs.List.{find, list_any, position_from}
use Rattle.std.specs.Option.{option_map_or}
use Rattle.dutch_player.specs.Prelude.{Facts, seat_with}
use Rattle.dutch_rounds.specs.Prelude.{above_lower, IsInstead}
use Rattle.dutch_candidates.specs.Wishes.{grants}
use Rattle.dutch_rounds.specs.declared.instead.Instead.{Instead}
use Rattle.dutch_rounds.specs.declared.instead.Instead.TheVariants.{Best, FewerMovedDown, NoneEligible, NoneLegal, Undecided}
use Rattle.dutch_rounds.specs.Stage.{Stage}
use Rattle.dutch_candidates.specs.declared.wish.Wish.{Wish}
use Rattle.dutch_candidates.specs.declared.wish.Wish.TheVariants.{Pair, LeftOver}
use Rattle.stage_lines.specs.InsteadTexts.{granted_text, in_bracket, instead_text}
use Rattle.requests.specs.declared.options.Wording.{Wording}
use Rattle.round_lines.specs.Tellings.{TellingFacts, in_wording}
use Rattle.common_texts.specs.Prelude.{undecided_text, undecided_words}
use Rattle.player_lines.specs.Obstacles.{against_bye, against_meeting, obstacle_text}
use Rattle.replies.specs.Prelude.{Answer, done, plain}
use Rattle.replies.specs.declared.reply.Status.TheVariants.{Undecided as UndecidedStatus}
use Rattle.command_line.specs.declared.instead.Rival.{Rival}
use Rattle.command_line.specs.declared.instead.Rival.TheVariants.{Bye, Seat}
use Rattle.player_lines.specs.declared.obstacle.Obstacle.{Obstacle}
use Rattle.player_lines.specs.declared.obstacle.Obstacle.TheVariants.{Absent}

-- a round that is paired: its report and its field, the brackets that it reached, the seat that has the bye, if one has, and whether the
-- round has other boards in the report [with AnswersInstead]
pub record PairedRound : Type 0 where
  pub telling : TellingFacts
  pub stages : List Stage
  pub bye : List ℕ
  pub other_boards : Bool

-- ---- the bracket in which it was decided

-- a seat stands in a bracket
abbrev pub stands_in : ℕ → Stage → Bool
stands_in seat stage = list_any (λ other. other == seat) stage.reached.seats

-- a seat stands in one of some brackets
abbrev pub stands_in_one : List Stage → ℕ → Bool
stands_in_one stages seat = list_any (stands_in seat) stages

-- who is asked for stands in one of the brackets that follow; the bye is given behind all of them
abbrev pub goes_on : List Stage → Rival → Bool
goes_on stages Bye = true
goes_on stages (Seat seat) = stands_in_one stages seat

-- the number of a seat among those of a bracket, which counts from 1; 0 for one that is not among them
abbrev pub number_among : List ℕ → ℕ → ℕ
number_among seats seat = option_map_or (λ number. number) (position_from (λ other. other == seat) 1 seats) 0

-- the number of a seat in a bracket
abbrev pub number_in : Stage → ℕ → ℕ
number_in stage seat = number_among stage.reached.seats seat

-- a bracket keeps its pairs, and two seats stand in it: it is no ordinary one that is paired again [with decided_in]
abbrev pub keeps_both : ℕ → ℕ → Stage → Bool
keeps_both player other stage = not stage.again && (stands_in player stage && stands_in other stage)

-- the first bracket that keeps its pairs in which two seats stand: two whom it leaves over are moved down together, and meet in no bracket
-- behind it [with decided_in]
abbrev pub shared_in : List Stage → ℕ → ℕ → Option Stage
shared_in stages player other = find (keeps_both player other) stages

-- who does not stand behind a bracket: the player, or who is asked for [with decided_in]
abbrev pub settled_of : List Stage → ℕ → Rival → ℕ
settled_of behind player Bye = player
settled_of behind player (Seat other) = if stands_in_one behind player then other else player

-- the first bracket behind which one of the two does not stand, and that this one is left over in it [with decided_in]
abbrev pub settled_in : List Stage → ℕ → Rival → Option (Stage × Wish)
settled_in [] player rival = None
settled_in (stage ∷ behind) player rival =
    if stands_in_one behind player && goes_on behind rival then settled_in behind player rival
    else Some (stage, LeftOver (number_in stage (settled_of behind player rival)))

-- that two meet in a bracket that they share; where there is none, that the one who is settled first is left over [with decided_in]
abbrev pub decided_by : Option Stage → List Stage → ℕ → ℕ → Option (Stage × Wish)
decided_by (Some stage) stages player other = Some (stage, Pair (number_in stage player) (number_in stage other))
decided_by None stages player other = settled_in stages player (Seat other)

-- the bracket in which it was decided, and what is wished in it: the first that keeps its pairs in which both stand, and that they meet;
-- if there is none, or the bye is asked for, the first behind which one of the two does not stand, and that this one is left over [own]
abbrev pub decided_in : List Stage → ℕ → Rival → Option (Stage × Wish)
decided_in stages player Bye = settled_in stages player Bye
decided_in stages player (Seat other) = decided_by (shared_in stages player other) stages player other

-- ---- the steps reached the limit

-- the line of it
abbrev pub undecided_told : Wording → ℕ → ℕ → List ℕ
undecided_told wording number used = in_wording wording (undecided_text number used) (undecided_words number used)

-- the steps of a bracket reached the limit before it was decided
abbrev pub undecided_in : Wording → ℕ → ℕ → Answer
undecided_in wording number used = plain UndecidedStatus (undecided_told wording number used)

-- ---- what a search in a bracket finds

-- what is told of it to a player, who asks for a number: none that can be chosen grants the wish, none with as many moved-down players, none
-- with as many pairs, or the best that does; or that its steps reached the limit [own]
abbrev pub search_answer : TellingFacts → ℕ → ℕ → Stage → Wish → Instead → Answer
search_answer telling player number stage wish (Best candidate quality) = done (in_bracket telling player number stage wish (Best candidate quality))
search_answer telling player number stage wish NoneEligible = done (in_bracket telling player number stage wish NoneEligible)
search_answer telling player number stage wish FewerMovedDown = done (in_bracket telling player number stage wish FewerMovedDown)
search_answer telling player number stage wish NoneLegal = done (in_bracket telling player number stage wish NoneLegal)
search_answer telling player number stage wish (Undecided used) = undecided_in telling.wording stage.reached.number used

-- ---- the answer

-- the bye for 0; else the seat of a start rank
abbrev pub rival_of : Facts → ℕ → Option Rival
rival_of facts number = if number == 0 then Some Bye else option_map (λ seat. Seat seat) (seat_with facts number)

-- who is asked for is one of the field [with AnswersInstead]
abbrev pub IsRival : Facts → Rival → Type 0
IsRival facts Bye = Unit {0}
IsRival facts (Seat seat) = seat < length facts.seats

-- what stands against it, whatever is chosen in a bracket
abbrev pub obstacle_of : PairedRound → ℕ → Rival → Option Obstacle
obstacle_of round player Bye = against_bye round.telling.sheet round.telling.facts round.bye player
obstacle_of round player (Seat other) = against_meeting round.telling.sheet round.telling.facts player other

module _ (telling : TellingFacts) (steps player number : ℕ) where
  -- a candidate that grants a wish is searched for in a bracket, in so many steps, and what is found is told [with AnswersInstead]
  pub record IsSearched (stage : Stage) (wish : Wish) (answer : Answer) : Type 0 where
    pub found : Instead
    pub is : IsInstead (above_lower telling.facts stage.reached) stage.shape wish steps found
    pub tells : answer ≡ search_answer telling player number stage wish found

  -- what is chosen in a bracket grants the wish; else a candidate that does is searched for [with AnswersInstead]
  abbrev pub AnswersWish : Stage → Wish → Bool → Answer → Type 0
  AnswersWish stage wish true answer = answer ≡ done (granted_text telling player number)
  AnswersWish stage wish false answer = IsSearched stage wish answer

  -- what is answered of the bracket in which it was decided; where there is no bracket nothing is told [with AnswersInstead]
  abbrev pub AnswersDecided : Option (Stage × Wish) → Answer → Type 0
  AnswersDecided None answer = answer ≡ done []
  AnswersDecided (Some decided) answer = AnswersWish decided.0 decided.1 (grants decided.1 decided.0.candidate.lists) answer

  -- what is answered where the two are present: an obstacle, or else what the brackets say [with AnswersInstead]
  abbrev pub AnswersPresent : Option Obstacle → Option (Stage × Wish) → Answer → Type 0
  AnswersPresent (Some obstacle) decided answer = answer ≡ done (instead_text telling player number (obstacle_text telling player number obstacle))
  AnswersPresent None decided answer = AnswersDecided decided answer

-- what is answered where the two are present, or else that one of them is absent [with AnswersInstead]
abbrev pub AnswersSeats : PairedRound → ℕ → ℕ → ℕ → Option ℕ → Option Rival → Answer → Type 0
AnswersSeats round steps player number (Some seat) (Some rival) answer =
    AnswersPresent round.telling steps player number (obstacle_of round seat rival) (decided_in round.stages seat rival) answer
AnswersSeats round steps player number seat rival answer =
    answer ≡ done (instead_text round.telling player number (obstacle_text round.telling player number Absent))

-- `explain --instead`: what stands first against what a player asks for: one of the two is absent, there is an obstacle, or what the
-- brackets say [own]
abbrev pub AnswersInstead : PairedRound → ℕ → ℕ → ℕ → Answer → Type 0
AnswersInstead round player number steps answer =
    AnswersSeats round steps player number (seat_with round.telling.facts player) (rival_of round.telling.facts number) answer
