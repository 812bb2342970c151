-- What stands against a meeting in the next round, or against the bye, whatever is chosen in a bracket (C.04.3 C.1 to C.3).
use Rattle.std.specs.Prelude.{ℕ, Bool, true, false, ◌==◌, if◌then◌else◌, List, [], ◌∷◌, ◌++◌, Option, Some, None, codes}
use Rattle.std.specs.Fmt.{decimal}
use Rattle.std.specs.List.{find, range_with_len}
use Rattle.std.specs.Option.{option_map_or, unwrap_or}
use Rattle.dutch_player.specs.Prelude.{Facts, seat_at, bars_bye, opponent_played, colours_allow}
use Rattle.trf16_report.specs.Prelude.{apart, Sheet, cell_in, rounds_played}
use Rattle.round_lines.specs.Tellings.{TellingFacts, in_wording, player_words}
use Rattle.player_lines.specs.declared.obstacle.Obstacle.{Obstacle}
use Rattle.player_lines.specs.declared.obstacle.Obstacle.TheVariants.{Absent, Met, Apart, Colours, HadBye, Even}

-- C.1: one has played a game against the other in a round; a forfeit is none
abbrev pub has_played : Sheet → ℕ → ℕ → ℕ → Bool
has_played sheet one other round = option_map_or (λ start. start == other) (opponent_played (cell_in sheet one round)) false

-- C.1: the first round in which they have played, from 1 on
abbrev pub first_meeting : Sheet → ℕ → ℕ → Option ℕ
first_meeting sheet one other = find (has_played sheet one other) (range_with_len 1 (rounds_played sheet))

-- what is told of a first meeting, of a line XXP that names both, and of colours that allow it: the first that stands against it
abbrev pub first_against : Option ℕ → Bool → Bool → Option Obstacle
first_against (Some round) are_apart allow = Some (Met round)
first_against None true allow = Some Apart
first_against None false allow = if allow then None else Some Colours

-- what stands first against a meeting of two seats: the first round in which they have played a game, a line XXP that names both, or their
-- colours [C.1, C.3; own]
abbrev pub against_meeting : Sheet → Facts → ℕ → ℕ → Option Obstacle
against_meeting sheet facts one other =
    let first = (seat_at facts one).start in
    let second = (seat_at facts other).start in
    first_against (first_meeting sheet first second) (apart sheet first second) (colours_allow facts (seat_at facts one) (seat_at facts other))

-- that the number of players is even, where nobody has the bye
abbrev pub even_without_bye : List ℕ → Option Obstacle
even_without_bye [] = Some Even
even_without_bye (seat ∷ seats) = None

-- C.2: in a round a player had the bye, or a point without a game
abbrev pub has_had_bye : Sheet → ℕ → ℕ → Bool
has_had_bye sheet start round = bars_bye (cell_in sheet start round)

-- C.2: the first such round, from 1 on
abbrev pub first_bye : Sheet → ℕ → Option ℕ
first_bye sheet start = find (has_had_bye sheet start) (range_with_len 1 (rounds_played sheet))

-- what stands first against the bye of a seat: its player may not have it, since they had it, or a point without a game, in a round, of
-- which the first is told, or 0 where there is none; or nobody has it [C.2; own]
abbrev pub against_bye : Sheet → Facts → List ℕ → ℕ → Option Obstacle
against_bye sheet facts bye seat = if (seat_at facts seat).may_bye then even_without_bye bye else Some (HadBye (unwrap_or (first_bye sheet (seat_at facts seat).start) 0))

module _ (telling : TellingFacts) (player number : ℕ) where
  -- an obstacle as it is told, in codes, or in a sentence to a player who asks for a number, or by 0 for the bye [own]
  abbrev pub obstacle_text : Obstacle → List ℕ
  obstacle_text Absent =
      in_wording telling.wording (codes "absent") (if number == 0 then player_words telling.sheet player ++ codes " is absent." else codes "One of them is absent.")
  obstacle_text (Met round) =
      in_wording telling.wording (codes "met round " ++ (decimal round ++ codes " C.1")) (codes "They met in round " ++ (decimal round ++ codes " (C.1)."))
  obstacle_text Apart = in_wording telling.wording (codes "apart XXP") (codes "An XXP line keeps them apart.")
  obstacle_text Colours = in_wording telling.wording (codes "colours C.3") (codes "Both have to get the same colour (C.3).")
  obstacle_text (HadBye round) =
      in_wording telling.wording (codes "bye C.2")
      (player_words telling.sheet player ++ (codes " has had the bye, or a point without a game, in round " ++ (decimal round ++ codes " (C.2).")))
  obstacle_text Even = in_wording telling.wording (codes "even") (codes "The number of players present is even.")
