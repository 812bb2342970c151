-- What the obstacles say, and the reasons why no candidate grants a wish, in words of their own.
use Rattle.std.specs.Prelude.{◌≡◌, ◌≢◌, ℕ, ◌<◌, ◌≤◌, ◌⊎◌, ◌&&◌, true, false, List, [], ◌∷◌, ◌++◌, Some}
use Rattle.dutch_arrangements.specs.Prelude.{Arrangement, Fits, IsIn}
use Rattle.dutch_player.specs.Prelude.{Facts, seat_at, bars_bye, opponent_played, is_topscorer, preference}
use Rattle.dutch_player.specs.declared.preference.Strength.TheVariants.{Absolute}
use Rattle.dutch_player.specs.declared.preference.Pref.{Pref}
use Rattle.dutch_rounds.specs.Prelude.{lower_of}
use Rattle.dutch_bracket.specs.Prelude.{frame_of, can_be_chosen, candidates_of}
use Rattle.dutch_candidates.specs.Wishes.{grants}
use Rattle.dutch_choice.specs.Prelude.{with_mdps}
use Rattle.dutch_rounds.specs.Stage.{Stage}
use Rattle.dutch_candidates.specs.declared.wish.Wish.{Wish}
use Rattle.dutch_candidates.specs.declared.wish.Wish.TheVariants.{Pair, LeftOver}
use Rattle.trf16_report.specs.Prelude.{apart, Sheet, cell_in, rounds_played}
use Rattle.command_line.specs.InsteadAnswers.{goes_on, keeps_both, number_in, stands_in, stands_in_one}
use Rattle.command_line.specs.declared.instead.Rival.{Rival}
use Rattle.command_line.specs.declared.instead.Rival.TheVariants.{Bye, Seat}
use Rattle.player_lines.specs.declared.obstacle.Obstacle.{Obstacle}
use Rattle.player_lines.specs.declared.obstacle.Obstacle.TheVariants.{Absent, Met, Apart, Colours, HadBye, Even}

-- one of two has played a game against the other in a round, and in none before it (C.1) [with StandsAgainstMeeting]
pub record HaveMetFirst (sheet : Sheet) (one other round : ℕ) : Type 0 where
  pub from_one : 1 ≤ round
  pub within : round ≤ rounds_played sheet
  pub game : opponent_played (cell_in sheet one round) ≡ Some other
  pub none_before : (earlier : ℕ) → 1 ≤ earlier → earlier < round → opponent_played (cell_in sheet one earlier) ≢ Some other

-- a player had the bye, or a point without a game, in a round, and in none before it (C.2) [with StandsAgainstBye]
pub record HadByeFirst (sheet : Sheet) (start round : ℕ) : Type 0 where
  pub from_one : 1 ≤ round
  pub within : round ≤ rounds_played sheet
  pub barred : bars_bye (cell_in sheet start round) ≡ true
  pub none_before : (earlier : ℕ) → 1 ≤ earlier → earlier < round → bars_bye (cell_in sheet start earlier) ≡ false

-- two have absolute preferences for one colour, and neither is a topscorer (C.3) [with StandsAgainstMeeting]
pub record ColoursClash (facts : Facts) (one other : ℕ) : Type 0 where
  pub mine : Pref
  pub theirs : Pref
  pub first : preference (seat_at facts one).played ≡ Some mine
  pub second : preference (seat_at facts other).played ≡ Some theirs
  pub both_absolute : (mine.strength ≡ Absolute) × (theirs.strength ≡ Absolute)
  pub one_colour : mine.colour ≡ theirs.colour
  pub no_topscorer : (is_topscorer facts (seat_at facts one) ≡ false) × (is_topscorer facts (seat_at facts other) ≡ false)

-- what stands against a meeting of two: they have played in that round and in none before it, or both have absolute preferences for one
-- colour and neither is a topscorer [C.1, C.3; own]
abbrev pub StandsAgainstMeeting : Sheet → Facts → ℕ → ℕ → Obstacle → Type 0
StandsAgainstMeeting sheet facts one other (Met round) = HaveMetFirst sheet (seat_at facts one).start (seat_at facts other).start round
StandsAgainstMeeting sheet facts one other Apart = apart sheet (seat_at facts one).start (seat_at facts other).start ≡ true
StandsAgainstMeeting sheet facts one other Colours = ColoursClash facts one other
StandsAgainstMeeting sheet facts one other Absent = ⊥
StandsAgainstMeeting sheet facts one other (HadBye round) = ⊥
StandsAgainstMeeting sheet facts one other Even = ⊥

-- what stands against the bye of a seat: its player may not have it, since they had it, or a point without a game, in that round and in none
-- before it; or nobody has it [C.2; own]
abbrev pub StandsAgainstBye : Sheet → Facts → List ℕ → ℕ → Obstacle → Type 0
StandsAgainstBye sheet facts bye seat (HadBye round) = ((seat_at facts seat).may_bye ≡ false) × HadByeFirst sheet (seat_at facts seat).start round
StandsAgainstBye sheet facts bye seat Even = ((seat_at facts seat).may_bye ≡ true) × (bye ≡ [])
StandsAgainstBye sheet facts bye seat Absent = ⊥
StandsAgainstBye sheet facts bye seat (Met round) = ⊥
StandsAgainstBye sheet facts bye seat Apart = ⊥
StandsAgainstBye sheet facts bye seat Colours = ⊥

-- ---- where it is decided

-- in none of some brackets that keep their pairs do both of two stand [with IsDecidedIn]
abbrev pub ShareNone : List Stage → ℕ → ℕ → Type 0
ShareNone stages player other = (stage : Stage) → IsIn stage stages → keeps_both player other stage ≡ false

-- a bracket is the first of some that keeps its pairs in which both of two stand, and the wish is that they meet in it [with IsDecidedIn]
pub record MeetInFirst (stages : List Stage) (player other : ℕ) (stage : Stage) (wish : Wish) : Type 0 where
  pub front : List Stage
  pub behind : List Stage
  pub split : stages ≡ front ++ stage ∷ behind
  pub none_before : ShareNone front player other
  pub keeps_pairs : stage.again ≡ false
  pub both_stand : (stands_in player stage ≡ true) × (stands_in other stage ≡ true)
  pub wished : wish ≡ Pair (number_in stage player) (number_in stage other)

-- a bracket is the last of some in which a seat stands: the seat stands in it, and in none behind it [with IsDecidedIn]
pub record IsLastOf (seat : ℕ) (stage : Stage) (behind : List Stage) : Type 0 where
  pub stands_here : stands_in seat stage ≡ true
  pub none_behind : stands_in_one behind seat ≡ false

-- a seat is that of the player, or of who is asked for; the bye has none [with IsDecidedIn]
abbrev pub IsOneOf : ℕ → Rival → ℕ → Type 0
IsOneOf player Bye seat = seat ≡ player
IsOneOf player (Seat other) seat = (seat ≡ player) ⊎ (seat ≡ other)

-- whose last bracket it is, while each of the two stands in it or in one behind it: one of the two, and the player, where it is that of both
-- [with IsDecidedIn]
pub record IsSettledIn (player : ℕ) (rival : Rival) (stage : Stage) (behind : List Stage) (settled : ℕ) : Type 0 where
  pub one : IsOneOf player rival settled
  pub last : IsLastOf settled stage behind
  pub player_first : stands_in_one behind player ≡ false → settled ≡ player
  pub both_come : (stands_in_one (stage ∷ behind) player && goes_on (stage ∷ behind) rival) ≡ true

-- a bracket is the first of the last brackets of the two, and the wish is that the one whose last it is goes down in it [with IsDecidedIn]
pub record GoesDownInFirst (stages : List Stage) (player : ℕ) (rival : Rival) (stage : Stage) (wish : Wish) : Type 0 where
  pub front : List Stage
  pub behind : List Stage
  pub split : stages ≡ front ++ stage ∷ behind
  pub settled : ℕ
  pub ends : IsSettledIn player rival stage behind settled
  pub wished : wish ≡ LeftOver (number_in stage settled)

-- where it is decided, and what is wished there: in the first bracket that keeps its pairs in which both stand, that they meet; where there
-- is none, in the first of the last brackets of the two, that the one whose last it is goes down; of a player who asks for the bye, in the
-- player's own last one, that the player is left over [own]
abbrev pub IsDecidedIn : List Stage → ℕ → Rival → Stage → Wish → Type 0
IsDecidedIn stages player Bye stage wish = GoesDownInFirst stages player Bye stage wish
IsDecidedIn stages player (Seat other) stage wish =
    MeetInFirst stages player other stage wish ⊎ (ShareNone stages player other × GoesDownInFirst stages player (Seat other) stage wish)

-- ---- why none grants a wish

-- a legal candidate (C.1 to C.3) of a stage's bracket, with as many pairs as it has to make and so many moved-down players in them [with
-- NoneCanBeChosen]
pub record IsLegalWith (facts : Facts) (stage : Stage) (mdps : ℕ) (a : Arrangement) : Type 0 where
  pub room : Fits (frame_of facts stage.reached) (with_mdps stage.shape mdps)
  pub legal : IsIn a (candidates_of facts stage.reached (with_mdps stage.shape mdps))

-- one with no fewer moved-down players than the bracket has to pair grants the wish, but none of these that can be chosen does [C.4; own]
pub record NoneCanBeChosen (facts : Facts) (stage : Stage) (wish : Wish) : Type 0 where
  pub candidate : Arrangement
  pub mdps : ℕ
  pub no_fewer : stage.shape.mdps ≤ mdps
  pub legal : IsLegalWith facts stage mdps candidate
  pub grants_it : grants wish candidate ≡ true
  pub none : (many : ℕ) (a : Arrangement) → stage.shape.mdps ≤ many → IsLegalWith facts stage many a
      → can_be_chosen facts stage.reached (lower_of facts stage.reached) a ≡ true → grants wish a ≡ false

-- one with fewer moved-down players than the bracket has to pair grants the wish, but none with as many does [B.1; own]
pub record NoneWithAsManyMovedDown (facts : Facts) (stage : Stage) (wish : Wish) : Type 0 where
  pub candidate : Arrangement
  pub mdps : ℕ
  pub fewer : mdps < stage.shape.mdps
  pub legal : IsLegalWith facts stage mdps candidate
  pub grants_it : grants wish candidate ≡ true
  pub none : (a : Arrangement) → IsLegalWith facts stage stage.shape.mdps a → grants wish a ≡ false

-- none with as many pairs grants the wish, whatever moved-down players are in them [C.5; own]
abbrev pub NoneWithAsManyPairs : Facts → Stage → Wish → Type 0
NoneWithAsManyPairs facts stage wish = (mdps : ℕ) (a : Arrangement) → IsLegalWith facts stage mdps a → grants wish a ≡ false
