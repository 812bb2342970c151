-- What a player brings to the next round: in one line, or in five sentences. Each part has its text in either wording.
use Rattle.std.specs.Prelude.{ℕ, zero, suc, ◌+◌, Bool, true, false, ◌==◌, nat_lt, if◌then◌else◌, List, [], ◌∷◌, ◌++◌, Option, Some, None, codes, ℤ, pos, int_lt}
use Rattle.std.specs.List.{flat_map}
use Rattle.std.specs.Fmt.{decimal, signed_decimal}
use Rattle.trf16_report.specs.Prelude.{cell_in, rounds_played}
use Rattle.trf16_report.specs.declared.cell.Colour.{Colour}
use Rattle.trf16_report.specs.declared.cell.Colour.TheVariants.{White, Black}
use Rattle.dutch_player.specs.declared.float.Float.{Float}
use Rattle.dutch_player.specs.declared.float.Float.TheVariants.{Up, Down}
use Rattle.dutch_player.specs.Prelude.{SeatFacts, seat_at, colour_played, is_topscorer, difference, preference}
use Rattle.requests.specs.declared.options.Wording.{Wording}
use Rattle.round_lines.specs.PreferenceTexts.{preference_text, preference_words}
use Rattle.round_lines.specs.Tellings.{TellingFacts, in_wording, player_words, players_words}
use Rattle.common_texts.specs.Prelude.{halves_text}

-- a number put to its place among ascending ones, where it does not stand among them
abbrev pub with_number : ℕ → List ℕ → List ℕ
with_number n [] = n ∷ []
with_number n (first ∷ rest) = if n == first then first ∷ rest else (if nat_lt n first then n ∷ first ∷ rest else first ∷ with_number n rest)

-- some numbers, ascending and each once
abbrev pub ascending_numbers : List ℕ → List ℕ
ascending_numbers [] = []
ascending_numbers (n ∷ rest) = with_number n (ascending_numbers rest)

-- start ranks, each behind a blank; a dash for none
abbrev pub starts_text : List ℕ → List ℕ
starts_text [] = codes " -"
starts_text (start ∷ starts) = flat_map (λ other. codes " " ++ decimal other) (start ∷ starts)

-- what parts a game from what stands before it, by how many games do
abbrev pub mark_text : Wording → ℕ → List ℕ
mark_text wording zero = codes " "
mark_text wording (suc before) = in_wording wording (codes " ") (codes ", ")

-- the colour of a game that was played; that none was
abbrev pub played_text : Wording → Option Colour → List ℕ
played_text wording (Some White) = in_wording wording (codes "w") (codes "white")
played_text wording (Some Black) = in_wording wording (codes "b") (codes "black")
played_text wording None = in_wording wording (codes ".") (codes "none")

-- the same behind the games of the rounds before it, so many
unfoldable pub game_text : Wording → ℕ → Option Colour → List ℕ
game_text wording before played = mark_text wording before ++ played_text wording played

-- what stands before a number with its sign, where it is above 0
abbrev pub plus_text : ℤ → List ℕ
plus_text games = if int_lt (pos 0) games then codes "+" else []

-- A.4: the float of a round
abbrev pub float_text : Option Float → List ℕ
float_text (Some Up) = codes "up"
float_text (Some Down) = codes "down"
float_text None = codes "none"

-- yes or no
abbrev pub yes_text : Bool → List ℕ
yes_text true = codes "yes"
yes_text false = codes "no"

module _ (telling : TellingFacts) (seat : ℕ) where
  -- what is known of the player of a seat
  abbrev pub player : SeatFacts
  player = seat_at telling.facts seat

  -- A.2: who a player is, and their score
  abbrev pub score_text : List ℕ
  score_text =
      in_wording telling.wording (codes "player " ++ (decimal player.start ++ (codes " score " ++ halves_text player.score)))
      (player_words telling.sheet player.start ++ (codes " has " ++ (halves_text player.score ++ codes " points.\n")))

  -- A.6: the colours of a player's games in so many rounds from the first on
  abbrev pub games_text : ℕ → List ℕ
  games_text zero = []
  games_text (suc rounds) = games_text rounds ++ game_text telling.wording rounds (colour_played (cell_in telling.sheet player.start (rounds + 1)))

  -- the same in all rounds that were paired; that there was none
  abbrev pub all_games_text : List ℕ
  all_games_text =
      if rounds_played telling.sheet == 0 then in_wording telling.wording (codes " -") (codes " none") else games_text (rounds_played telling.sheet)

  -- A.6: a player's colour difference, with its sign where it is not 0, which a line alone has
  abbrev pub difference_text : List ℕ
  difference_text =
      in_wording telling.wording (codes " difference " ++ (plus_text (difference player.played) ++ signed_decimal (difference player.played))) []

  -- A.6: the colour that a player prefers
  abbrev pub prefers_text : List ℕ
  prefers_text =
      in_wording telling.wording (codes " prefers " ++ preference_text (preference player.played))
      (codes ". Preference: " ++ (preference_words (preference player.played) ++ codes ".\n"))

  -- A.6: a player's colours, and what they come to
  abbrev pub colours_text : List ℕ
  colours_text = in_wording telling.wording (codes " colours") (codes "Colours so far:") ++ (all_games_text ++ (difference_text ++ prefers_text))

  -- A.4: the floats of the last round and of the one before it
  abbrev pub floats_text : List ℕ
  floats_text =
      in_wording telling.wording (codes " floats " ++ (float_text player.latest ++ (codes " " ++ float_text player.earlier)))
      (codes "Floats: " ++ (float_text player.latest ++ (codes " in the last round, " ++ (float_text player.earlier ++ codes " in the round before.\n"))))

  -- C.1: those whom a player has met, by start rank
  abbrev pub met_text : List ℕ
  met_text =
      in_wording telling.wording (codes " met" ++ starts_text (ascending_numbers player.opponents))
      (codes "Has met: " ++ (players_words telling.sheet (ascending_numbers player.opponents) ++ codes ".\n"))

  -- A.7, C.2: whether a player is a topscorer, and whether they may have the bye
  abbrev pub rights_text : List ℕ
  rights_text =
      let topscorer = yes_text (is_topscorer telling.facts player) in
      let bye = yes_text player.may_bye in
      in_wording telling.wording (codes " topscorer " ++ (topscorer ++ (codes " bye " ++ (bye ++ codes "\n"))))
      (codes "Topscorer: " ++ (topscorer ++ (codes ". May have the bye: " ++ (bye ++ codes ".\n"))))

  -- what a present player brings to the round, in a line or in five sentences: score, colours and preference, floats of the last two rounds,
  -- whom they have met, and whether they are a topscorer and may have the bye [own]
  unfoldable pub player_text : List ℕ
  player_text = score_text ++ (colours_text ++ (floats_text ++ (met_text ++ rights_text)))

-- that a player is absent, in a line or in a sentence [with player_text]
abbrev pub absent_text : TellingFacts → ℕ → List ℕ
absent_text telling start =
    in_wording telling.wording (codes "player " ++ (decimal start ++ codes " absent\n")) (player_words telling.sheet start ++ codes " is absent.\n")
