-- The lines of a round, of the players of a bracket, and of a board; each as codes, and as a sentence.
use Rattle.std.specs.Prelude.{ℕ, zero, suc, ◌-◌, ◌/◌, List, [], ◌∷◌, ◌++◌, length, take, drop, codes}
use Rattle.std.specs.List.{flat_map}
use Rattle.std.specs.Fmt.{decimal}
use Rattle.dutch_player.specs.Prelude.{colours, colour_rule, preference, seat_at}
use Rattle.dutch_player.specs.declared.colour_rule.ColourRule.{ColourRule}
use Rattle.dutch_player.specs.declared.colour_rule.ColourRule.TheVariants.{BothPreferences, StrongerPreference, Alternation, HigherRank, InitialColour}
use Rattle.dutch_bracket.specs.Prelude.{Reached, score_at}
use Rattle.round_lines.specs.CandidateTexts.{rank_text}
use Rattle.round_lines.specs.PreferenceTexts.{prefers_words}
use Rattle.round_lines.specs.Tellings.{TellingFacts, in_wording, seat_words}
use Rattle.common_texts.specs.Prelude.{halves_text}

-- E: the rule that decided the colours of two
abbrev pub rule_text : ColourRule → List ℕ
rule_text BothPreferences = codes "E.1"
rule_text StrongerPreference = codes "E.2"
rule_text Alternation = codes "E.3"
rule_text HigherRank = codes "E.4"
rule_text InitialColour = codes "E.5"

-- the same in a sentence
abbrev pub rule_words : ColourRule → List ℕ
rule_words BothPreferences = codes "Each gets the colour they prefer (E.1)."
rule_words StrongerPreference = codes "The stronger preference is granted (E.2)."
rule_words Alternation = codes "Colours change from the last game, counted back, in which they differed (E.3)."
rule_words HigherRank = codes "The higher-ranked player gets the colour they prefer (E.4)."
rule_words InitialColour = codes "Nobody prefers a colour: the higher-ranked player's start rank and the initial colour decide (E.5)."

-- what parts those who were moved down from the residents, where there are some
abbrev pub bar_text : ℕ → List ℕ
bar_text zero = []
bar_text (suc more) = codes " |"

module _ (telling : TellingFacts) where
  -- ---- the round

  -- how many players are absent
  abbrev pub absent_players : ℕ
  absent_players = length telling.sheet.players - length telling.facts.seats

  -- how many boards there are: half of those present who have no bye
  abbrev pub boards : List ℕ → ℕ
  boards bye = (length telling.facts.seats - length bye) / 2

  -- the round: its number and the total of rounds, how many players are present and how many absent, and how many boards there are
  unfoldable pub counts_line : List ℕ → List ℕ
  counts_line bye =
      codes "round " ++ (decimal telling.facts.round ++ (codes " of " ++ (decimal telling.facts.total ++ (codes " present "
      ++ (decimal (length telling.facts.seats) ++ (codes " absent " ++ (decimal absent_players ++ (codes " boards " ++ decimal (boards bye)))))))))

  -- the same in sentences
  unfoldable pub counts_words : List ℕ → List ℕ
  counts_words bye =
      codes "Round " ++ (decimal telling.facts.round ++ (codes " of " ++ (decimal telling.facts.total ++ (codes ". Present: "
      ++ (decimal (length telling.facts.seats) ++ (codes ". Absent: " ++ (decimal absent_players ++ (codes ". Boards: " ++ (decimal (boards bye) ++ codes ".")))))))))

  -- who has the bye
  abbrev pub bye_text : ℕ → List ℕ
  bye_text seat = in_wording telling.wording (codes " bye " ++ rank_text telling.facts seat) (codes " Bye: " ++ (seat_words telling seat ++ codes "."))

  -- the first line: the round and the total, how many players are present and how many absent, and the boards; then who has the bye [own]
  unfoldable pub round_text : List ℕ → List ℕ
  round_text bye = in_wording telling.wording (counts_line bye) (counts_words bye) ++ (flat_map bye_text bye ++ codes "\n")

  -- ---- a bracket

  -- a player and their score
  unfoldable pub scored_text : ℕ → List ℕ
  scored_text seat = codes " " ++ (rank_text telling.facts seat ++ (codes " (" ++ (halves_text (score_at telling.facts seat) ++ codes ")")))

  -- the same in a sentence
  unfoldable pub scored_words : ℕ → List ℕ
  scored_words seat = seat_words telling seat ++ (codes " (" ++ (halves_text (score_at telling.facts seat) ++ codes ")"))

  -- players and their scores, in a sentence
  abbrev pub all_scored_words : List ℕ → List ℕ
  all_scored_words [] = codes "none"
  all_scored_words (seat ∷ others) = scored_words seat ++ flat_map (λ other. codes "; " ++ scored_words other) others

  -- those who were moved down, where there are some
  abbrev pub moved_words : List ℕ → List ℕ
  moved_words [] = []
  moved_words (seat ∷ others) = codes "Moved down: " ++ (all_scored_words (seat ∷ others) ++ codes ". ")

  -- the players of a bracket: those who were moved down, then the residents
  unfoldable pub members_line : Reached → List ℕ
  members_line reached =
      codes "players" ++ (flat_map scored_text (take reached.mdps reached.seats) ++ (bar_text reached.mdps
      ++ (flat_map scored_text (drop reached.mdps reached.seats) ++ codes "\n")))

  -- the same in a sentence
  unfoldable pub members_words : Reached → List ℕ
  members_words reached =
      moved_words (take reached.mdps reached.seats) ++ (codes "Residents: " ++ (all_scored_words (drop reached.mdps reached.seats) ++ codes ".\n"))

  -- the players of a bracket with their scores, those who were moved down first [with round_text]
  abbrev pub members_text : Reached → List ℕ
  members_text reached = in_wording telling.wording (members_line reached) (members_words reached)

  -- ---- a board

  -- a pair: who has white, who has black, and the rule that decided
  unfoldable pub colours_line : ℕ × ℕ → List ℕ
  colours_line pair =
      codes "board " ++ (rank_text telling.facts (colours telling.facts pair.0 pair.1).0
      ++ (codes " " ++ (rank_text telling.facts (colours telling.facts pair.0 pair.1).1
      ++ (codes " " ++ (rule_text (colour_rule telling.facts pair.0 pair.1) ++ codes "\n")))))

  -- a player and the colour they prefer (A.6)
  abbrev pub preferring_words : ℕ → List ℕ
  preferring_words seat = seat_words telling seat ++ prefers_words (preference (seat_at telling.facts seat).played)

  -- the same in a sentence, with what both prefer
  unfoldable pub colours_words : ℕ × ℕ → List ℕ
  colours_words pair =
      codes "White: " ++ (preferring_words (colours telling.facts pair.0 pair.1).0
      ++ (codes ". Black: " ++ (preferring_words (colours telling.facts pair.0 pair.1).1
      ++ (codes ". " ++ (rule_words (colour_rule telling.facts pair.0 pair.1) ++ codes "\n")))))

  -- a board: who has white, who has black, and the rule of article E that decided [with round_text]
  abbrev pub colours_text : ℕ × ℕ → List ℕ
  colours_text pair = in_wording telling.wording (colours_line pair) (colours_words pair)
