-- How a round is told: of which report and field, and whether its lines are codes or sentences, in which players have their names.
use Rattle.std.specs.Prelude.{ℕ, if◌then◌else◌, List, [], ◌∷◌, ◌++◌, map, codes}
use Rattle.std.specs.List.{flat_map}
use Rattle.std.specs.Fmt.{decimal}
use Rattle.std.specs.Str.{bytes_eq}
use Rattle.trf16_report.specs.Prelude.{name_in, Sheet}
use Rattle.dutch_player.specs.Prelude.{Facts, seat_at}
use Rattle.requests.specs.declared.options.Wording.{Wording}
use Rattle.requests.specs.declared.options.Wording.TheVariants.{Plain, Words}
use Rattle.common_texts.specs.Prelude.{name_or_dash}

-- a round as it is told: its report, those whom it is paired from, and how the lines are worded [own]
pub record TellingFacts : Type 0 where
  pub sheet : Sheet
  pub facts : Facts
  pub wording : Wording

-- the plain line, or the sentence, as the wording says [with TellingFacts]
abbrev pub in_wording : Wording → List ℕ → List ℕ → List ℕ
in_wording Plain line words = line
in_wording Words line words = words

-- ---- players in a sentence

-- a start rank, and behind it a name as it is shown; a dash is no name
abbrev pub rank_and_name : ℕ → List ℕ → List ℕ
rank_and_name start name = if bytes_eq name (codes "-") then decimal start else decimal start ++ (codes " " ++ name)

module _ (sheet : Sheet) where
  -- a player in a sentence: the start rank, and behind it the name as it is shown, if there is one [own]
  abbrev pub player_words : ℕ → List ℕ
  player_words start = rank_and_name start (name_or_dash (name_in sheet start))

  -- players in a sentence, by start ranks, with semicolons between them, and none for nobody [with player_words]
  abbrev pub players_words : List ℕ → List ℕ
  players_words [] = codes "none"
  players_words (start ∷ others) = player_words start ++ flat_map (λ other. codes "; " ++ player_words other) others

module _ (telling : TellingFacts) where
  -- a player, by seat [with player_words]
  abbrev pub seat_words : ℕ → List ℕ
  seat_words seat = player_words telling.sheet (seat_at telling.facts seat).start

  -- players, by seats [with player_words]
  abbrev pub seats_words : List ℕ → List ℕ
  seats_words seats = players_words telling.sheet (map (λ seat. (seat_at telling.facts seat).start) seats)
