-- The text of `explain`: the brackets of the round one by one: who is in each, what is chosen, and what counts against that; each line as codes,
-- and as a sentence.
use Rattle.std.specs.Prelude.{ℕ, Bool, true, ◌||◌, ◌==◌, if◌then◌else◌, List, [], ◌∷◌, ◌++◌, Option, codes}
use Rattle.std.specs.List.{flat_map, list_any}
use Rattle.std.specs.Option.{option_map_or}
use Rattle.dutch_bracket.specs.Prelude.{Reached, Seated, by_seats, ends_round, seat_of}
use Rattle.dutch_rounds.specs.Prelude.{own_pairs}
use Rattle.dutch_rounds.specs.Stage.{Stage}
use Rattle.requests.specs.declared.options.Wording.{Wording}
use Rattle.round_lines.specs.CandidateTexts.{bracket_text, bracket_words, candidate_text, rank_text}
use Rattle.round_lines.specs.RoundTexts.{colours_text, members_text}
use Rattle.round_lines.specs.Tellings.{TellingFacts, in_wording, seat_words, seats_words}
use Rattle.stage_lines.specs.StageItems.{items_text}

-- C.4: a bracket is paired again
abbrev pub again_line : List ℕ
again_line = codes "again C.4\n"

-- the same in a sentence
abbrev pub again_words : List ℕ
again_words = codes "Those it leaves over could not all be paired with the players below, so it is paired again as the next bracket (C.4).\n"

-- ---- of whom it is told: of all, or of one seat

-- it is told of a seat
abbrev pub is_told : Option ℕ → ℕ → Bool
is_told whose seat = option_map_or (λ own. own == seat) whose true

-- it is told of a bracket: for one seat, of those in which it stands
abbrev pub is_bracket_told : Option ℕ → Reached → Bool
is_bracket_told whose reached = option_map_or (λ own. list_any (λ seat. seat == own) reached.seats) whose true

-- a bracket: its number, its kind and its shape
abbrev pub shape_text : Wording → Stage → List ℕ
shape_text wording stage =
    in_wording wording (bracket_text stage.reached.number stage.reached.kind stage.shape) (bracket_words stage.reached.number stage.reached.kind stage.shape)

module _ (telling : TellingFacts) where
  -- ---- what is chosen in it

  -- two who are paired, in a sentence
  abbrev pub pair_words : ℕ × ℕ → List ℕ
  pair_words pair = seat_words telling pair.0 ++ (codes " - " ++ seat_words telling pair.1)

  -- all pairs, in a sentence
  abbrev pub all_pairs_words : List (ℕ × ℕ) → List ℕ
  all_pairs_words [] = codes "none"
  all_pairs_words (pair ∷ others) = pair_words pair ++ flat_map (λ other. codes "; " ++ pair_words other) others

  -- those who go down, where there are some
  abbrev pub down_words : List ℕ → List ℕ
  down_words [] = []
  down_words (seat ∷ others) = codes " Down: " ++ (seats_words telling (seat ∷ others) ++ codes ".")

  -- the candidate that is chosen: its cursor, its pairs and those who go down
  abbrev pub candidate_line : Stage → List ℕ
  candidate_line stage = codes "chosen " ++ candidate_text telling.facts stage.reached stage.candidate

  -- the same in a sentence, without its cursor
  unfoldable pub candidate_words : Seated → List ℕ
  candidate_words seated = codes "Pairs: " ++ (all_pairs_words seated.pairs ++ (codes "." ++ (down_words seated.down ++ codes "\n")))

  -- what is chosen in a bracket, in a line or in a sentence
  abbrev pub choice_of_text : Stage → List ℕ
  choice_of_text stage =
      in_wording telling.wording (candidate_line stage) (candidate_words (by_seats telling.facts stage.reached.seats stage.candidate))

  -- one who is left over where the round ends
  unfoldable pub over_line : ℕ → List ℕ
  over_line seat = codes "bye " ++ (rank_text telling.facts seat ++ codes "\n")

  -- the same in a sentence
  unfoldable pub over_words : ℕ → List ℕ
  over_words seat = codes "Bye: " ++ (seat_words telling seat ++ codes ".\n")

  -- one who is left over where the round ends, in a line or in a sentence
  abbrev pub over_text : ℕ → List ℕ
  over_text seat = in_wording telling.wording (over_line seat) (over_words seat)

  -- ---- what of a bracket is told
  module _ (whose : Option ℕ) where
    -- pairs: all of them, or that of one player
    abbrev pub boards_text : List (ℕ × ℕ) → List ℕ
    boards_text pairs = flat_map (λ pair. if is_told whose pair.0 || is_told whose pair.1 then colours_text telling pair else []) pairs

    -- a bracket's own pairs, in the order of its candidate
    abbrev pub pairs_text : Stage → List ℕ
    pairs_text stage = boards_text (own_pairs stage)

    -- numbers of a bracket with these seats, whom it leaves over
    abbrev pub left_text : List ℕ → List ℕ → List ℕ
    left_text seats numbers = flat_map (λ number. if is_told whose (seat_of seats number) then over_text (seat_of seats number) else []) numbers

    -- those whom a bracket leaves over, if it ends the round
    abbrev pub byes_text : Stage → List ℕ
    byes_text stage = if ends_round stage.reached.kind then left_text stage.reached.seats stage.candidate.down else []

    -- what is chosen in a bracket, what counts against it, its boards and who is left over
    unfoldable pub chosen_text : Stage → List ℕ
    chosen_text stage = choice_of_text stage ++ (items_text telling stage ++ (pairs_text stage ++ byes_text stage))

    -- a bracket that is paired again for C.4, or what is chosen in it
    abbrev pub choice_text : Stage → List ℕ
    choice_text stage = if stage.again then in_wording telling.wording again_line again_words else chosen_text stage

    -- a bracket
    unfoldable pub stage_text : Stage → List ℕ
    stage_text stage = shape_text telling.wording stage ++ (members_text telling stage.reached ++ choice_text stage)

    -- the brackets that the round reaches: of each its first line, its players, and that it is paired again, or what is chosen in it; for
    -- one player only the brackets in which they stand [own]
    abbrev pub stages_text : List Stage → List ℕ
    stages_text stages = flat_map (λ stage. if is_bracket_told whose stage.reached then stage_text stage else []) stages
