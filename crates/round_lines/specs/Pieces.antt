-- The pieces of which lines and sentences are put together: a model that carries how they are put. No text is defined by it.
use Rattle.std.specs.Prelude.{List, [], ◌∷◌, ◌++◌, ℕ, codes}
use Rattle.std.specs.List.{flat_map}
use Rattle.std.specs.Fmt.{decimal}
use Rattle.requests.specs.declared.options.Wording.TheVariants.{Words}
use Rattle.round_lines.specs.CandidateTexts.{rank_text}
use Rattle.round_lines.specs.ItemTexts.{differences_text, points_text}
use Rattle.round_lines.specs.RoundTexts.{all_scored_words, preferring_words, scored_text}
use Rattle.round_lines.specs.Tellings.{TellingFacts, player_words, players_words, seat_words, seats_words}
use Rattle.round_lines.specs.declared.pieces.Piece.{Piece}
use Rattle.round_lines.specs.declared.pieces.Piece.TheVariants.{Text, Number, Count, Points, Rank, Ranks, Scored, Differences}
use Rattle.round_lines.specs.declared.pieces.Piece.TheVariants.{Player, Players, Seat, Seats, Preferring, ScoredSeats, DifferencesWords}
use Rattle.common_texts.specs.Prelude.{halves_text}

module _ (telling : TellingFacts) where
  -- a piece
  abbrev pub piece_text : Piece → List ℕ
  piece_text (Text text) = text.now
  piece_text (Number number) = decimal number
  piece_text (Count count) = decimal count
  piece_text (Points halves) = halves_text halves
  piece_text (Rank seat) = rank_text telling.facts seat
  piece_text (Ranks seats) = flat_map (λ seat. codes " " ++ rank_text telling.facts seat) seats.now
  piece_text (Scored seats) = flat_map (scored_text telling) seats.now
  piece_text (Differences differences) = differences_text differences.now
  piece_text (Player start) = player_words telling.sheet start
  piece_text (Players starts) = players_words telling.sheet starts.now
  piece_text (Seat seat) = seat_words telling seat
  piece_text (Seats seats) = seats_words telling seats.now
  piece_text (Preferring seat) = preferring_words telling seat
  piece_text (ScoredSeats seats) = all_scored_words telling seats.now
  piece_text (DifferencesWords differences) = points_text Words differences.now

  -- pieces of a line or a sentence, one behind the other; no text is defined by it [with TellingFacts]
  abbrev pub pieces_text : List Piece → List ℕ
  pieces_text [] = []
  pieces_text (piece ∷ []) = piece_text piece
  pieces_text (piece ∷ other ∷ more) = piece_text piece ++ pieces_text (other ∷ more)
