-- The texts of a bracket and its candidates, by start ranks.
use Rattle.std.specs.Prelude.{ℕ, if◌then◌else◌, List, [], ◌∷◌, ◌++◌, codes}
use Rattle.std.specs.List.{flat_map}
use Rattle.std.specs.Fmt.{decimal}
use Rattle.dutch_arrangements.specs.Prelude.{Arrangement, down, cursor_text, Candidate}
use Rattle.dutch_arrangements.specs.declared.bracket.Shape.{Shape}
use Rattle.dutch_player.specs.Prelude.{Facts, seat_at}
use Rattle.dutch_bracket.specs.Prelude.{Reached, frame_of, is_number, seat_of}
use Rattle.dutch_bracket.specs.declared.reached.BracketKind.{BracketKind}
use Rattle.dutch_bracket.specs.declared.reached.BracketKind.TheVariants.{Ordinary, Last, Penultimate, Collapsed}

-- what a bracket is for the round
abbrev pub kind_text : BracketKind → List ℕ
kind_text Ordinary = codes "ordinary"
kind_text Last = codes "last"
kind_text Penultimate = codes "penultimate"
kind_text Collapsed = codes "collapsed"

-- what a bracket is for the round, at the end of its first sentence
abbrev pub kind_words : BracketKind → List ℕ
kind_words Ordinary = codes "."
kind_words Last = codes ", the last one."
kind_words Penultimate = codes ", the penultimate one."
kind_words Collapsed = codes ", the collapsed one."

-- the bracket of a number: its kind, how many pairs it makes, and how many moved-down players are in them [own]
unfoldable pub bracket_text : ℕ → BracketKind → Shape → List ℕ
bracket_text number kind shape =
    codes "bracket " ++ (decimal number ++ (codes " " ++ (kind_text kind ++ (codes " pairs " ++ (decimal shape.pairs ++ (codes " mdps " ++ (decimal shape.mdps ++ codes "\n")))))))

-- the same in a sentence [with bracket_text]
unfoldable pub bracket_words : ℕ → BracketKind → Shape → List ℕ
bracket_words number kind shape =
    codes "Bracket " ++ (decimal number ++ (kind_words kind ++ (codes " Pairs: " ++ (decimal shape.pairs ++ (codes ". Moved-down players in them: " ++ (decimal shape.mdps ++ codes ".\n"))))))

-- the start rank of a seat
abbrev pub rank_text : Facts → ℕ → List ℕ
rank_text facts seat = decimal (seat_at facts seat).start

module _ (facts : Facts) (reached : Reached) where
  -- the start rank of a number of a bracket; 0 for a number that is none of its
  abbrev pub start_of : ℕ → ℕ
  start_of number = if is_number reached number then (seat_at facts (seat_of reached.seats number)).start else 0

  -- two who are paired
  abbrev pub pair_text : ℕ → ℕ → List ℕ
  pair_text first second = codes " " ++ (decimal (start_of first) ++ (codes "-" ++ decimal (start_of second)))

  -- the pairs of two lists, place by place
  abbrev pub pairs_text : List ℕ → List ℕ → List ℕ
  pairs_text [] seconds = []
  pairs_text (first ∷ firsts) [] = []
  pairs_text (first ∷ firsts) (second ∷ seconds) = pair_text first second ++ pairs_text firsts seconds

  -- those who are left over
  abbrev pub down_text : List ℕ → List ℕ
  down_text [] = []
  down_text (number ∷ numbers) = codes " down" ++ flat_map (λ n. codes " " ++ decimal (start_of n)) (number ∷ numbers)

  -- a candidate with those whom it leaves over [own]
  unfoldable pub candidate_text : Candidate → List ℕ
  candidate_text candidate =
      cursor_text candidate.lists ++ (pairs_text candidate.lists.s1 candidate.lists.s2 ++ (pairs_text candidate.lists.s1r candidate.lists.s2r ++ (down_text candidate.down ++ codes "\n")))

  -- the line of a candidate: its cursor, its pairs by start ranks, and its downfloaters by rank [with candidate_text]
  abbrev pub line_text : Arrangement → List ℕ
  line_text lists = candidate_text (record { lists = lists; down = down (frame_of facts reached) lists })
