-- The line that tells why a player does not meet another one in the next round, or does not have the bye; as codes, and as a sentence.
use Rattle.std.specs.Prelude.{ℕ, ◌==◌, if◌then◌else◌, List, [], ◌++◌, Option, Some, None, codes}
use Rattle.std.specs.Fmt.{decimal}
use Rattle.dutch_bracket.specs.Prelude.{ends_round, quality_in, seat_of}
use Rattle.dutch_candidates.specs.declared.wish.Wish.{Wish}
use Rattle.dutch_candidates.specs.declared.wish.Wish.TheVariants.{Pair, LeftOver}
use Rattle.dutch_rounds.specs.declared.instead.Instead.{Instead}
use Rattle.dutch_rounds.specs.declared.instead.Instead.TheVariants.{Best, FewerMovedDown, NoneEligible, NoneLegal, Undecided}
use Rattle.dutch_rounds.specs.Stage.{Stage}
use Rattle.requests.specs.declared.options.Wording.{Wording}
use Rattle.round_lines.specs.Tellings.{TellingFacts, in_wording, player_words, seat_words}
use Rattle.round_lines.specs.ValueTexts.{candidate_text}

-- ---- what a search in a bracket finds

-- C.4: none that can be chosen grants the wish
abbrev pub none_c4_text : Wording → List ℕ
none_c4_text wording =
    in_wording wording (codes "none C.4")
    (codes "candidates with as many pairs and no fewer moved-down players in them allow it, but those whom they leave over could not all be paired below (C.4).")

-- B.1: none with as many moved-down players in as many pairs does
abbrev pub none_b1_text : Wording → List ℕ
none_b1_text wording =
    in_wording wording (codes "none B.1") (codes "no candidate that allows it makes as many pairs with as many moved-down players in them (B.1).")

-- C.5: none with as many pairs does
abbrev pub none_c5_text : Wording → List ℕ
none_c5_text wording = in_wording wording (codes "none C.5") (codes "no candidate that makes as many pairs allows it (C.5).")

-- what stands in front of the best candidate that grants it
abbrev pub best_front : Wording → List ℕ
best_front wording = in_wording wording [] (codes "the best candidate that allows it ")

-- what is found for a wish: the best candidate that grants it, or why there is none [own]
abbrev pub found_text : Wording → Stage → Instead → List ℕ
found_text wording stage (Best candidate quality) =
    best_front wording ++ candidate_text wording candidate.lists (quality_in quality) (quality_in stage.quality)
found_text wording stage NoneEligible = none_c4_text wording
found_text wording stage FewerMovedDown = none_b1_text wording
found_text wording stage NoneLegal = none_c5_text wording
found_text wording stage (Undecided used) = []

-- who would have to go down in a bracket, by seat: whoever is to be left over in one that does not end the round [with bracket_front]
abbrev pub would_go_down : Stage → Wish → Option ℕ
would_go_down stage (Pair p q) = None
would_go_down stage (LeftOver p) = if ends_round stage.reached.kind then None else Some (seat_of stage.reached.seats p)

-- a bracket in a sentence in front of what is found in it, where somebody would have to go down in it, or nobody [with bracket_front]
abbrev pub bracket_words : TellingFacts → ℕ → Option ℕ → List ℕ
bracket_words telling number None = codes "In bracket " ++ (decimal number ++ codes ", ")
bracket_words telling number (Some seat) =
    codes "For that, " ++ (seat_words telling seat ++ (codes " would have to go down in bracket " ++ (decimal number ++ codes ": ")))

-- a bracket in front of what is found in it, in a line or in a sentence [with bracket_front]
abbrev pub bracket_text : TellingFacts → ℕ → Option ℕ → List ℕ
bracket_text telling number down =
    in_wording telling.wording (codes "bracket " ++ (decimal number ++ codes " ")) (bracket_words telling number down)

-- a bracket in front of what is found in it for a wish: its number; in a sentence also who would have to go down in it, so that one knows
-- what is wished [own]
abbrev pub bracket_front : TellingFacts → Stage → Wish → List ℕ
bracket_front telling stage wish = bracket_text telling stage.reached.number (would_go_down stage wish)

-- ---- the line of a player, who asks for a number, 0 for the bye

module _ (telling : TellingFacts) (player number : ℕ) where
  -- the line that what is chosen grants it
  abbrev pub granted_line : List ℕ
  granted_line = codes "instead " ++ (decimal number ++ codes " chosen\n")

  -- the same in a sentence
  abbrev pub granted_words : List ℕ
  granted_words =
      if number == 0 then player_words telling.sheet player ++ codes " has the bye.\n"
      else player_words telling.sheet player ++ (codes " meets " ++ (player_words telling.sheet number ++ codes ".\n"))

  -- that what is chosen grants it, in a line or in a sentence [with found_text]
  abbrev pub granted_text : List ℕ
  granted_text = in_wording telling.wording granted_line granted_words

  -- that what is chosen does not grant it, in front of why
  abbrev pub front_line : List ℕ
  front_line = codes "instead " ++ (decimal number ++ codes " ")

  -- the same in a sentence
  abbrev pub front_words : List ℕ
  front_words =
      if number == 0 then player_words telling.sheet player ++ codes " does not get the bye. "
      else player_words telling.sheet player ++ (codes " does not meet " ++ (player_words telling.sheet number ++ codes ". "))

  -- that what is chosen does not grant it, in a line or in a sentence [with found_text]
  abbrev pub front_text : List ℕ
  front_text = in_wording telling.wording front_line front_words

  -- the same, and why
  abbrev pub instead_text : List ℕ → List ℕ
  instead_text why = front_text ++ (why ++ codes "\n")

  -- the same, by what a search in a bracket found for a wish
  abbrev pub in_bracket : Stage → Wish → Instead → List ℕ
  in_bracket stage wish found =
      front_text ++ (bracket_front telling stage wish ++ (found_text telling.wording stage found ++ codes "\n"))
