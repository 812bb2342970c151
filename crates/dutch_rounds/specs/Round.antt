-- The pairing of a round, scoregroup by scoregroup (C.04.3 A.3, A.9, B.8).
use Rattle.std.specs.Prelude.{ℕ, ◌+◌, Bool, true, false, if◌then◌else◌, List, [], ◌∷◌, ◌++◌, length, Option, Some, None, option_map}
use Rattle.std.specs.List.{concat}
use Rattle.dutch_arrangements.specs.declared.bracket.Shape.{Shape}
use Rattle.dutch_arrangements.specs.Prelude.{numbers_from, Arrangement}
use Rattle.dutch_player.specs.Prelude.{Facts}
use Rattle.dutch_bracket.specs.declared.reached.BracketKind.TheVariants.{Ordinary, Last, Penultimate, Collapsed}
use Rattle.dutch_bracket.specs.Prelude.{Reached, all_pairs, Choice, bracket, choice, completable, downfloaters, scoregroups}

-- a bracket that was reached, its shape, the arrangement that is chosen in it, and whether it is an ordinary one that is paired again,
-- whose pairs are then given up [A.9, B.8; own]
pub record Visit : Type 0 where
  pub bracket : Reached
  pub shape : Shape
  pub lists : Arrangement
  pub again : Bool

-- the pairs of a round by seat, and the seat that has the bye, if one has [with Round]
pub record Pairing : Type 0 where
  pub pairs : List (ℕ × ℕ)
  pub bye : List ℕ

-- the brackets that a round reaches, and its pairing, if there is one [A.9]
pub record Round : Type 0 where
  pub reached : List Visit
  pub pairing : Option Pairing

-- a bracket that is paired again as the penultimate one
abbrev pub paired_again : Reached → Reached
paired_again reached = record { number = reached.number + 1; kind = Penultimate; mdps = reached.mdps; seats = reached.seats }

module _ (facts : Facts) where
  -- all present players by rank [A.2]
  abbrev pub everybody : List ℕ
  everybody = numbers_from 0 (length facts.seats)

  -- there is no pairing, and no bracket from here on
  abbrev pub no_pairing : Round
  no_pairing = record { reached = []; pairing = None }

  -- a bracket that is passed before the rest of a round, without its pairs; it stays among those reached (our own choice)
  abbrev pub passing : Reached → Choice → Round → Round
  passing reached choice rest = record {
    reached = record { bracket = reached; shape = choice.shape; lists = choice.lists; again = true } ∷ rest.reached;
    pairing = rest.pairing;
  }

  -- a bracket before the rest of a round, with its pairs
  abbrev pub pairing_in : Reached → Choice → Round → Round
  pairing_in reached choice rest = record {
    reached = record { bracket = reached; shape = choice.shape; lists = choice.lists; again = false } ∷ rest.reached;
    pairing = option_map (λ later. record { pairs = all_pairs reached.seats choice.lists ++ later.pairs; bye = later.bye }) rest.pairing;
  }

  -- the end of a round: who is left over has the bye
  abbrev pub ending : List ℕ → Round
  ending left = record { reached = []; pairing = Some (record { pairs = []; bye = left }) }

  -- how a round goes on from a bracket by what is chosen in it; where nothing can be chosen there is no pairing [A.9]
  abbrev pub by_choice : Option Choice → (Choice → Round) → Round
  by_choice None goes_on = no_pairing
  by_choice (Some chosen) goes_on = goes_on chosen

  -- the last bracket, or the collapsed one: it keeps its pairs and ends the round, and who is left over has the bye [A.9, C.2]
  abbrev pub final_bracket : Reached → Round
  final_bracket reached =
      by_choice (choice facts reached []) (λ chosen. pairing_in reached chosen (ending (downfloaters facts reached chosen.lists)))

  -- the penultimate bracket: it keeps its pairs, which C.4 allows, and those whom it leaves over make the collapsed bracket with all lower
  -- players [A.9, C.4]
  abbrev pub penultimate_bracket : Reached → List ℕ → Round
  penultimate_bracket reached lower =
      by_choice (choice facts reached lower)
      (λ chosen. pairing_in reached chosen (final_bracket (bracket (reached.number + 1) Collapsed (downfloaters facts reached chosen.lists) lower)))

  -- an ordinary bracket: if those whom it leaves over can be paired out with all lower players, it keeps its pairs and the round goes on
  -- with them; else the same players are paired again, under the next number, as the penultimate one [A.9]
  abbrev pub ordinary_bracket : Reached → List ℕ → (List ℕ → Round) → Round
  ordinary_bracket reached lower goes_on =
      by_choice (choice facts reached lower)
      (λ chosen.
      if completable facts (downfloaters facts reached chosen.lists ++ lower)
      then pairing_in reached chosen (goes_on (downfloaters facts reached chosen.lists))
      else passing reached chosen (penultimate_bracket (paired_again reached) lower))

  -- the brackets from a number on, for those moved down and the scoregroups to come: ordinary ones, and the last where no scoregroup stands
  -- below [A.3]
  abbrev pub brackets : ℕ → List ℕ → List (List ℕ) → Round
  brackets number moved_down [] = ending moved_down
  brackets number moved_down (group ∷ []) = final_bracket (bracket number Last moved_down group)
  brackets number moved_down (group ∷ next ∷ groups) =
      ordinary_bracket (bracket number Ordinary moved_down group) (concat (next ∷ groups)) (λ left. brackets (number + 1) left (next ∷ groups))

  -- the brackets from number 1 on if all present players can be paired out; else no pairing, and no bracket [A.9]
  abbrev pub round : Round
  round = if completable facts everybody then brackets 1 [] (scoregroups facts everybody) else no_pairing
