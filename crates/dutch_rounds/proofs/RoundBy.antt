-- The round from a bracket on, for any choice in it: the form in which laws of it go by cases on the choice.
use Rattle.std.proofs.Common.{ℕ, ◌+◌, List, ◌++◌}
use Rattle.std.specs.Prelude.{if◌then◌else◌, Option}
use Rattle.dutch_player.specs.Prelude.{Facts}
use Rattle.dutch_bracket.specs.declared.reached.BracketKind.TheVariants.{Collapsed}
use Rattle.dutch_bracket.specs.Prelude.{Reached, Choice, bracket, completable, downfloaters}
use Rattle.dutch_rounds.specs.Prelude.{Round, by_choice, ending, final_bracket, paired_again, pairing_in, passing, penultimate_bracket}

module _ (facts : Facts) where
  abbrev pub final_by : Reached → Option Choice → Round
  final_by reached found = by_choice facts found (λ chosen. pairing_in facts reached chosen (ending facts (downfloaters facts reached chosen.lists)))

  abbrev pub penultimate_by : Reached → List ℕ → Option Choice → Round
  penultimate_by reached lower found =
      by_choice facts found
      (λ chosen. pairing_in facts reached chosen (final_bracket facts (bracket (reached.number + 1) Collapsed (downfloaters facts reached chosen.lists) lower)))

  abbrev pub ordinary_by : Reached → List ℕ → (List ℕ → Round) → Option Choice → Round
  ordinary_by reached lower goes_on found =
      by_choice facts found
      (λ chosen.
      if completable facts (downfloaters facts reached chosen.lists ++ lower)
      then pairing_in facts reached chosen (goes_on (downfloaters facts reached chosen.lists))
      else passing facts reached chosen (penultimate_bracket facts (paired_again reached) lower))
