-- What a choice in a bracket answers (C.04.3 B.8).
use Rattle.std.specs.Prelude.{◌≡◌, Some}
use Rattle.dutch_arrangements.specs.Prelude.{down}
use Rattle.dutch_choice.specs.declared.choice.Choice.{Choice}
use Rattle.dutch_choice.specs.declared.choice.ChosenBest.{ChosenBest}
use Rattle.dutch_choice.specs.declared.choice.Choice.TheVariants.{Chosen as IsChosen, Undecided as ChoiceUndecided}
use Rattle.dutch_bracket.specs.Prelude.{Context, FitsHere, frame_here, quality_here, quality_in, choice}

-- what choosing in a bracket answers: the choice with its downfloaters and its quality, or that the limit was reached [B.8; own]
abbrev pub IsChoice : Context → Type 0 → Choice → Type 0
IsChoice context stopped (IsChosen shape candidate quality) =
    (choice context.facts context.reached context.lower ≡ Some (record { shape = shape; lists = candidate.lists }))
    × (candidate.down ≡ down (frame_here context) candidate.lists) × FitsHere context shape
    × (quality_in quality ≡ quality_here context candidate.lists)
IsChoice context stopped ChoiceUndecided = stopped

-- a choice on the heap is the one that choosing in a bracket answers [with IsChoice]
abbrev pub IsChosenBest : Context → ChosenBest → Type 0
IsChosenBest context chosen = IsChoice context ⊥ (IsChosen chosen.shape chosen.best.value.candidate chosen.best.value.quality)
