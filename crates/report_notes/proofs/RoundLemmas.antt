-- One round further.
use Rattle.std.proofs.Common.{◌≡◌, refl, ℕ, suc, ◌+◌, ◌-◌, ◌<◌, List, ◌++◌, arith}
use Rattle.trf16_report.specs.Prelude.{Sheet, rounds_played}
use Rattle.report_notes.specs.PlayerRounds.{of_rounds_behind}

-- a round behind a given one was paired
pub one_further : {X : Type 0} (has : ℕ → List X) (sheet : Sheet) (before : ℕ) → before < rounds_played sheet
    → of_rounds_behind has sheet before ≡ has (before + 1) ++ of_rounds_behind has sheet (before + 1)
one_further has sheet before within =
    let e : rounds_played sheet - before ≡ suc (rounds_played sheet - (before + 1)) = omega arith in
    rw e refl
