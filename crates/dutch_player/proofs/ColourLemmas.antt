-- Each game was played with white or with black.
use Rattle.std.proofs.Common.{◌≡◌, ◌+◌, cond, List, [], ◌∷◌, length, refl, arith}
use Rattle.std.proofs.lemmas.List.Sums.{sum_by-cons}
use Rattle.trf16_report.specs.declared.cell.Colour.{Colour}
use Rattle.trf16_report.specs.declared.cell.Colour.TheVariants.{White, Black}
use Rattle.dutch_player.specs.Prelude.{is_white, is_black, whites, blacks}

pub of_both : (played : List Colour) → whites played + blacks played ≡ length played
of_both [] = refl
of_both (White ∷ rest) =
    omega (arith, of_both rest, sum_by-cons (λ c. cond (is_white c) 1 0) White rest, sum_by-cons (λ c. cond (is_black c) 1 0) White rest)
of_both (Black ∷ rest) =
    omega (arith, of_both rest, sum_by-cons (λ c. cond (is_white c) 1 0) Black rest, sum_by-cons (λ c. cond (is_black c) 1 0) Black rest)
