-- The names of a list, from the front.
use Rattle.std.proofs.Common.{◌≡◌, ◌∙◌, ◌<◌, eqb, ℕ, List, [], ◌∷◌, length, arith, ap, sym}
use Rattle.std.specs.List.{after_first, before_first, position_or_len}
use Rattle.std.proofs.lemmas.List.Splits.{slice_split_first, slice_split_none}
use Rattle.std.proofs.lemmas.List.Sums.{fails_before_first}
use Rattle.requests.specs.Prelude.{names}

-- a list without a comma is one name
pub names_one : (text : List ℕ) → position_or_len (λ b. eqb b 44) text ≡ length text → names text ≡ text ∷ []
names_one text whole = slice_split_none (λ b. eqb b 44) text (λ k d inside. fails_before_first (λ b. eqb b 44) text k d (omega (arith, whole)))

-- the first name ends at the first comma
pub names_more : (text name rest : List ℕ) → position_or_len (λ b. eqb b 44) text < length text → name ≡ before_first (λ b. eqb b 44) text
    → rest ≡ after_first (λ b. eqb b 44) text → names text ≡ name ∷ names rest
names_more text name rest inside front back =
    slice_split_first (λ b. eqb b 44) text 0 inside ∙ (ap (λ x. x ∷ names (after_first (λ b. eqb b 44) text)) (sym front) ∙ ap (λ x. name ∷ names x) (sym back))
