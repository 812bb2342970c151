-- The law of a rule that is narrowed to what is wished, which the rule itself names: who meets is met.
use Rattle.std.proofs.Common.{◌≡◌, ◌==◌, ℕ, Bool, not, ◌&&◌, ◌||◌, Option, Some, None, refl, ap, ◌∙◌, arith}
use Rattle.dutch_player.specs.Prelude.{Facts}
use Rattle.dutch_bracket.specs.Prelude.{Reached, numbers_meet, numbers_meet_sym}
use Rattle.dutch_candidates.specs.declared.wish.Wish.{Wish}
use Rattle.dutch_candidates.specs.declared.wish.Wish.TheVariants.{Pair, LeftOver}
use Rattle.dutch_candidates.specs.Wishes.{fits_as_pair, meets_narrowed}

either_order : (first_p second_q first_q second_p : Bool)
    → not (not ((first_p && second_q) || (first_q && second_p)) && ((first_p || second_p) || (first_q || second_q)))
    ≡ not (not ((second_p && first_q) || (second_q && first_p)) && ((second_p || first_p) || (second_q || first_q)))
either_order first_p second_q first_q second_p = grind arith

either_player : (first second : Bool) → not (first || second) ≡ not (second || first)
either_player first second = grind arith

fits_sym : (wish : Option Wish) (a b : ℕ) → fits_as_pair wish a b ≡ fits_as_pair wish b a
fits_sym None a b = refl
fits_sym (Some (Pair p q)) a b = either_order (a == p) (b == q) (a == q) (b == p)
fits_sym (Some (LeftOver p)) a b = either_player (a == p) (b == p)

-- whether two may meet is the same from both sides
pub narrowed_sym : (wish : Option Wish) (facts : Facts) (reached : Reached) (a b : ℕ)
    → meets_narrowed wish (numbers_meet facts reached) a b ≡ meets_narrowed wish (numbers_meet facts reached) b a
narrowed_sym wish facts reached a b =
    ap (λ t. t && numbers_meet facts reached a b) (fits_sym wish a b) ∙ ap (λ t. fits_as_pair wish b a && t) (numbers_meet_sym facts reached a b)
