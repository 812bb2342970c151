-- What the shape of a bracket is, by matchings of its players, in the penultimate bracket with all lower ones (C.04.3 B.1, C.1 to C.5).
use Rattle.std.specs.Prelude.{◌≡◌, ℕ, ◌≤◌, Bool, ◌||◌, nat_le, List, filter, length}
use Rattle.dual.specs.Prelude.{IsMatching}
use Rattle.dutch_arrangements.specs.declared.bracket.Shape.{Shape}
use Rattle.dutch_arrangements.specs.Prelude.{numbers_from}
use Rattle.dutch_bracket.specs.declared.reached.BracketKind.TheVariants.{Ordinary}
use Rattle.dutch_bracket.specs.Prelude.{Context, IsGreater}
use Rattle.dutch_choice.specs.ShapeCosts.{are_pair, count_all, shape_costs}

-- pairs of players who may meet, and those left over, who may be; elsewhere than in an ordinary bracket one at most is left over [C.1 to C.4]
pub record IsBracketMatching (context : Context) (pairs : List (ℕ × ℕ)) (out : List ℕ) : Type 0 where
  pub matching : IsMatching (shape_costs context) (numbers_from 1 (count_all context)) pairs out
  pub few : ¬ (context.reached.kind ≡ Ordinary) → length out ≤ 1

-- those of some pairs that are pairs of the bracket, and not paired out [with made_shape]
abbrev pub pairs_here : Context → List (ℕ × ℕ) → List (ℕ × ℕ)
pairs_here context pairs = filter (λ pair. are_pair context pair.0 pair.1) pairs

-- one of a pair was moved down [with made_shape]
abbrev pub has_mdp : Context → ℕ × ℕ → Bool
has_mdp context pair = nat_le pair.0 context.reached.mdps || nat_le pair.1 context.reached.mdps

-- the shape of the pairs of a matching: those of the bracket, and those of them in which a player was moved down [B.1, B.2]
abbrev pub made_shape : Context → List (ℕ × ℕ) → Shape
made_shape context pairs = record {
  pairs = length (pairs_here context pairs);
  mdps = length (filter (has_mdp context) (pairs_here context pairs));
}

-- a matching of a bracket than which none has more pairs, and none as many and more moved-down players in them [B.1, C.5]
pub record IsGreatestMatching (context : Context) (pairs : List (ℕ × ℕ)) (out : List ℕ) : Type 0 where
  pub matching : IsBracketMatching context pairs out
  pub greatest : (others : List (ℕ × ℕ)) (left : List ℕ) → IsBracketMatching context others left
      → ¬ IsGreater (made_shape context others) (made_shape context pairs)

-- some greatest matching of a bracket has this shape [B.1, C.5]
pub record HasGreatestMatching (context : Context) (shape : Shape) : Type 0 where
  pub pairs : List (ℕ × ℕ)
  pub out : List ℕ
  pub is_greatest : IsGreatestMatching context pairs out
  pub has_shape : made_shape context pairs ≡ shape
