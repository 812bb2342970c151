-- One value of the next bracket for all candidates: what it is not better than, no candidate has a better one than (C.04.3 C.7).
use Rattle.std.proofs.Common.{◌≡◌, sym, subst}
use Rattle.dutch_arrangements.specs.Prelude.{Arrangement, IsIn}
use Rattle.dutch_bracket.specs.declared.shaped.ShapedBracket.{ShapedBracket}
use Rattle.dutch_bracket.specs.Prelude.{HasNoBetter, IsNoBetter, NextValue, candidates_in, quality_here}
use Rattle.dutch_passes.specs.Prelude.{IsNextOfAll}

pub none_better_at_all : (shaped : ShapedBracket) (value other : NextValue) → IsNextOfAll shaped value → IsNoBetter value other
    → (a : Arrangement) → IsIn a (candidates_in shaped) → HasNoBetter (quality_here shaped.context.now a) other
none_better_at_all shaped value other same better a m = subst (λ (v : NextValue). IsNoBetter v other) (sym (same a m)) better
