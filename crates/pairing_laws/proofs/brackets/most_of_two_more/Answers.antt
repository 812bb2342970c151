-- The definition goes by the successors of a number, the law by sums.
use Rattle.std.proofs.Common.{◌≡◌, ℕ, suc, ◌+◌, ◌*◌, Bool, true, false, ap, arith}
use Rattle.dutch_bracket.specs.Prelude.{most, most_of_bye}
use Rattle.pairing_laws.proofs.brackets.most_of_two_more.Goals as goal

two_more : (n : ℕ) → n + 2 ≡ suc (suc n)
two_more n = omega arith

one_more : (n : ℕ) → n + 1 ≡ suc n
one_more n = omega arith

by_two : (n : ℕ) (bye : Bool) → most (n + 2) bye ≡ (n + 1) * (1 + most n bye) + most_of_bye (most (suc n) false) bye
by_two n bye = ap (λ m. most m bye) (two_more n)

pub returns-clause-nobody_left : goal.returns-clause-nobody_left
returns-clause-nobody_left c n = omega (arith, by_two n false)

pub returns-clause-one_left : goal.returns-clause-one_left
returns-clause-one_left c n = omega (arith, by_two n true, ap (λ m. most m false) (one_more n))
