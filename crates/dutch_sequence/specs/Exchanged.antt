-- Classes of the S1R of arrangements whose S1 and S2 are chosen: by how far they are from the original one (C.04.3 D.2).
use Rattle.std.specs.Prelude.{◌≡◌, ℕ, ◌+◌, not, List, ◌++◌, filter, length}
use Rattle.std.specs.List.{AllByRecursion}
use Rattle.std.specs.List.Sorted.{IsStrictlyIncreasing}
use Rattle.dutch_sequence.specs.Choices.{is_member, subsets}
use Rattle.dutch_sequence.specs.Exchange.{sum_of}
use Rattle.dutch_sequence.specs.Keys.{IsIn}

-- a class: the original S1R and the others of the remainder, both ascending; how many of the others are in S1R; by how much the sum of S1R is
-- greater than that of the original one; some who are in S1R, and some who are not [with IsExchange]
pub record ExchangeClass : Type 0 where
  pub original : List ℕ
  pub others : List ℕ
  pub size : ℕ
  pub difference : ℕ
  pub held : List ℕ
  pub barred : List ℕ

-- an S1R is an exchange of such a class: the remainder ascends; S1R is as many players of it as the original one; so many of them are not in the
-- original one; the sum of its numbers is so much greater; and it has those who are held, and none of those who are barred [D.2]
pub record IsExchange (exchange : ExchangeClass) (s1r : List ℕ) : Type 0 where
  pub ascends : IsStrictlyIncreasing (exchange.original ++ exchange.others)
  pub set : IsIn s1r (subsets (exchange.original ++ exchange.others) (length exchange.original))
  pub size : length (filter (λ x. not (is_member x exchange.original)) s1r) ≡ exchange.size
  pub sum : sum_of s1r ≡ sum_of exchange.original + exchange.difference
  pub held : AllByRecursion (λ x. IsIn x s1r) exchange.held
  pub barred : AllByRecursion (λ x. ¬ IsIn x s1r) exchange.barred
