use Rattle.std.proofs.Common.{subst}
use Rattle.dutch_arrangements.specs.Prelude.{HasEachOnce}
use Rattle.dutch_arrangements.proofs.Once.{suffix-once, arrangements-once, stands_once, candidates-once, rest-once}
use Rattle.pairing_laws.proofs.arrangements.each_arrangement_comes_once.Goals as goal

pub returns-clause-arrangements : goal.returns-clause-arrangements
returns-clause-arrangements c = arrangements-once

pub returns-clause-behind : goal.returns-clause-behind
returns-clause-behind c = stands_once

pub returns-clause-candidates : goal.returns-clause-candidates
returns-clause-candidates c =
    λ meets may_be_left frame shape passed coming is. suffix-once passed coming (subst HasEachOnce is (candidates-once meets may_be_left frame shape))

pub returns-clause-rest : goal.returns-clause-rest
returns-clause-rest c =
    λ meets may_be_left frame shape a passed coming is. suffix-once passed coming (subst HasEachOnce is (rest-once meets may_be_left frame shape a))
