use Rattle.std.proofs.Common.{◌≡◌, [], refl, None, length, ap, arith, subst, sym}
use Rattle.std.specs.List.{AllByRecursion}
use Rattle.dutch_sequence.specs.Prelude.{hinted, Walked, ahead, below, after, IsOfStage, exchange_plan, sets_ahead, stage_left, sets_of_stages, sets_of_sizes}
use Rattle.dutch_sequence.proofs.SearchStates.{ended-hits, ended-known}
use Rattle.dutch_sequence.proofs.exchange.Exchanges.ended.Goals as goal

pub returns : goal.returns
unfolding ahead below after stage_left sets_of_stages sets_of_sizes sets_ahead
returns c = let none : sets_ahead [] 0 [] 0 0 [] 1 None ≡ [] = refl in cc

pub invariant_of-result : goal.invariant_of-result
invariant_of-result c =
    let pool = c.new.result.items in
    let long : length pool ≡ 0 = ap length c.new.ensures in
    let descent = c.new-3.result in
    let hint = c.new-2.result in (
      omega (arith, long),
      omega arith,
      λ i low. absurd (omega (arith, long, low)),
      (
        omega arith,
        omega arith,
        (omega (arith, ap length c.new-3.ensures.path), subst (Walked (hinted hint.items (exchange_plan pool 0 0 0)) []) (sym c.new-3.ensures.path) tt),
        ended-known pool hint.items descent.path descent.number descent.beyond c.new.ensures,
        subst (AllByRecursion (IsOfStage pool 0 0 0)) (sym (ended-hits pool hint.items descent.path descent.number c.new.ensures c.new-2.ensures c.new-3.ensures.path c.new-3.ensures.number)) tt,
      ),
    )
