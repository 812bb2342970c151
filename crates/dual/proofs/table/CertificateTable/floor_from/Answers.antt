-- Each matching costs the floor at least, by weak duality.
use Rattle.std.proofs.Common.{ℕ, List, refl}
use Rattle.dual.specs.Prelude.{Certificate, IsChecked, IsFeasible, FloorTable, IsFloorOf, Costs, certificate_in}
use Rattle.dual.proofs.FloorLemmas.{floor_least, rows_tell}
use Rattle.dual.proofs.table.CertificateTable.floor_from.Goals as goal

pub returns-clause-value : goal.returns-clause-value
returns-clause-value g c =
    let floor : FloorTable = record {
      base = c.in-Some.base;
      debt = c.in-Some-losses.debt;
      size = c.args.begun.size;
      slacks = c.in-Some-3.written.slacks;
      slacks_left = c.in-Some-2.slacks_left.items;
    } in
    let rows = rw c.in-Some-3.is at c.in_ok-written.ensures.value in
    let told_left = rw c.in-Some-2.is at c.in_ok-slacks_left.ensures.value in
    record {
      base = c.in-Some.ensures.1;
      debt = c.in-Some-losses.ensures.1;
      pairs = rows_tell (g.R.MatchingRule.costs c.args.pool.now.rule.now) c.args.pool.now.players.now (certificate_in c.args.self.now) floor c.requires.below rows;
      left_over = told_left;
    }

pub returns-clause-least : goal.returns-clause-least
returns-clause-least g c =
    let costs : Costs = g.R.MatchingRule.costs c.args.pool.now.rule.now in
    let certificate : Certificate = certificate_in c.args.self.now in
    let players : List ℕ = c.args.pool.now.players.now in
    let floor : FloorTable = record {
      base = c.in-Some.base;
      debt = c.in-Some-losses.debt;
      size = c.args.begun.size;
      slacks = c.in-Some-3.written.slacks;
      slacks_left = c.in-Some-2.slacks_left.items;
    } in
    let bears = rw c.in-Some-3.is at c.in_ok-written.ensures.whole in
    let bears_left = rw c.in-Some-2.is at c.in_ok-slacks_left.ensures.whole in
    let feasible : IsFeasible costs players certificate = record {
      pairs = λ k d lt j e there met. (bears.0 refl k d lt j e there met).1;
      left = λ k d lt may. (bears_left.0 refl k d lt may).1;
    } in
    floor_least costs players c.args.left certificate floor feasible (returns-clause-value g c)

pub returns-clause-checked : goal.returns-clause-checked
returns-clause-checked g c =
    let bears = rw c.in-Some-3.is at c.in_ok-written.ensures.whole in
    record {
      pairs = λ k d lt j e there met. (bears.0 refl k d lt j e there met).1;
      below = λ k d lt j e there met. (bears.0 refl k d lt j e there met).0;
      tells = (returns-clause-value g c).pairs;
    }
