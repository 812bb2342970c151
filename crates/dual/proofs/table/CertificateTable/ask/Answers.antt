-- One pair more is written.
use Rattle.std.proofs.Common.{◌≡◌, ◌+◌, ◌*◌, ℕ, List, Bool, set, subst, sym, true, arith}
use Rattle.dual.specs.Prelude.{Certificate, Costs, IsSlate, certificate_in}
use Rattle.dual.proofs.ClassLemmas.{slate_more}
use Rattle.dual.proofs.table.CertificateTable.ask.Goals as goal

pub returns-clause-slate : goal.returns-clause-slate
returns-clause-slate g c =
    let costs : Costs = g.R.MatchingRule.costs c.args.rule.now in
    let certificate : Certificate = certificate_in c.args.self.now in
    let size : ℕ = c.args.slate.now.size in
    let place : ℕ = c.args.row.now.start + c.from.result in
    let marks : List Bool = set c.args.slate.now.marks.items place true in
    let here : place ≡ c.args.row.now.player * size + c.args.v = omega (arith, c.requires.start, c.from.ensures) in
    subst (λ (slacks : List ℕ). IsSlate costs certificate size slacks marks) (sym c.in_ok-set.ensures.written)
    (slate_more costs certificate size c.args.slate.now.slacks c.args.slate.now.marks.items c.requires.slate c.args.row.now.player c.args.v place c.in-Some.slack
    c.requires.inside c.requires.below here c.in-Some.ensures.0 c.in-Some.ensures.1)
