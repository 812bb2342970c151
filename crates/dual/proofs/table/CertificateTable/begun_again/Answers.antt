-- Of two who are not marked the slack is as before.
use Rattle.std.proofs.Common.{◌≡◌, ◌<◌, ◌∙◌, ℕ, Bool, List, All, ap, refl, subst, sym}
use Rattle.dual.specs.Prelude.{AreKept, Certificate, Costs, FloorTable, certificate_in}
use Rattle.dual.proofs.AgainLemmas.{still_kept}
use Rattle.dual.proofs.table.CertificateTable.begun_again.Goals as goal

pub returns-clause-kept : goal.returns-clause-kept
returns-clause-kept g c =
    let before : Costs = g.R.MatchingRule.costs c.args.before.now.rule.now in
    let now : Costs = g.R.MatchingRule.costs c.args.pool.now.rule.now in
    let certificate : Certificate = certificate_in c.args.self.now in
    let floor : FloorTable = c.args.before.now.floor.now in
    let players : List ℕ = c.args.pool.now.players.now in
    let marks : List Bool = c.in_ok-marks.marks.items in
    let size : floor.size ≡ c.size_for-size.result = c.if-not-may_keep.ensures.size refl in
    let slacks : c.in_ok-slacks.slacks ≡ floor.slacks = c.in_ok-slacks.ensures ∙ ap (λ (f : FloorTable). f.slacks) c.floor.view_is in
    let kept : AreKept now certificate players marks floor.size floor.slacks =
    still_kept before now c.args.before.now.table.now c.args.self.now floor players c.args.before.now.turned.now marks c.requires.checked c.requires.others
    (c.if-not-may_keep.ensures.given refl) (subst (λ n. All (λ v. v < n) players) (sym size) c.size_for-size.ensures.above)
    c.in_ok-marks.ensures.turned c.in_ok-marks.ensures.potential c.in_ok-marks.ensures.sets c.in_ok-marks.ensures.sets_before in
    subst (λ n. AreKept now certificate players marks n c.in_ok-slacks.slacks) size
    (subst (AreKept now certificate players marks floor.size) (sym slacks) kept)
