-- One line more is written.
use Rattle.std.proofs.Common.{◌≡◌, ◌<◌, ◌∙◌, ◌^◌, ℕ, List, Bool, All, ap, subst, sym, arith, get_or, length, take, refl}
use Rattle.std.proofs.lemmas.List.{take_all}
use Rattle.dual.specs.Prelude.{AreTold, AreWritten, Certificate, Costs, IsSlate, certificate_in}
use Rattle.dual.proofs.ClassLemmas.{all_stand, all_written, lines_more, read_at}
use Rattle.dual.proofs.table.CertificateTable.slate_of.Goals as goal

pub write_line-requires-clause-alike : goal.write_line-requires-clause-alike
write_line-requires-clause-alike g c =
    let players : List ℕ = c.args.pool.now.players.now in
    let firsts : List ℕ = c.in_ok-firsts.firsts.items in
    let i : ℕ = c.loop-a.a-index in
    let u : ℕ = get_or players i 0 in
    let lt : i < length players = c.loop-a-test.true in
    let within : u < length firsts = omega (arith, c.size_for-size.ensures.above i 0 lt, c.in_ok-firsts.ensures.length) in
    let first : c.in_ok-row.row.player ≡ get_or firsts u 0 =
    c.in_ok-row.ensures.player ∙ read_at firsts c.from.result u c.index.result.now c.index.ensures c.from.ensures within in
    all_stand (g.R.MatchingRule.knows c.args.pool.now.rule.now) c.args.self.now c.args.classes.now (g.R.MatchingRule.costs c.args.pool.now.rule.now) players
    firsts c.deref.result.now i c.loop-a.slate.size c.in_ok-row.row.player c.requires.classes c.requires.known c.in_ok-firsts.ensures.firsts lt
    c.deref.ensures.value (omega (arith, c.loop-a.invariant.size, c.in_ok-firsts.ensures.length)) first

pub loop-a-preserved : goal.loop-a-preserved
loop-a-preserved g c =
    let costs : Costs = g.R.MatchingRule.costs c.args.pool.now.rule.now in
    let certificate : Certificate = certificate_in c.args.self.now in
    let players : List ℕ = c.args.pool.now.players.now in
    let i : ℕ = c.loop-a.a-index in
    let marks : List Bool = c.write_line.new.slate.marks.items in
    let same : c.loop-a.slate.size ≡ c.size_for-size.result = c.loop-a.invariant.size in
    record {
      size = omega (arith, c.write_line.ensures.size, same);
      slate = subst (λ n. IsSlate costs certificate n c.write_line.new.slate.slacks marks) same c.in_ok-write_line.ensures.slate;
      told = lines_more costs players c.size_for-size.result i c.loop-a.slate.marks.items marks c.loop-a-test.true c.in_ok-write_line.ensures.kept
          c.loop-a.invariant.told
          (subst (λ n. AreTold costs marks n (get_or players i 0) players) same (c.in_ok-write_line.ensures.told c.if-not-branch.false));
    }

pub returns-clause-written : goal.returns-clause-written
returns-clause-written g c =
    let costs : Costs = g.R.MatchingRule.costs c.args.pool.now.rule.now in
    let certificate : Certificate = certificate_in c.args.self.now in
    let players : List ℕ = c.args.pool.now.players.now in
    let marks : List Bool = c.loop-a.slate.marks.items in
    let all : take c.loop-a.a-index players ≡ players = take_all c.loop-a.a-index players c.loop-a-test.false in
    subst (λ n. AreWritten costs certificate players n c.loop-a.slate.slacks) (sym c.loop-a.invariant.size)
    (all_written costs certificate players c.size_for-size.result c.loop-a.slate.slacks marks c.size_for-size.ensures.above c.loop-a.invariant.slate
    (subst (All (λ u. AreTold costs marks c.size_for-size.result u players)) all c.loop-a.invariant.told))

pub returns-clause-whole : goal.returns-clause-whole
returns-clause-whole g c = (λ _. λ k d lt j e there met. (returns-clause-written g c k d lt j e there met).0, λ _. refl)
