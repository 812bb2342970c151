-- One pair more is written, as the pair has it that stands for it.
use Rattle.std.proofs.Common.{◌≡◌, ◌+◌, ◌*◌, ◌<◌, ◌∙◌, ℕ, List, Bool, ap, set, subst, sym, true, arith, get_or, length, refl}
use Rattle.std.proofs.lemmas.Bool.{true≢false}
use Rattle.dual.specs.declared.by_class.Slate.{Slate}
use Rattle.dual.specs.Prelude.{CanBear, Certificate, Costs, IsSlate, IsTold, KeepsMarks, StandsFor, certificate_in}
use Rattle.dual.proofs.ClassLemmas.{all_at, pair_more, told_more}
use Rattle.dual.proofs.table.CertificateTable.write_line.Goals as goal
use Rattle.dual.proofs.table.CertificateTable.write_line.Goals.{then-may_meet+in_ok-ask+else-not-branch, else-may_meet}

pub loop-v-preserved : goal.loop-v-preserved
loop-v-preserved g c =
    let knows : ℕ → Type 0 = g.R.MatchingRule.knows c.args.pool.now.rule.now in
    let costs : Costs = g.R.MatchingRule.costs c.args.pool.now.rule.now in
    let certificate : Certificate = certificate_in c.args.self.now in
    let players : List ℕ = c.args.pool.now.players.now in
    let size : ℕ = c.args.slate.now.size in
    let i : ℕ = c.loop-v.v-index in
    let lt : i < length players = c.loop-v-test.true in
    let u : ℕ = c.args.line.now.player in
    let v : ℕ = get_or players i 0 in
    let a : ℕ = c.args.line.now.row.player in
    let was : c.loop-v.slate.size ≡ size = c.loop-v.invariant.size in
    let marks : List Bool = c.loop-v.slate.marks.items in
    let new : List ℕ = c.if-may_meet.slate.slacks in
    let more : List Bool = c.if-may_meet.slate.marks.items in
    elim c.if-may_meet.branch [
      | then-may_meet+in_ok-ask+else-not-branch w ↦
          let b : ℕ = get_or c.args.firsts.now w.from.result 0 in
          let asked : List Bool = w.ask.new.slate.marks.items in
          let place : ℕ = w.from-then-may_meet.result * w.ask.new.slate.size + w.from-then-may_meet-2.result in
          let from : ℕ = c.args.line.now.row.start + w.from-then-may_meet-3.result in
          let same : w.ask.new.slate.size ≡ size = omega (arith, w.ask.ensures.size, was) in
          let alike : StandsFor knows costs certificate size u v a b =
          subst (λ (n : ℕ). StandsFor knows costs certificate size u v a (get_or c.args.firsts.now n 0)) (sym w.from.ensures) (c.requires.alike i 0 lt) in
          let row : w.from-then-may_meet.result * w.ask.new.slate.size ≡ u * size =
          ap (λ (n : ℕ). n * w.ask.new.slate.size) w.from-then-may_meet.ensures ∙ ap (λ (n : ℕ). u * n) same in
          let here : place ≡ u * size + v = omega (arith, row, w.from-then-may_meet-2.ensures) in
          let there : from ≡ a * size + b = omega (arith, c.requires.start, w.from-then-may_meet-3.ensures) in
          let slate : IsSlate costs certificate size w.ask.new.slate.slacks asked =
          subst (λ (n : ℕ). IsSlate costs certificate n w.ask.new.slate.slacks asked) was w.in_ok-ask.ensures.slate in
          let told : IsTold asked size a b = subst (λ (n : ℕ). IsTold asked n a b) was (w.in_ok-ask.ensures.told w.if-not-branch.false) in
          let pair : IsSlate costs certificate size new more × KeepsMarks asked more × IsTold more size u v =
          pair_more knows costs certificate size u v a b place from w.ask.new.slate.slacks new asked more slate c.requires.inside (c.requires.below i 0 lt) here there
          alike told (ap (λ (s : Slate). s.slacks) w.slate-is ∙ w.repeat.ensures.slacks) (ap (λ (s : Slate). s.marks.items) w.slate-is ∙ w.repeat.ensures.marks) in
          let keeps : KeepsMarks marks more = λ k has. pair.1 k (w.in_ok-ask.ensures.kept k has) in
          record {
            size = ap (λ (s : Slate). s.size) w.slate-is ∙ (w.repeat.ensures.size ∙ same);
            slate = pair.0;
            kept = λ k has. keeps k (c.loop-v.invariant.kept k has);
            told = told_more costs players size u i marks more keeps c.loop-v.invariant.told (λ _. pair.2);
          }
      | else-may_meet w ↦
          let same : c.if-may_meet.slate ≡ c.loop-v.slate = w.slate-is in
          let other : costs.meets u v ≡ true → IsTold marks size u v = λ met. absurd (true≢false (sym met ∙ (sym c.may_meet.ensures ∙ w.if-may_meet.false))) in
          record {
            size = ap (λ (s : Slate). s.size) same ∙ was;
            slate = subst (λ (s : Slate). IsSlate costs certificate size s.slacks s.marks.items) (sym same) c.loop-v.invariant.slate;
            kept = subst (λ (s : Slate). KeepsMarks c.args.slate.now.marks.items s.marks.items) (sym same) c.loop-v.invariant.kept;
            told = subst (λ (s : Slate). (k : ℕ) → k < i + 1 → costs.meets u (get_or players k 0) ≡ true → IsTold s.marks.items size u (get_or players k 0)) (sym same)
                (told_more costs players size u i marks marks (λ k has. has) c.loop-v.invariant.told other);
          }
    ]

pub returns-clause-told : goal.returns-clause-told
returns-clause-told g c =
    let costs : Costs = g.R.MatchingRule.costs c.args.pool.now.rule.now in
    λ _. all_at (λ v. costs.meets c.args.line.now.player v ≡ true → IsTold c.loop-v.slate.marks.items c.args.slate.now.size c.args.line.now.player v)
    c.args.pool.now.players.now (λ k lt. c.loop-v.invariant.told k (omega (arith, lt, c.loop-v-test.false)))

pub returns-clause-whole : goal.returns-clause-whole
returns-clause-whole g c = (
  λ _. λ k d lt met. (c.loop-v.invariant.slate.told c.args.line.now.player (get_or c.args.pool.now.players.now k d) (c.requires.below k d lt)
      (returns-clause-told g c refl k d lt met)).0,
  λ _. refl,
)
