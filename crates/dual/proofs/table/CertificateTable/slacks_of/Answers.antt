-- The next row is written in its place: whole, or at those who are marked.
use Rattle.std.proofs.Common.{◌≡◌, ℕ, ◌+◌, ◌*◌, ◌<◌, ◌^◌, true, Bool, List, All, length, take, get_or, refl, sym, subst, arith}
use Rattle.std.proofs.lemmas.Bool.{false≢true}
use Rattle.std.proofs.lemmas.List.{take_all}
use Rattle.std.proofs.lemmas.List.Elements.{All-more}
use Rattle.dual.specs.Prelude.{AllBear, CanBear, HasSlacks, Certificate, Costs, certificate_in}
use Rattle.dual.proofs.AgainLemmas.{all_mates, bears_whole, kept_still, mates, mates_are, rows_more}
use Rattle.dual.proofs.FloorLemmas.{inside_square}
use Rattle.dual.proofs.table.CertificateTable.slacks_of.Goals as goal

pub fill-requires-clause-known : goal.fill-requires-clause-known
fill-requires-clause-known g c =
    let players : List ℕ = c.args.pool.now.players.now in
    let marks : List Bool = c.args.begun.marks.items in
    let a : ℕ = get_or players c.loop-a.a-index 0 in
    let are : c.mates_of-mates.result.now ≡ mates players marks a =
    mates_are players marks a c.deref.ensures.value c.in_ok-anew.ensures c.deref-in-loop-a.ensures.value c.deref-in-loop-a-2.ensures.value
    c.mates_of-mates.ensures in
    subst (All (g.R.MatchingRule.knows c.args.pool.now.rule.now)) (sym are)
    (all_mates players marks (g.R.MatchingRule.knows c.args.pool.now.rule.now) a c.requires.known)

pub fill-requires-clause-within : goal.fill-requires-clause-within
fill-requires-clause-within g c =
    let players : List ℕ = c.args.pool.now.players.now in
    let marks : List Bool = c.args.begun.marks.items in
    let size : ℕ = c.args.begun.size in
    let a : ℕ = get_or players c.loop-a.a-index 0 in
    let are : c.mates_of-mates.result.now ≡ mates players marks a =
    mates_are players marks a c.deref.ensures.value c.in_ok-anew.ensures c.deref-in-loop-a.ensures.value c.deref-in-loop-a-2.ensures.value
    c.mates_of-mates.ensures in
    let here : a < size = c.requires.below c.loop-a.a-index 0 c.loop-a-test.true in
    subst (All (λ v. c.in_ok-row.row.start + v < length c.loop-a.slacks)) (sym are)
    (all_mates players marks (λ v. c.in_ok-row.row.start + v < length c.loop-a.slacks) a (λ k d lt.
    let inside = inside_square a (get_or players k d) size here (c.requires.below k d lt) in
    omega (arith, inside, c.in_ok-row.ensures.start, c.loop-a.invariant.size)))

pub returns-then-not-branch-clause-whole : goal.returns-then-not-branch-clause-whole
returns-then-not-branch-clause-whole g c =
    let costs : Costs = g.R.MatchingRule.costs c.args.pool.now.rule.now in
    let certificate : Certificate = certificate_in c.args.self.now in
    let players : List ℕ = c.args.pool.now.players.now in
    let marks : List Bool = c.args.begun.marks.items in
    let a : ℕ = get_or players c.loop-a.a-index 0 in
    let are : c.mates_of-mates.result.now ≡ mates players marks a =
    mates_are players marks a c.deref.ensures.value c.in_ok-anew.ensures c.deref-in-loop-a.ensures.value c.deref-in-loop-a-2.ensures.value
    c.mates_of-mates.ensures in (
      λ e. absurd (false≢true e),
      λ all.
          let bears : AllBear costs certificate (2 ^ 1024) a (mates players marks a) =
          all_mates players marks (λ v. costs.meets a v ≡ true → CanBear costs certificate (2 ^ 1024) a v) a (all c.loop-a.a-index 0 c.loop-a-test.true) in
          let here : AllBear costs certificate (2 ^ 1024) c.in_ok-row.row.player c.mates_of-mates.result.now =
          subst (λ u. AllBear costs certificate (2 ^ 1024) u c.mates_of-mates.result.now) (sym c.in_ok-row.ensures.player)
          (subst (AllBear costs certificate (2 ^ 1024) a) (sym are) bears) in
          cc (c.in_ok-fill.ensures.whole.1 here, c.if-not-branch.true),
    )

pub loop-a-preserved : goal.loop-a-preserved
loop-a-preserved g c =
    let costs : Costs = g.R.MatchingRule.costs c.args.pool.now.rule.now in
    let certificate : Certificate = certificate_in c.args.self.now in
    let size : ℕ = c.args.begun.size in
    let players : List ℕ = c.args.pool.now.players.now in
    let marks : List Bool = c.args.begun.marks.items in
    let i : ℕ = c.loop-a.a-index in
    let a : ℕ = get_or players i 0 in
    let lt : i < length players = c.loop-a-test.true in
    let start : ℕ = c.in_ok-row.row.start in
    let new : List ℕ = c.fill.new.slacks in
    let old : List ℕ = c.loop-a.slacks in
    let are : c.mates_of-mates.result.now ≡ mates players marks a =
    mates_are players marks a c.deref.ensures.value c.in_ok-anew.ensures c.deref-in-loop-a.ensures.value c.deref-in-loop-a-2.ensures.value
    c.mates_of-mates.ensures in
    let bears : AllBear costs certificate (2 ^ 1024) a (mates players marks a) =
    subst (AllBear costs certificate (2 ^ 1024) a) are
    (subst (λ u. AllBear costs certificate (2 ^ 1024) u c.mates_of-mates.result.now) c.in_ok-row.ensures.player
    (c.in_ok-fill.ensures.whole.0 c.if-not-branch.false)) in
    let row : HasSlacks costs certificate a (mates players marks a) start new =
    subst (λ vs. HasSlacks costs certificate a vs start new) are
    (subst (λ u. HasSlacks costs certificate u c.mates_of-mates.result.now start new) c.in_ok-row.ensures.player
    (c.in_ok-fill.ensures.value c.if-not-branch.false)) in
    let others : (k : ℕ) → All (λ v. ¬ (start + v ≡ k)) (mates players marks a) → get_or new k 0 ≡ get_or old k 0 =
    λ k h. c.in_ok-fill.ensures.others k (subst (All (λ v. ¬ (start + v ≡ k))) (sym are) h) in
    record {
      size = omega (arith, c.in_ok-fill.ensures.size, c.loop-a.invariant.size);
      kept = kept_still costs certificate size players c.requires.below marks i start old new lt c.in_ok-row.ensures.start others c.loop-a.invariant.kept;
      bear = All-more (λ u. AllBear costs certificate (2 ^ 1024) u players) players i 0 lt c.loop-a.invariant.bear
          (bears_whole costs certificate size players c.requires.below marks i start old new lt c.in_ok-row.ensures.start others c.loop-a.invariant.kept bears);
      told = rows_more costs certificate size players c.requires.below marks i start old new lt c.in_ok-row.ensures.start others c.loop-a.invariant.kept
          row c.loop-a.invariant.told;
    }

pub returns-clause-whole : goal.returns-clause-whole
returns-clause-whole g c =
    let costs : Costs = g.R.MatchingRule.costs c.args.pool.now.rule.now in
    let all : take c.loop-a.a-index c.args.pool.now.players.now ≡ c.args.pool.now.players.now = take_all c.loop-a.a-index c.args.pool.now.players.now c.loop-a-test.false in
    (λ _. subst (All (λ u. AllBear costs (certificate_in c.args.self.now) (2 ^ 1024) u c.args.pool.now.players.now)) all c.loop-a.invariant.bear, λ _. refl)

pub returns-clause-value : goal.returns-clause-value
returns-clause-value g c =
    let costs : Costs = g.R.MatchingRule.costs c.args.pool.now.rule.now in
    let all : take c.loop-a.a-index c.args.pool.now.players.now ≡ c.args.pool.now.players.now = take_all c.loop-a.a-index c.args.pool.now.players.now c.loop-a-test.false in
    subst (All (λ u. HasSlacks costs (certificate_in c.args.self.now) u c.args.pool.now.players.now (u * c.args.begun.size) c.loop-a.slacks)) all
    c.loop-a.invariant.told
