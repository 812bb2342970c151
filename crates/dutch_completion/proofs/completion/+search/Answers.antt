-- The answer and the steps of one player more, from those of the players further back.
use Rattle.std.proofs.Common.{◌≡◌, ◌∙◌, ℕ, ◌-◌, ◌+◌, List, suc, false, length, refl, ap, subst, arith}
use Rattle.std.specs.Prelude.{if◌then◌else◌}
use Rattle.dutch_bracket.specs.declared.answer.Answer.TheVariants.{No}
use Rattle.dutch_bracket.specs.Prelude.{most, Searched, can_go}
use Rattle.dutch_completion.proofs.PairSearch.{all_fail, brought_to, by_leaving, by_pair, leaving, left, no_step, odd_unpaired, one_more_fails, one_serves, partner_fails, trials, tried}
use Rattle.dutch_completion.proofs.Turned.{turned-more}
use Rattle.dutch_completion.proofs.completion.+search.Goals as goal

pub can_pair-returns-then-later-eq0-clause-searched : goal.can_pair-returns-then-later-eq0-clause-searched
can_pair-returns-then-later-eq0-clause-searched g t c =
    let meets = g.R.Rule.meets c.args.rule.now in
    let may_be_left = g.R.Rule.may_be_left c.args.rule.now in
    let later = c.in-Some.later.now in
    let e = c.in-Some.ensures.cases.0 in
    let none : c.args.bye ≡ false = c.if-not-bye.true in
    rw e
    (no_step _ _ _ _ c.args.budget.now
    (odd_unpaired meets may_be_left c.args.bye c.in-Some.first.now later none c.if-later-eq0.true)
    (ap (λ b. if b then suc (length later) else 0) none))

pub can_pair-returns-in-No-clause-searched : goal.can_pair-returns-in-No-clause-searched
can_pair-returns-in-No-clause-searched g t c =
    let meets = g.R.Rule.meets c.args.rule.now in
    let may_be_left = g.R.Rule.may_be_left c.args.rule.now in
    let bye = c.args.bye in
    let first = c.in-Some.first.now in
    let later = c.in-Some.later.now in
    let one : ℕ = if bye then 1 else 0 in
    let e = c.in-Some.ensures.cases.0 in
    rw e
    (by_leaving meets may_be_left bye first later (if bye then suc (length later) else 0) c.leave_first.result one
    c.args.budget.now c.pair_first.new.budget c.leave_first.new.budget (trials bye (length later)) c.in-No.ensures.searched
    (subst (λ (xs : List ℕ). Searched c.leave_first.result (left meets may_be_left bye first xs) (leaving meets may_be_left bye first (length xs)) (length xs + 1) one
    c.pair_first.new.budget c.leave_first.new.budget) (c.in-No.ensures.kept refl) c.leave_first.ensures.searched))

pub can_pair-returns-in_default-pair_first : goal.can_pair-returns-in_default-pair_first
can_pair-returns-in_default-pair_first g t c =
    let later = c.in-Some.later.now in
    let e = c.in-Some.ensures.cases.0 in
    rw e
    (record {
      searched = by_pair (g.R.Rule.meets c.args.rule.now) (g.R.Rule.may_be_left c.args.rule.now) c.args.bye c.in-Some.first.now
          later (if c.args.bye then suc (length later) else 0) c.pair_first.result c.args.budget.now c.pair_first.new.budget c.in_default-pair_first.not-No c.pair_first.ensures.searched;
      kept = λ no. absurd (c.in_default-pair_first.not-No no);
    })

pub pair_first-loop-place-preserved : goal.pair_first-loop-place-preserved
pair_first-loop-place-preserved g t c =
    let meets = g.R.Rule.meets c.args.rule.now c.args.first.player in
    let bye = c.args.first.bye in
    let cover = can_go (g.R.Rule.meets c.args.rule.now) (g.R.Rule.may_be_left c.args.rule.now) bye in
    let all = c.args.later.now in
    let place = c.loop-place.place in
    let m = most (length all - 1) bye in
    let before = c.loop-place.invariant in
    let len : length c.swap.new.self ≡ length all = c.swap.ensures.len ∙ before.len in
    let one = tried No meets cover (λ n. most n bye) place all c.loop-place.later c.swap.new.self c.loop-place.budget c.pair_with.new.budget
    before.turned c.swap.ensures.after len c.loop-place-test.true c.in-No.ensures.searched in
    let kept = c.in-No.ensures.kept refl in
    record {
      turned = kept ∙ brought_to place all c.loop-place.later c.swap.new.self before.turned c.swap.ensures.after c.loop-place-test.true ∙ turned-more place all;
      len = ap (λ (xs : List ℕ). length xs) kept ∙ len;
      same = partner_fails meets (cover (length all - 1)) all place c.loop-place-test.true one.told before.same;
      searched = one_more_fails meets (cover (length all - 1)) all place c.loop-place-test.true m c.args.budget.now c.loop-place.budget c.pair_with.new.budget before.searched one;
    }

pub pair_first-returns-in_default : goal.pair_first-returns-in_default
pair_first-returns-in_default g t c =
    let meets = g.R.Rule.meets c.args.rule.now c.args.first.player in
    let bye = c.args.first.bye in
    let cover = can_go (g.R.Rule.meets c.args.rule.now) (g.R.Rule.may_be_left c.args.rule.now) bye in
    let all = c.args.later.now in
    let place = c.loop-place.place in
    let before = c.loop-place.invariant in
    let one = tried c.pair_with.result meets cover (λ n. most n bye) place all c.loop-place.later c.swap.new.self c.loop-place.budget c.pair_with.new.budget
    before.turned c.swap.ensures.after (c.swap.ensures.len ∙ before.len) c.loop-place-test.true c.pair_with.ensures.searched in
    record {
      searched = one_serves meets (cover (length all - 1)) all place c.loop-place-test.true (most (length all - 1) bye)
          c.args.budget.now c.loop-place.budget c.pair_with.new.budget before.searched c.pair_with.result c.in_default.not-No before.same one;
      kept = λ no. absurd (c.in_default.not-No no);
    }

pub pair_first-returns-clause-searched : goal.pair_first-returns-clause-searched
pair_first-returns-clause-searched g t c =
    let bye = c.args.first.bye in
    let all = c.args.later.now in
    let before = c.loop-place.invariant in
    all_fail (g.R.Rule.meets c.args.rule.now c.args.first.player)
    (can_go (g.R.Rule.meets c.args.rule.now) (g.R.Rule.may_be_left c.args.rule.now) bye (length all - 1))
    all c.loop-place.place (most (length all - 1) bye) c.args.budget.now c.loop-place.budget (omega arith) before.same before.searched
