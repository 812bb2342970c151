-- No partner tried so far leaves players who can be paired out, and each trial took its steps.
use Rattle.std.proofs.Common.{◌≡◌, ◌+◌, ◌*◌, ◌-◌, false, take, drop, length, []}
use Rattle.dutch_bracket.specs.declared.answer.Answer.TheVariants.{No}
use Rattle.dutch_bracket.specs.Prelude.{most, Searched, can_go, some_partner}
use Rattle.dutch_completion.proofs.Turned.{turned}
use Rattle.dutch_completion.proofs.completion.+search.Given as goal

abbrev pub decreases-can_pair : goal.decreases-can_pair
decreases-can_pair g l = 3 * length l.players.now

abbrev pub decreases-pair_first : goal.decreases-pair_first
decreases-pair_first g l = 3 * length l.later.now + 2

abbrev pub decreases-pair_with : goal.decreases-pair_with
decreases-pair_with g l = 3 * length l.later.now + 1

abbrev pub decreases-leave_first : goal.decreases-leave_first
decreases-leave_first g l = 3 * length l.later.now + 1

abbrev pub invariant-pair_first-loop-place : goal.invariant-pair_first-loop-place
invariant-pair_first-loop-place g l =
    let meets = g.R.Rule.meets l.rule in
    let all = l.initial.later in
    let holds = can_go meets (g.R.Rule.may_be_left l.rule) l.first.bye (length all - 1) in
    let m = most (length all - 1) l.first.bye in
    record {
      turned : l.later ≡ turned l.place all;
      len : length l.later ≡ length all;
      same : some_partner (meets l.first.player) holds (take l.place all) (drop l.place all) ≡ some_partner (meets l.first.player) holds [] all;
      searched : Searched No false (l.place * (1 + m)) (length all + 1) l.place l.initial.budget l.budget;
    }
