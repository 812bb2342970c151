-- What comes next behind a stage that is settled.
use Rattle.std.proofs.Common.{◌≡◌, ◌+◌, ◌≤◌, ◌++◌, ℕ, List, [], length, take, drop, ap, sym, ◌∙◌, subst, arith}
use Rattle.std.proofs.lemmas.List.{take-append-drop}
use Rattle.dutch_bracket.specs.declared.reached.BracketKind.TheVariants.{Collapsed}
use Rattle.dutch_bracket.specs.Prelude.{Reached, bracket, first_group, scoregroups}
use Rattle.dutch_choice.specs.declared.finder.Best.{Best}
use Rattle.dutch_rounds.specs.Stage.{Stage}
use Rattle.dutch_rounds.specs.Prelude.{choice_of, Goes, GoesOut, StandsBefore}
use Rattle.dutch_rounds.proofs.GroupWalk.{front_few, front_taken}
use Rattle.dutch_rounds.proofs.NoDeadEnd.{ordinary_out}
use Rattle.dutch_sequence.specs.declared.numbers.TheConstants.{LIMIT}
use Rattle.dutch_rounds.proofs.WalkEnds.{down_seats, few_left, left_few, left_is}
use Rattle.dutch_rounds.proofs.WalkSteps.{is_kept, stands_above, stands_collapsed, stands_left}
use Rattle.dutch_rounds.proofs.walk.behind.Goals as goal

pub seats_of-left-requires : goal.seats_of-left-requires
seats_of-left-requires c =
    let stage = c.args.stage.now in
    let above = stands_above c.args.field.now stage.reached.number stage.reached c.args.lower.now c.requires.stands
    (record { falls = c.scores_do_not_ascend.ensures.scores; few = c.scores_do_not_ascend.ensures.few }) in
    let few : length stage.reached.seats + length c.args.lower.now ≤ LIMIT = above.few in
    let left_over = c.down.ensures ∙ (ap (λ (best : Best). best.candidate.down) c.deref.ensures ∙ ap (λ (s : Stage). s.candidate.down) c.stage.view_is) ∙ c.requires.settled.down in
    omega (arith, few, few_left c.args.field.now stage.reached stage.candidate.lists c.down.result.now left_over)

-- the lower seats are split behind the next scoregroup
whole : (lower front back : List ℕ) (n : ℕ) → front ≡ take n lower → back ≡ drop n lower → front ++ back ≡ lower
whole lower front back n front_is back_is = ap (λ xs. xs ++ back) front_is ∙ ap (λ xs. take n lower ++ xs) back_is ∙ take-append-drop n lower

pub split_at-requires : goal.split_at-requires
split_at-requires c = front_few c.args.field.now c.args.lower.now c.args.group c.requires.group

pub first_group-requires-clause-goes : goal.first_group-requires-clause-goes
first_group-requires-clause-goes c =
    let facts = c.args.field.now in
    let stage = c.args.stage.now in
    let lower = c.args.lower.now in
    let parts = c.split_at.result in
    let left = left_is facts stage.reached stage.candidate.lists c.seats.result.now c.down.result.now c.seats_of-left.result.items
    (c.seats.ensures ∙ ap (λ (s : Stage). s.reached.seats) c.stage.view_is)
    (c.down.ensures ∙ (ap (λ (best : Best). best.candidate.down) c.deref.ensures ∙ ap (λ (s : Stage). s.candidate.down) c.stage.view_is) ∙ c.requires.settled.down)
    c.seats_of-left.ensures in
    subst (λ (xs : List ℕ). Goes facts xs (parts.0.now ++ parts.1.now)) (sym left)
    (subst (Goes facts _) (sym (whole lower parts.0.now parts.1.now c.args.group c.split_at.ensures.front c.split_at.ensures.back))
    (stands_left facts stage.reached.number stage.reached lower c.requires.stands
    (record { falls = c.scores_do_not_ascend.ensures.scores; few = c.scores_do_not_ascend.ensures.few }) (choice_of stage)))

pub first_group-requires-clause-out : goal.first_group-requires-clause-out
first_group-requires-clause-out c =
    let facts = c.args.field.now in
    let stage = c.args.stage.now in
    let lower = c.args.lower.now in
    let parts = c.split_at.result in
    let left = left_is facts stage.reached stage.candidate.lists c.seats.result.now c.down.result.now c.seats_of-left.result.items
    (c.seats.ensures ∙ ap (λ (s : Stage). s.reached.seats) c.stage.view_is)
    (c.down.ensures ∙ (ap (λ (best : Best). best.candidate.down) c.deref.ensures ∙ ap (λ (s : Stage). s.candidate.down) c.stage.view_is) ∙ c.requires.settled.down)
    c.seats_of-left.ensures in
    let kind = sym (c.kind.ensures ∙ ap (λ (s : Stage). s.reached.kind) c.stage.view_is) ∙ c.in-Ordinary.is in
    subst (λ (xs : List ℕ). GoesOut facts xs (parts.0.now ++ parts.1.now)) (sym left)
    (subst (GoesOut facts _) (sym (whole lower parts.0.now parts.1.now c.args.group c.split_at.ensures.front c.split_at.ensures.back))
    (ordinary_out facts stage.reached.number stage.reached lower (choice_of stage) c.requires.stands kind c.requires.settled.choice
    (is_kept facts lower stage c.requires.settled (sym (ap (λ (s : Stage). s.again) c.stage.view_is) ∙ c.if-stage.false) kind)))

pub first_group-requires-clause-first : goal.first_group-requires-clause-first
first_group-requires-clause-first c =
    let facts = c.args.field.now in
    let lower = c.args.lower.now in
    let parts = c.split_at.result in
    c.split_at.ensures.front ∙ front_taken facts lower c.args.group c.requires.group
    ∙ ap (λ (xs : List ℕ). first_group facts (scoregroups facts xs)) (sym (whole lower parts.0.now parts.1.now c.args.group c.split_at.ensures.front c.split_at.ensures.back))

pub bracket-requires : goal.bracket-requires
bracket-requires c =
    let facts = c.args.field.now in
    let stage = c.args.stage.now in
    let left = left_is facts stage.reached stage.candidate.lists c.seats.result.now c.down.result.now c.seats_of-left.result.items
    (c.seats.ensures ∙ ap (λ (s : Stage). s.reached.seats) c.stage.view_is)
    (c.down.ensures ∙ (ap (λ (best : Best). best.candidate.down) c.deref.ensures ∙ ap (λ (s : Stage). s.candidate.down) c.stage.view_is) ∙ c.requires.settled.down)
    c.seats_of-left.ensures in
    let above = stands_above facts stage.reached.number stage.reached c.args.lower.now c.requires.stands
    (record { falls = c.scores_do_not_ascend.ensures.scores; few = c.scores_do_not_ascend.ensures.few }) in
    left_few facts stage.reached stage.candidate.lists c.args.lower.now c.deref-in-Penultimate.result.now (c.deref-in-Penultimate.ensures.0 ∙ left) above.few

pub returns-in-Penultimate-clause-stands : goal.returns-in-Penultimate-clause-stands
returns-in-Penultimate-clause-stands c =
    let facts = c.args.field.now in
    let stage = c.args.stage.now in
    let lower = c.args.lower.now in
    let n = stage.reached.number in
    let left = left_is facts stage.reached stage.candidate.lists c.seats.result.now c.down.result.now c.seats_of-left.result.items
    (c.seats.ensures ∙ ap (λ (s : Stage). s.reached.seats) c.stage.view_is)
    (c.down.ensures ∙ (ap (λ (best : Best). best.candidate.down) c.deref.ensures ∙ ap (λ (s : Stage). s.candidate.down) c.stage.view_is) ∙ c.requires.settled.down)
    c.seats_of-left.ensures in
    let collapsed = stands_collapsed facts stage.reached.number stage.reached lower c.requires.stands
    (record { falls = c.scores_do_not_ascend.ensures.scores; few = c.scores_do_not_ascend.ensures.few }) (choice_of stage)
    (sym (c.kind.ensures ∙ ap (λ (s : Stage). s.reached.kind) c.stage.view_is) ∙ c.in-Penultimate.is) c.requires.settled.choice in
    let numbered = c.number-number.ensures ∙ ap (λ (s : Stage). s.reached.number) c.stage.view_is in
    let same = c.bracket.ensures ∙ ap (λ (m : ℕ). bracket (m + 1) Collapsed c.deref-in-Penultimate.result.now lower) numbered
    ∙ ap (λ (xs : List ℕ). bracket (n + 1) Collapsed xs lower) (c.deref-in-Penultimate.ensures.0 ∙ left) in
    subst (λ (b : Reached). StandsBefore facts (n + 1) b []) (sym same) collapsed

pub returns-in-Last-clause-stands : goal.returns-in-Last-clause-stands
returns-in-Last-clause-stands c =
    let facts = c.args.field.now in
    let stage = c.args.stage.now in
    let left = left_is facts stage.reached stage.candidate.lists c.seats.result.now c.down.result.now c.seats_of-left.result.items
    (c.seats.ensures ∙ ap (λ (s : Stage). s.reached.seats) c.stage.view_is)
    (c.down.ensures ∙ (ap (λ (best : Best). best.candidate.down) c.deref.ensures ∙ ap (λ (s : Stage). s.candidate.down) c.stage.view_is) ∙ c.requires.settled.down)
    c.seats_of-left.ensures in
    let above = stands_above facts stage.reached.number stage.reached c.args.lower.now c.requires.stands
    (record { falls = c.scores_do_not_ascend.ensures.scores; few = c.scores_do_not_ascend.ensures.few }) in
    down_seats facts stage.reached stage.candidate.lists c.seats_of-left.result.items above.bracket left
