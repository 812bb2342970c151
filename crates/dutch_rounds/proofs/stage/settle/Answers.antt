-- What is settled is the choice of the bracket that was read.
use Rattle.std.proofs.Common.{◌≤◌, ◌++◌, length, map, ap, sym, ◌∙◌, subst}
use Rattle.std.proofs.lemmas.Option.{MatchOption-at_some}
use Rattle.dutch_bracket.specs.Prelude.{completable, seat_of}
use Rattle.dutch_choice.specs.declared.finder.Best.{Best}
use Rattle.dutch_rounds.specs.Prelude.{is_again}
use Rattle.dutch_rounds.proofs.WalkEnds.{few_left}
use Rattle.dutch_rounds.proofs.WalkSteps.{settled_in}
use Rattle.dutch_rounds.proofs.stage.settle.Goals as goal

pub is_again-requires : goal.is_again-requires
is_again-requires g c =
    let k = c.args.context.now in
    let chosen = c.in-Some.chosen in
    let candidate = chosen.best.value.candidate in
    let h = MatchOption-at_some _ _ chosen c.in-Some.is c.in_ok-chosen.ensures.answer in
    subst (λ (best : Best). length best.candidate.down ≤ length k.reached.seats) (sym c.deref.ensures)
    (few_left k.facts k.reached candidate.lists candidate.down h.1)

pub returns-clause-answer : goal.returns-clause-answer
returns-clause-answer g c =
    let k = c.args.context.now in
    let chosen = c.in-Some.chosen in
    let best = chosen.best.value in
    let h = MatchOption-at_some _ _ chosen c.in-Some.is c.in_ok-chosen.ensures.answer in
    let own = c.copied.ensures ∙ c.reached.ensures.value in
    let told = c.in-Ok.ensures.answer
    ∙ ap (λ (b : Best). is_again k.reached.kind (completable k.facts (map (seat_of k.reached.seats) b.candidate.down ++ k.lower))) c.deref.ensures in (
      own,
      settled_in k (record { reached = c.copied.result; shape = chosen.shape; candidate = best.candidate; quality = best.quality; again = c.in-Ok.again })
          own h.0 h.1 h.3 told,
    )
