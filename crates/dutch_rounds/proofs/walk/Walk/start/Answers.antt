-- At first all seats are to come, and they can be paired out.
use Rattle.std.proofs.Common.{◌++◌, [], List, ℕ, sym, ap, ◌∙◌, subst}
use Rattle.dutch_bracket.specs.Prelude.{first_group, scoregroups}
use Rattle.dutch_rounds.specs.Prelude.{GoesOut}
use Rattle.dutch_rounds.proofs.GroupWalk.{everybody_goes}
use Rattle.dutch_rounds.proofs.NoDeadEnd.{everybody_out}
use Rattle.dutch_rounds.proofs.walk.Walk.start.Goals as goal

pub first_group-requires-clause-goes : goal.first_group-requires-clause-goes
first_group-requires-clause-goes c =
    let parts = c.split_first_group.result in
    everybody_goes c.args.ground.field.now c.new.result.items (parts.0.now ++ parts.1.now) c.new.ensures (c.split_first_group.ensures.whole ∙ c.requires.all)

pub first_group-requires-clause-out : goal.first_group-requires-clause-out
first_group-requires-clause-out c =
    let facts = c.args.ground.field.now in
    let whole = c.split_first_group.ensures.whole in
    subst (λ (xs : List ℕ). GoesOut facts xs (c.split_first_group.result.0.now ++ c.split_first_group.result.1.now)) (sym c.new.ensures)
    (subst (GoesOut facts []) (sym whole) (everybody_out facts c.args.all.now c.requires.all (sym c.in-Ok-true.ensures.answer ∙ c.in-Ok-true.field-0-test)))

pub first_group-requires-clause-first : goal.first_group-requires-clause-first
first_group-requires-clause-first c =
    c.split_first_group.ensures.first ∙ ap (λ (xs : List ℕ). first_group c.args.ground.field.now (scoregroups c.args.ground.field.now xs)) (sym c.split_first_group.ensures.whole)
