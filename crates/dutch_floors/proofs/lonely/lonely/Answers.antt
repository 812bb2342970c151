-- Those who wait and the pool are those of the lists.
use Rattle.std.proofs.Common.{◌∙◌, ◌≤◌, not, filter, length, subst, arith}
use Rattle.std.specs.List.{list_any}
use Rattle.dutch_bracket.specs.Prelude.{suits}
use Rattle.dutch_floors.proofs.LonelyLemmas.{lonely_few}
use Rattle.dutch_floors.proofs.lonely.lonely.Goals as goal

pub returns-clause-value : goal.returns-clause-value
returns-clause-value c =
    let context = c.args.context.now in
    let suit = suits context.facts context.reached in
    let rest = c.rest_of_s1r-rest.result.now in
    let others = c.as_slice-pool.result.now in
    let one = subst (λ ns. c.lonely_first-first.result ≤ length (filter (λ x. not (list_any (suit x) ns)) rest)) c.new.ensures c.lonely_first-first.ensures.value in
    let two = subst (λ ns. c.lonely_second-second.result ≤ length (filter (λ y. not (list_any (λ x. suit x y) ns)) others)) c.new-2.ensures c.lonely_second-second.ensures.value in
    omega (
      arith,
      c.more_lonely.ensures,
      c.residents_down.ensures,
      lonely_few context.facts context.reached c.args.shape c.args.lists.now rest others c.lonely_first-first.result c.lonely_second-second.result
          c.rest_of_s1r-rest.ensures.items (c.as_slice-pool.ensures.value ∙ c.put_pool.ensures.items) one two,
    )
