-- None of the Limbo's numbers is in an S1 of nobody.
use Rattle.std.proofs.Common.{◌≡◌, ℕ, ◌+◌, ◌-◌, List, [], ◌++◌, length, map, ap, ◌∙◌}
use Rattle.std.proofs.lemmas.List.{length-map}
use Rattle.dutch_arrangements.specs.Prelude.{left_of, numbers_from}
use Rattle.dutch_sequence.proofs.Members.{length-numbers}
use Rattle.dutch_bracket.specs.Prelude.{Reached, seat_of, score_at}
use Rattle.dutch_bracket.proofs.ArrangementParts.{left_none}
use Rattle.dutch_floors.proofs.first_value.first_limbo.Goals as goal

pub returns-clause-items : goal.returns-clause-items
returns-clause-items c =
    let reached = c.args.shaped.now.context.now.reached in
    let m : ℕ = c.args.shaped.now.shape.mdps in
    let f : ℕ → ℕ = λ i. score_at c.args.shaped.now.context.now.facts (seat_of reached.seats i) in
    let same : c.deref.result.now ≡ numbers_from (m + 1) (reached.mdps - m) =
    c.deref.ensures.0 ∙ c.numbered_from-limbo.ensures.items ∙ ap (λ q. numbers_from (m + 1) (q - m)) (c.mdps.ensures ∙ ap (λ (s : Reached). s.mdps) c.reached.ensures.value) in
    c.push_left.ensures.items ∙ ap (λ (front : List ℕ). front ++ map f (left_of c.deref.result.now [])) c.new-scores.ensures ∙ ap (map f) (left_none c.deref.result.now ∙ same)

pub returns-clause-len : goal.returns-clause-len
returns-clause-len c =
    let reached = c.args.shaped.now.context.now.reached in
    let m : ℕ = c.args.shaped.now.shape.mdps in
    ap length (returns-clause-items c)
    ∙ (length-map (numbers_from (m + 1) (reached.mdps - m)) (λ i. score_at c.args.shaped.now.context.now.facts (seat_of reached.seats i)) ∙ length-numbers (m + 1) (reached.mdps - m))
