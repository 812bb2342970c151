-- The residents that are not marked: those of the three lists are marked one by one.
use Rattle.std.proofs.Common.{◌≡◌, ◌∙◌, ◌+◌, ◌≤◌, ◌||◌, Bool, not, filter, length, map, ap, arith}
use Rattle.std.proofs.lemmas.List.{length-map}
use Rattle.dutch_arrangements.specs.Prelude.{Arrangement, is_member, numbers_from}
use Rattle.dutch_bracket.specs.Prelude.{has_bit, Reached, score_at}
use Rattle.dutch_candidates.proofs.BitLemmas.{none_set}
use Rattle.dutch_floors.proofs.LonelyLemmas.{pool_is}
use Rattle.dutch_floors.proofs.lonely.put_pool.Goals as goal

pub returns-clause-items : goal.returns-clause-items
returns-clause-items c =
    let mdps : c.mdps-mdps.result ≡ c.args.context.now.reached.mdps = c.mdps-mdps.ensures ∙ ap (λ (s : Reached). s.mdps) c.reached.ensures.value in
    let within : c.args.context.now.reached.mdps ≤ length (map (score_at c.args.context.now.facts) c.args.context.now.reached.seats) = c.reached.ensures.sound.sound.within in
    let counted = length-map c.args.context.now.reached.seats (score_at c.args.context.now.facts) in
    pool_is c.args.context.now.facts c.args.context.now.reached c.args.lists.now c.mark-3.new.marks c.put_unmarked.new.left.items c.saturating_sub-residents.result
    (omega (arith, within, counted)) (omega (arith, counted, c.reached.ensures.sound.sound.few))
    (omega (arith, c.saturating_sub-residents.ensures, c.len.ensures.value, mdps))
    (λ i small.
    c.mark-3.ensures i small ∙ (ap (λ (t : Bool). t || is_member i c.lists.inside.s2r.now) (c.mark-2.ensures i small
    ∙ ap (λ (t : Bool). t || is_member i c.lists.inside.s1r.now) (c.mark.ensures i small ∙ ap (λ (t : Bool). t || is_member i c.lists.inside.s2.now) (none_set 17 i)))
    ∙ ap (λ (b : Arrangement). (is_member i b.s2 || is_member i b.s1r) || is_member i b.s2r) c.lists.view_is))
    (c.put_unmarked.ensures.items ∙ ap (λ k. filter (λ x. not (has_bit c.mark-3.new.marks x)) (numbers_from (k + 1) c.saturating_sub-residents.result)) mdps)
