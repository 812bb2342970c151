use Rattle.std.proofs.Common.{◌≡◌, ◌∙◌, ap, sym, subst, length, take, arith, ◌-◌, ◌+◌, ◌≤◌, ℕ, List, option_copied}
use Rattle.std.specs.List.{AllByRecursion}
use Rattle.dutch_arrangements.specs.Prelude.{Arrangement, arrangements, residents_of, from_on, subsets, numbers_from, IsIn, HasS2, Of, choices_from, in_bracket, joined, s1_blocks, limbo_exchanges}
use Rattle.dutch_arrangements.proofs.Behind.{cursor-s1, cursor-s2}
use Rattle.dutch_sequence.proofs.Counts.{sets-fit, from_on-all}
use Rattle.dutch_sequence.proofs.Members.{length-numbers}
use Rattle.dutch_listing.proofs.choices.ByS1.start.Goals as goal

pub start_from-requires-clause-given : goal.start_from-requires-clause-given
start_from-requires-clause-given g c =
    let frame = c.args.from.now.bracket.now in
    let shape = c.args.from.now.shape in
    let given = subst (λ own. Of (λ cursor. IsIn cursor (arrangements frame shape)) (option_copied own)) c.in-Some.is c.requires.given in
    let scores : take frame.mdps frame.scores ≡ take c.mdps.result c.scores.result.now =
    ap (λ n. take n frame.scores) (sym c.mdps.ensures) ∙ ap (take c.mdps.result) (sym c.scores.ensures.scores) in
    let at_s1 = ap (λ (a : Arrangement). a.s1) c.own.view_is in
    subst (λ s1. IsIn s1 (subsets (numbers_from 1 (length (take c.mdps.result c.scores.result.now))) shape.mdps)) (sym (c.deref.ensures.0 ∙ at_s1))
    (subst (λ scores. IsIn c.in-Some.own.now.s1 (subsets (numbers_from 1 (length scores)) shape.mdps)) scores
    (cursor-s1 frame shape (g.R.Rule.meets c.args.rule.now) c.in-Some.own.now given))

pub invariant_of-self : goal.invariant_of-self
invariant_of-self g c =
    let frame = c.args.from.now.bracket.now in
    let shape = c.args.from.now.shape in
    let k = shape.pairs - shape.mdps in
    let room = length c.put_residents.new.residents.items in
    let sets = limbo_exchanges (take c.mdps.result c.scores.result.now) shape.mdps in
    let enough : shape.mdps + k ≤ room =
    omega (arith, c.args.from.now.fits.within_pairs, c.args.from.now.fits.residents_enough, ap length c.put_residents.ensures.items, length-numbers (frame.mdps + 1) (length frame.scores - frame.mdps)) in (
      c.put_residents.ensures.ascends,
      subst (AllByRecursion (λ (s1 : List ℕ). length s1 + k ≤ room)) (sym c.start_from.ensures.coming)
          (from_on-all (λ s1. length s1 + k ≤ room) c.deref.result.now sets (sets-fit (take c.mdps.result c.scores.result.now) shape.mdps k room enough)),
    )

pub invariant_of-self-in-None : goal.invariant_of-self-in-None
invariant_of-self-in-None g c =
    let frame = c.args.from.now.bracket.now in
    let shape = c.args.from.now.shape in
    let k = shape.pairs - shape.mdps in
    let room = length c.put_residents.new.residents.items in
    let enough : shape.mdps + k ≤ room =
    omega (arith, c.args.from.now.fits.within_pairs, c.args.from.now.fits.residents_enough, ap length c.put_residents.ensures.items, length-numbers (frame.mdps + 1) (length frame.scores - frame.mdps)) in (
      c.put_residents.ensures.ascends,
      subst (AllByRecursion (λ (s1 : List ℕ). length s1 + k ≤ room)) (sym c.start.ensures.coming)
          (sets-fit (take c.mdps.result c.scores.result.now) shape.mdps k room enough),
    )

pub returns-in-Some-clause-blocks : goal.returns-in-Some-clause-blocks
unfolding in_bracket
returns-in-Some-clause-blocks g c =
    let frame = c.args.from.now.bracket.now in
    let shape = c.args.from.now.shape in
    let k = shape.pairs - shape.mdps in
    let meets = g.R.Rule.meets c.args.rule.now in
    let at = option_copied c.args.own in
    let own = c.in-Some.own.now in
    let all = limbo_exchanges (take frame.mdps frame.scores) shape.mdps in
    let scores : take frame.mdps frame.scores ≡ take c.mdps.result c.scores.result.now =
    ap (λ n. take n frame.scores) (sym c.mdps.ensures) ∙ ap (take c.mdps.result) (sym c.scores.ensures.scores) in
    let at_s1 = ap (λ (a : Arrangement). a.s1) c.own.view_is in
    let sets : c.start_from.new.self.coming ≡ from_on own.s1 all =
    c.start_from.ensures.coming
    ∙ ap (λ s1. from_on s1 (limbo_exchanges (take c.mdps.result c.scores.result.now) shape.mdps)) (c.deref.ensures.0 ∙ at_s1)
    ∙ ap (λ scores. from_on own.s1 (limbo_exchanges scores shape.mdps)) (sym scores) in
    ap (λ residents. joined (s1_blocks meets k residents at c.start_from.new.self.coming)) c.put_residents.ensures.items
    ∙ ap (λ sets. joined (s1_blocks meets k (residents_of frame) at sets)) (sets ∙ ap (λ other. choices_from (λ a. a.s1) other all) (sym (ap (λ lent. option_copied lent) c.in-Some.is)))

pub returns-in-None-clause-blocks : goal.returns-in-None-clause-blocks
unfolding in_bracket
returns-in-None-clause-blocks g c =
    let frame = c.args.from.now.bracket.now in
    let shape = c.args.from.now.shape in
    let k = shape.pairs - shape.mdps in
    let meets = g.R.Rule.meets c.args.rule.now in
    let at = option_copied c.args.own in
    let all = limbo_exchanges (take frame.mdps frame.scores) shape.mdps in
    let scores : take frame.mdps frame.scores ≡ take c.mdps.result c.scores.result.now =
    ap (λ n. take n frame.scores) (sym c.mdps.ensures) ∙ ap (take c.mdps.result) (sym c.scores.ensures.scores) in
    let sets : c.start.new.self.coming ≡ all = c.start.ensures.coming ∙ ap (λ scores. limbo_exchanges scores shape.mdps) (sym scores) in
    ap (λ residents. joined (s1_blocks meets k residents at c.start.new.self.coming)) c.put_residents.ensures.items
    ∙ ap (λ sets. joined (s1_blocks meets k (residents_of frame) at sets)) (sets ∙ ap (λ other. choices_from (λ a. a.s1) other all) (sym (ap (λ lent. option_copied lent) c.in-None.is)))

pub returns-in-Some-clause-given : goal.returns-in-Some-clause-given
returns-in-Some-clause-given g c =
    let frame = c.args.from.now.bracket.now in
    let shape = c.args.from.now.shape in
    subst (λ residents. Of (HasS2 (shape.pairs - shape.mdps) residents) (option_copied c.args.own)) (sym c.put_residents.ensures.items)
    (cursor-s2 frame shape (g.R.Rule.meets c.args.rule.now) (option_copied c.args.own) c.requires.given)

pub returns-in-None-clause-given : goal.returns-in-None-clause-given
returns-in-None-clause-given g c =
    let frame = c.args.from.now.bracket.now in
    let shape = c.args.from.now.shape in
    subst (λ residents. Of (HasS2 (shape.pairs - shape.mdps) residents) (option_copied c.args.own)) (sym c.put_residents.ensures.items)
    (cursor-s2 frame shape (g.R.Rule.meets c.args.rule.now) (option_copied c.args.own) c.requires.given)
