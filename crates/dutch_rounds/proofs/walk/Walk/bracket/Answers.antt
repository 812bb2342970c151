-- The bracket that comes next has a candidate, and it is the one of its number.
use Rattle.std.proofs.Common.{◌≡◌, Some, None, ap, sym, ◌∙◌, subst}
use Rattle.dutch_arrangements.specs.Prelude.{Fits}
use Rattle.dutch_bracket.specs.Prelude.{Context, HasCandidate, shape_of, Reached, frame_of}
use Rattle.dutch_rounds.specs.declared.walk.Next.{Next}
use Rattle.dutch_rounds.specs.Prelude.{bracket_and_shape, visit_at, visit_of, round, IsFound, StandsAt, Walk, round_from, StandsBefore}
use Rattle.dutch_rounds.proofs.NoDeadEnd.{stands_has}
use Rattle.dutch_rounds.proofs.RoundEnds.{visit_here}
use Rattle.dutch_rounds.proofs.WalkSteps.{stands_above, stands_number, stands_shown}
use Rattle.dutch_rounds.proofs.walk.Walk.bracket.Goals as goal
use Rattle.dutch_rounds.proofs.walk.Walk.bracket.Goals.{In-Bracket}

stands : (c : In-Bracket) → StandsBefore c.self.inside.ground.field.now c.self.inside.number c.in-Bracket.reached c.in-Bracket.lower.now
stands c = let w = c.self.inside in subst (StandsAt w.ground.field.now w.number) c.in-Bracket.is c.self.invariant.stands

pub new-context-requires : goal.new-context-requires
new-context-requires c =
    let w = c.self.inside in
    stands_above w.ground.field.now w.number c.in-Bracket.reached c.in-Bracket.lower.now (stands (goal.at.new-context-requires c).In-Bracket)
    (record { falls = c.scores_do_not_ascend.ensures.scores; few = c.scores_do_not_ascend.ensures.few })

pub shape_in-requires : goal.shape_in-requires
shape_in-requires c =
    let w = c.self.inside in
    record {
      candidate = subst (λ (k : Context). HasCandidate k.facts k.reached k.lower) (sym c.new-context.ensures)
          (stands_has w.ground.field.now w.number c.in-Bracket.reached c.in-Bracket.lower.now (stands (goal.at.shape_in-requires c).In-Bracket));
    }

pub returns-in_default-clause-found : goal.returns-in_default-clause-found
returns-in_default-clause-found c =
    let w = c.self.inside in
    let inv = c.self.invariant in
    let facts = w.ground.field.now in
    subst (λ (walk : Walk). visit_of walk.number (round walk.facts).reached ≡ None) c.self.view_is
    (visit_here w.number inv.passed (round_from facts w.next).reached (round facts).reached inv.count inv.whole
    ∙ ap (λ (next : Next). visit_at 0 (round_from facts next).reached) c.in_default.is)

pub returns-clause-found : goal.returns-clause-found
returns-clause-found c =
    let w = c.self.inside in
    let inv = c.self.invariant in
    let facts = w.ground.field.now in
    let reached = c.in-Bracket.reached in
    let lower = c.in-Bracket.lower.now in
    let shape = c.in-Ok.shape in
    let s = stands (goal.at.returns-clause-found c).In-Bracket in
    let above = stands_above facts w.number reached lower s (record { falls = c.scores_do_not_ascend.ensures.scores; few = c.scores_do_not_ascend.ensures.few }) in
    let fits = subst (λ (k : Context). (shape_of k.facts k.reached k.lower ≡ Some shape) × Fits (frame_of k.facts k.reached) shape) c.new-context.ensures c.in-Ok.ensures.answer in
    let here = visit_here w.number inv.passed (round_from facts w.next).reached (round facts).reached inv.count inv.whole
    ∙ ap (λ (next : Next). visit_at 0 (round_from facts next).reached) c.in-Bracket.is in
    subst (λ (b : Reached). IsFound c.args.self.now.facts c.args.self.now.number (Some (b, shape))) (sym c.copied.ensures)
    (subst (λ (walk : Walk). IsFound walk.facts walk.number (Some (reached, shape))) c.self.view_is
    (stands_number facts w.number reached lower s, ap bracket_and_shape here ∙ stands_shown facts w.number reached lower shape s fits.0, above.bracket, fits.1))
