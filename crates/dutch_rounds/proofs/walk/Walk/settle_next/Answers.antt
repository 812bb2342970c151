-- The bracket that comes next has a candidate, and the walk goes behind it.
use Rattle.std.proofs.Common.{◌≡◌, ℕ, ◌+◌, ◌≤◌, List, [], ◌∷◌, ◌++◌, length, refl, ap, sym, ◌∙◌, subst, arith, append-nil}
use Rattle.std.proofs.lemmas.List.{length-append}
use Rattle.std.proofs.lemmas.Option.{MatchOption-at_none, MatchOption-at_some}
use Rattle.dutch_player.specs.Prelude.{Facts}
use Rattle.dutch_bracket.specs.Prelude.{AreSeats, Context, HasCandidate, Reached, first_group, scoregroups}
use Rattle.dutch_rounds.specs.declared.walk.Next.{Next}
use Rattle.dutch_rounds.specs.Prelude.{HasEnded, Visit, ending, IsStage, visit, round, IsBehind, IsSettled, StandsAt, Walk, bye_at, round_by, round_from, stage_first, StandsBefore}
use Rattle.dutch_rounds.proofs.NoDeadEnd.{stands_has}
use Rattle.dutch_rounds.proofs.RoundEnds.{passed_more}
use Rattle.dutch_rounds.proofs.WalkSteps.{stage_is, stands_above, stands_number}
use Rattle.dutch_rounds.proofs.walk.Walk.settle_next.Given.{Over}
use Rattle.dutch_rounds.proofs.walk.Walk.settle_next.Goals as goal
use Rattle.dutch_rounds.proofs.walk.Walk.settle_next.Goals.{After-behind-self-inside, In-Bracket, In-Some}

stands : (g : Over) (c : In-Bracket g) → StandsBefore c.self.inside.ground.field.now c.self.inside.number c.in-Bracket.reached c.in-Bracket.lower.now
stands g c = let w = c.self.inside in subst (StandsAt w.ground.field.now w.number) c.in-Bracket.is c.self.invariant.stands

told : (g : Over) (c : After-behind-self-inside g) → (c.in-Some.stage.reached ≡ c.in-Bracket.reached) × IsSettled c.self.inside.ground.field.now c.in-Bracket.lower.now c.in-Some.stage
told g c =
    subst (λ (k : Context). (c.in-Some.stage.reached ≡ k.reached) × IsSettled k.facts k.lower c.in-Some.stage) c.in_ok-context.ensures
    (MatchOption-at_some _ _ c.in-Some.stage c.in-Some.is c.in_ok-stage.ensures.answer)

in_some : (g : Over) (c : In-Some g) → (c.in-Some.stage.reached ≡ c.in-Bracket.reached) × IsSettled c.self.inside.ground.field.now c.in-Bracket.lower.now c.in-Some.stage
in_some g c =
    subst (λ (k : Context). (c.in-Some.stage.reached ≡ k.reached) × IsSettled k.facts k.lower c.in-Some.stage) c.in_ok-context.ensures
    (MatchOption-at_some _ _ c.in-Some.stage c.in-Some.is c.in_ok-stage.ensures.answer)

goes_on : (g : Over) (c : After-behind-self-inside g) → let facts = c.self.inside.ground.field.now in round_from facts c.self.inside.next ≡ stage_first facts c.in-Some.stage (round_from facts c.behind-self-inside.result)
goes_on g c =
    let facts = c.self.inside.ground.field.now in
    ap (round_from facts) c.in-Bracket.is ∙ ap (λ (b : Reached). round_by facts b.kind b c.in-Bracket.lower.now) (sym (told g c).0) ∙ c.behind-self-inside.ensures.rest

-- a context has the candidate of what it is made of
has_candidate : (context : Context) (facts : Facts) (reached : Reached) (lower : List ℕ) → context ≡ record { facts = facts; reached = reached; lower = lower }
    → HasCandidate facts reached lower → HasCandidate context.facts context.reached context.lower
has_candidate context facts reached lower e h = subst (λ (k : Context). HasCandidate k.facts k.reached k.lower) (sym e) h

pub context_of-requires : goal.context_of-requires
context_of-requires g c =
    let w = c.self.inside in
    stands_above w.ground.field.now w.number c.in-Bracket.reached c.in-Bracket.lower.now (stands g (goal.at.context_of-requires g c).In-Bracket)
    (record { falls = c.scores_do_not_ascend.ensures.scores; few = c.scores_do_not_ascend.ensures.few })

pub settle-requires-clause-candidate : goal.settle-requires-clause-candidate
settle-requires-clause-candidate g c =
    let w = c.self.inside in
    has_candidate c.in_ok-context.context.now w.ground.field.now c.in-Bracket.reached c.in-Bracket.lower.now c.in_ok-context.ensures
    (stands_has w.ground.field.now w.number c.in-Bracket.reached c.in-Bracket.lower.now
    (stands g (goal.at.settle-requires-clause-candidate g c).In-Bracket))

pub invariant_of-self-2 : goal.invariant_of-self-2
invariant_of-self-2 g c =
    let w = c.self.inside in
    let inv = c.self.invariant in
    let facts = w.ground.field.now in
    let stage = c.in-Some.stage in
    let next = c.behind-self-inside.result in
    let after = (goal.at.invariant_of-self-2 g c).After-behind-self-inside in
    let number = stands_number facts w.number c.in-Bracket.reached c.in-Bracket.lower.now (stands g (goal.at.invariant_of-self-2 g c).In-Bracket) in
    let more : length (inv.passed ++ visit stage ∷ []) ≡ length inv.passed + 1 = length-append inv.passed (visit stage ∷ []) in
    record {
      stands = subst (λ (n : ℕ). StandsAt facts (n + 1) next) (ap (λ (b : Reached). b.number) (told g after).0 ∙ number) c.behind-self-inside.ensures.stands;
      passed = inv.passed ++ visit stage ∷ [];
      count = omega (arith, inv.count, more);
      whole = passed_more facts stage (round_from facts next) (round_from facts w.next) inv.passed (round facts).reached (goes_on g after) inv.whole;
    }

pub returns-clause-goes : goal.returns-clause-goes
returns-clause-goes g c =
    let w = c.self.inside in
    let facts = w.ground.field.now in
    let stage = c.in-Some.stage in
    let next = c.behind-self-inside.result in
    let after = (goal.at.returns-clause-goes g c).After-behind-self-inside in
    let new : Walk = record {
      facts = facts;
      limit = c.settle.new.budget.limit;
      used = 0;
      number = w.number + 1;
      rest = round_from facts next;
      bye = bye_at next;
    } in
    subst (λ (old : Walk). IsBehind stage old new × IsStage old.facts stage) c.self.view_is (
      record {
        facts = refl;
        limit = c.in_ok-stage.ensures.spends.limit;
        used = refl;
        number = refl;
        rest = goes_on g after;
      },
      stage_is facts w.number c.in-Bracket.reached c.in-Bracket.lower.now (stands g (goal.at.returns-clause-goes g c).In-Bracket)
          (record { falls = c.scores_do_not_ascend.ensures.scores; few = c.scores_do_not_ascend.ensures.few }) stage (told g after).0 (told g after).1,
    )

pub behind-self-inside-requires-clause-stands : goal.behind-self-inside-requires-clause-stands
behind-self-inside-requires-clause-stands g c =
    let w = c.self.inside in
    let before = stands g (goal.at.behind-self-inside-requires-clause-stands g c).In-Bracket in
    let number = stands_number w.ground.field.now w.number c.in-Bracket.reached c.in-Bracket.lower.now before in
    subst (λ (b : Reached). StandsBefore w.ground.field.now b.number b c.in-Bracket.lower.now)
    (sym (in_some g (goal.at.behind-self-inside-requires-clause-stands g c).In-Some).0)
    (subst (λ (n : ℕ). StandsBefore w.ground.field.now n c.in-Bracket.reached c.in-Bracket.lower.now) (sym number) before)

pub behind-self-inside-requires-clause-settled : goal.behind-self-inside-requires-clause-settled
behind-self-inside-requires-clause-settled g c = (in_some g (goal.at.behind-self-inside-requires-clause-settled g c).In-Some).1

pub invariant_of-self : goal.invariant_of-self
invariant_of-self g c = c.self.invariant

pub invariant_of-self-in_default-2 : goal.invariant_of-self-in_default-2
invariant_of-self-in_default-2 g c = c.self.invariant

pub returns-in_default-clause-goes : goal.returns-in_default-clause-goes
returns-in_default-clause-goes g c =
    let w = c.self.inside in
    let inv = c.self.invariant in
    let facts = w.ground.field.now in
    let left = sym (ap bye_at c.in_default.is) in
    let passed = sym (append-nil inv.passed) ∙ ap (λ (next : Next). inv.passed ++ (round_from facts next).reached) (sym c.in_default.is) ∙ inv.whole in (
      refl,
      subst (λ (walk : Walk). HasEnded walk) c.self.view_is (record {
        rest = ap (round_from facts) c.in_default.is ∙ ap (ending facts) left;
        bye = subst (AreSeats facts) left (subst (StandsAt facts w.number) c.in_default.is inv.stands);
        count = inv.count ∙ ap (λ (visits : List Visit). 1 + length visits) passed;
      }),
    )

pub behind-self-inside-requires-clause-group : goal.behind-self-inside-requires-clause-group
behind-self-inside-requires-clause-group g c =
    ap (λ (seats : List ℕ). length seats)
    (subst (λ (k : Context). c.next.result.now ≡ first_group k.facts (scoregroups k.facts k.lower)) c.in_ok-context.ensures c.next.ensures.value)

pub returns-in_default-2-clause-goes : goal.returns-in_default-2-clause-goes
returns-in_default-2-clause-goes g c =
    let w = c.self.inside in
    let inv = c.self.invariant in
    let rest = (round_from w.ground.field.now w.next).reached in
    let all : length (inv.passed ++ rest) ≡ length (round w.ground.field.now).reached = ap (λ (visits : List Visit). length visits) inv.whole in
    let both : length (inv.passed ++ rest) ≡ length inv.passed + length rest = length-append inv.passed rest in (
      MatchOption-at_none _ _ c.in_default-2.is c.in_ok-stage.ensures.answer
          ∙ (c.in_ok-stage.ensures.spends.limit ∙ ap (λ (walk : Walk). walk.limit) c.self.view_is),
      omega (arith, inv.count),
      subst (λ (walk : Walk). w.number ≤ length (round walk.facts).reached + 1) c.self.view_is (omega (arith, inv.count, all, both)),
    )
