use Rattle.std.proofs.Common.{◌≡◌, ◌∙◌, ◌++◌, ap, sym, subst, refl, filter, List}
use Rattle.std.proofs.lemmas.Bool.{true≢false}
use Rattle.dutch_arrangements.specs.Prelude.{Arrangement, may_leave, AreCandidates, Listing, only_if, still_coming, BeginsAt}
use Rattle.dutch_listing.specs.Listed.{listed}
use Rattle.dutch_arrangements.proofs.Behind.{no-candidates, still-candidates, later-candidates}
use Rattle.dutch_sequence.proofs.Skipping.{passes-none, passes-all, all-of, drawn}
use Rattle.dutch_listing.proofs.candidates.Candidates.go_on.Goals as goal
use Rattle.dutch_listing.proofs.candidates.Candidates.go_on.Goals.{then-self-2-via-then-self-2, then-self-2-via-else-self-2+then-cuts_at_first}

pub returns-then-self-2-clause-answer : goal.returns-then-self-2-clause-answer
returns-then-self-2-clause-answer g c =
    let own = c.self.inside in
    let Pruned = g.C.Cuts.Pruned c.args.cuts.now in
    let before = filter (may_leave (g.R.Rule.may_be_left own.rule.now) own.fitting.bracket.now) (listed (only_if own.drawing.is_kept own.drawing.level.latest) ++ own.drawing.level.coming) in
    let coming : before ≡ c.args.self.now.coming =
    sym (ap (λ told. still_coming told before) c.if-self.false) ∙ ap (λ (l : Listing g.row.R.Denot). l.coming) c.self.view_is in (
      elim c.then-self-2.branch [
        | then-self-2-via-then-self-2 w ↦ passes-none Pruned _ _ (sym coming ∙ c.self.invariant.1 w.if-self-2.true)
        | then-self-2-via-else-self-2+then-cuts_at_first w ↦
            passes-all Pruned _
            (all-of Pruned _
            (λ a. w.cuts_at_first.ensures.told w.if-cuts_at_first.true a (subst (λ filling. BeginsAt filling w.nothing.result.lists a) (sym w.nothing.ensures) (tt {0}))))
      ],
      refl,
      ap (λ (l : Listing g.row.R.Denot). l.latest) c.self.view_is,
    )

pub returns-then-self-2-clause-candidates : goal.returns-then-self-2-clause-candidates
returns-then-self-2-clause-candidates g c = rw (← c.self.view_is) c.self.invariant.2

pub invariant_of-self : goal.invariant_of-self
invariant_of-self g c = (c.self.invariant.0, c.self.invariant.1, no-candidates _ _ _ _)

pub invariant_of-self-in-Ok-false : goal.invariant_of-self-in-Ok-false
invariant_of-self-in-Ok-false g c = (
  c.self.invariant.0,
  λ too_many_left. absurd (true≢false (sym too_many_left ∙ c.if-self-2.false)),
  no-candidates _ _ _ _,
)

pub invariant_of-self-in-Ok-true : goal.invariant_of-self-in-Ok-true
invariant_of-self-in-Ok-true g c =
    let own = c.self.inside in
    let may = may_leave (g.R.Rule.may_be_left own.rule.now) own.fitting.bracket.now in
    let IsOne : List Arrangement → Type 0 = AreCandidates (g.R.Rule.meets own.rule.now) (g.R.Rule.may_be_left own.rule.now) own.fitting.bracket.now own.fitting.shape in
    let before = filter may (listed (only_if own.drawing.is_kept own.drawing.level.latest) ++ own.drawing.level.coming) in
    let after = filter may (listed (only_if c.draw_legal.new.drawing.is_kept c.draw_legal.new.drawing.level.latest) ++ c.draw_legal.new.drawing.level.coming) in
    let all = subst (λ told. IsOne (still_coming told before)) c.if-self.false c.self.invariant.2 in (
      c.self.invariant.0,
      λ too_many_left. absurd (true≢false (sym too_many_left ∙ c.if-self-2.false)),
      subst (λ told. IsOne (still_coming told after)) (sym c.if-self.false)
          (later-candidates _ _ _ _ (g.C.Cuts.Pruned c.cuts_at_first.new.self) before _ _ (drawn _ _ _ c.in-Ok-true.field-0-test c.in-Ok-true.ensures.answer).0 all),
    )

pub invariant_of-self-in-Err : goal.invariant_of-self-in-Err
invariant_of-self-in-Err g c =
    let own = c.self.inside in
    let may = may_leave (g.R.Rule.may_be_left own.rule.now) own.fitting.bracket.now in
    let IsOne : List Arrangement → Type 0 = AreCandidates (g.R.Rule.meets own.rule.now) (g.R.Rule.may_be_left own.rule.now) own.fitting.bracket.now own.fitting.shape in
    let before = filter may (listed (only_if own.drawing.is_kept own.drawing.level.latest) ++ own.drawing.level.coming) in
    let after = filter may (listed (only_if c.draw_legal.new.drawing.is_kept c.draw_legal.new.drawing.level.latest) ++ c.draw_legal.new.drawing.level.coming) in
    let all = subst (λ told. IsOne (still_coming told before)) c.if-self.false c.self.invariant.2 in (
      c.self.invariant.0,
      λ too_many_left. absurd (true≢false (sym too_many_left ∙ c.if-self-2.false)),
      subst (λ told. IsOne (still_coming told after)) (sym c.if-self.false)
          (still-candidates _ _ _ _ (g.C.Cuts.Pruned c.cuts_at_first.new.self) before after c.in-Err.ensures.answer.0 all),
    )
