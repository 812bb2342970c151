use Rattle.std.proofs.Common.{◌∙◌, ◌++◌, filter, ap, sym, subst, length, ◌-◌, ◌*◌, nat_lt, option_copied}
use Rattle.std.proofs.lemmas.Bool.{and_parts, ltb-true}
use Rattle.dutch_arrangements.specs.Prelude.{may_leave, AreCandidates, only_if}
use Rattle.dutch_listing.specs.Listed.{listed}
use Rattle.dutch_arrangements.proofs.Behind.{candidates-all, levels-beginning, none-from}
use Rattle.dutch_listing.proofs.TooManyLeft.{none-legal}
use Rattle.dutch_listing.proofs.candidates.Candidates.begin.Goals as goal

pub invariant_of-self : goal.invariant_of-self
invariant_of-self g c =
    let frame = c.args.fitting.bracket.now in
    let shape = c.args.fitting.shape in
    let meets = g.R.Rule.meets c.args.rule.now in
    let may_be_left = g.R.Rule.may_be_left c.args.rule.now in
    let own = option_copied c.args.own in
    let coming =
    ap (λ kept. filter (may_leave may_be_left frame) (listed (only_if kept c.start_drawing.new.drawing.level.latest) ++ c.start_drawing.new.drawing.level.coming)) c.start_drawing.ensures.kept
    ∙ ap (filter (may_leave may_be_left frame)) c.start_drawing.ensures.level
    ∙ levels-beginning frame shape meets may_be_left own c.requires.given in (
      c.leaves_too_many-self-inside.ensures,
      λ too_many_left.
          let many = and_parts frame.last (nat_lt 1 (length frame.scores - 2 * shape.pairs)) (sym c.leaves_too_many-self-inside.ensures ∙ too_many_left) in
          coming
          ∙ none-from frame shape meets may_be_left own
          (none-legal frame shape meets may_be_left c.args.fitting.fits many.0 (ltb-true 1 (length frame.scores - 2 * shape.pairs) many.1)),
      subst (AreCandidates meets may_be_left frame shape) (sym coming) (candidates-all frame shape meets may_be_left own),
    )

pub returns-clause-coming : goal.returns-clause-coming
returns-clause-coming g c =
    let frame = c.args.fitting.bracket.now in
    let shape = c.args.fitting.shape in
    let meets = g.R.Rule.meets c.args.rule.now in
    let may_be_left = g.R.Rule.may_be_left c.args.rule.now in
    let own = option_copied c.args.own in
    ap (λ kept. filter (may_leave may_be_left frame) (listed (only_if kept c.start_drawing.new.drawing.level.latest) ++ c.start_drawing.new.drawing.level.coming)) c.start_drawing.ensures.kept
    ∙ ap (filter (may_leave may_be_left frame)) c.start_drawing.ensures.level
    ∙ levels-beginning frame shape meets may_be_left own c.requires.given
