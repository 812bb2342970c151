-- The shape has room in the bracket, and all its arrangements have one PSD.
use Rattle.std.proofs.Common.{◌≡◌, ℕ, ◌+◌, List, refl, sym, ap, ◌∙◌}
use Rattle.dutch_arrangements.specs.Prelude.{numbers_from}
use Rattle.dutch_bracket.specs.Prelude.{psd_with, NextValue, frame_of, score_at, seat_of}
use Rattle.dutch_choice.proofs.AlwaysShapes.{always_fits}
use Rattle.dutch_candidates.proofs.ShapeNumbers.{first_length, has_room, small_mdps}
use Rattle.dutch_choice.proofs.UniformShapes.{value_of_uniform}
use Rattle.dutch_choice.proofs.lookahead.value_by_shape.Goals as goal

pub numbered_from-requires-clause-few : goal.numbered_from-requires-clause-few
numbered_from-requires-clause-few c =
    let facts = c.args.rule.field.now in
    let reached = c.args.rule.reached.now in
    small_mdps facts reached c.args.shape (always_fits facts reached c.args.shape c.requires.shape (frame_of facts reached) refl) c.args.rule.sound

pub fill_psd-requires : goal.fill_psd-requires
fill_psd-requires c =
    let facts = c.args.rule.field.now in
    let reached = c.args.rule.reached.now in
    let fits = always_fits facts reached c.args.shape c.requires.shape (frame_of facts reached) refl in
    has_room facts reached c.args.shape _ fits c.args.rule.sound (first_length c.args.shape c.deref.result.now (c.deref.ensures.0 ∙ c.numbered_from.ensures.items))

pub returns : goal.returns
returns c =
    let facts = c.args.rule.field.now in
    let reached = c.args.rule.reached.now in
    let shape = c.args.shape in
    let uniform = value_of_uniform facts reached shape c.args.rule.sound c.requires.flat (sym c.is_uniform.ensures ∙ c.if-not-is_uniform.false) c.requires.shape in
    let score : c.score-score.result ≡ score_at facts (seat_of reached.seats (reached.mdps + 1)) = c.score-score.ensures.value ∙ ap (λ k. score_at facts (seat_of reached.seats (k + 1))) c.mdps.ensures in
    let filled : c.fill_psd.new.psd.items ≡ psd_with facts reached shape (score_at facts (seat_of reached.seats (reached.mdps + 1))) (numbers_from 1 shape.mdps) =
    c.fill_psd.ensures
    ∙ ap (psd_with facts reached shape c.score-score.result) (c.deref.ensures.0 ∙ c.numbered_from.ensures.items)
    ∙ ap (λ s. psd_with facts reached shape s (numbers_from 1 shape.mdps)) score in
    ap (λ (list : List ℕ). let value : NextValue = record { pairs = shape.pairs; psd = list } in value) filled ∙ uniform
