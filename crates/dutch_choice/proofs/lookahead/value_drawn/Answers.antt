-- The first candidate of the greatest shape has the least PSD of all.
use Rattle.std.proofs.Common.{◌≡◌, ℕ, ◌≤◌, Option, None, MatchOption, sym, ap, ◌∙◌, subst, refl}
use Rattle.std.specs.Prelude.{slice_index}
use Rattle.std.proofs.lemmas.Option.{MatchOption-at_some}
use Rattle.dutch_arrangements.specs.Prelude.{Frame}
use Rattle.dutch_arrangements.specs.declared.bracket.Shape.{Shape}
use Rattle.dutch_bracket.specs.Prelude.{Seated, by_seats, psd, legal_by, value_of_shape, value_of, frame_of, greatest_shape}
use Rattle.dutch_bracket.proofs.FlatBrackets.{candidate_of, greatest_as, in_legal, value_found}
use Rattle.dutch_choice.proofs.lookahead.value_drawn.Goals as goal

at_none : (A : Type 0) (B : Shape → Type 0) (o : Option Shape) → o ≡ None → MatchOption o A B → A
at_none A B o e h = subst (λ (o : Option Shape). MatchOption o A B) e h

pub returns-in_default : goal.returns-in_default
unfolding value_of
returns-in_default c =
    let facts = c.args.legal.now.rule.now.field.now in
    let reached = c.args.legal.now.rule.now.reached.now in
    let none : greatest_shape (legal_by facts reached c.args.legal.now.bracket.now) c.args.legal.now.bracket.now ≡ None =
    at_none _ _ c.args.found c.in_default.is c.requires.found in
    let is : greatest_shape (legal_by facts reached (frame_of facts reached)) (frame_of facts reached) ≡ None =
    subst (λ (f : Frame). greatest_shape (legal_by facts reached f) f ≡ None) c.requires.frame none in
    c.none.ensures ∙ ap (value_of_shape facts reached) (sym is)

pub by_seats-first-requires : goal.by_seats-first-requires
by_seats-first-requires c =
    let facts = c.args.legal.now.rule.now.field.now in
    let reached = c.args.legal.now.rule.now.reached.now in
    let shape = c.in-Some.shape in
    let first = c.args.drawn.now in
    let known = greatest_as facts facts reached reached c.args.legal.now.bracket.now shape first refl refl c.requires.frame
    (MatchOption-at_some _ _ shape c.in-Some.is c.requires.found) in
    candidate_of facts reached shape first c.args.legal.now.rule.now.sound (in_legal facts reached shape first.lists known.1.others known.1.first) known.1.down

pub returns : goal.returns
unfolding value_of
returns c =
    let facts = c.args.legal.now.rule.now.field.now in
    let reached = c.args.legal.now.rule.now.reached.now in
    let shape = c.in-Some.shape in
    let first = c.args.drawn.now in
    let known = greatest_as facts facts reached reached c.args.legal.now.bracket.now shape first refl refl c.requires.frame
    (MatchOption-at_some _ _ shape c.in-Some.is c.requires.found) in
    value_found facts reached shape first known.1.others c.fill_psd.new.numbers.items c.args.legal.now.rule.now.sound c.requires.flat
    (let P : Frame → Type 0 = λ frame. (i : ℕ) → slice_index frame.scores i ≤ 65535 in subst P c.requires.frame c.requires.small)
    known.1.first known.1.down
    (c.fill_psd.ensures ∙ ap (λ (candidate : Seated). psd facts candidate) (c.by_seats-first.ensures ∙ ap (λ seats. by_seats facts seats first) c.seats.ensures))
    ∙ ap (value_of_shape facts reached) (sym known.0)
