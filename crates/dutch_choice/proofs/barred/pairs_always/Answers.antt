-- Where a shape pairs all moved-down players, or all residents, none of them is left over.
use Rattle.std.proofs.Common.{◌≡◌, sym, ap, ◌∙◌, arith}
use Rattle.std.proofs.lemmas.List.{length-map}
use Rattle.dutch_bracket.specs.Prelude.{residents_down, Reached, frame_of, is_number, score_at}
use Rattle.dutch_choice.proofs.AllPaired.{bounds, equal, moved_down_paired, residents_paired}
use Rattle.dutch_bracket.proofs.LegalPairs.{legal_of}
use Rattle.dutch_choice.proofs.barred.pairs_always.Goals as goal

pub returns-then-from-mdps : goal.returns-then-from-mdps
returns-then-from-mdps c = λ all a listed.
    let facts = c.args.shaped.now.context.now.facts in
    let reached = c.args.shaped.now.context.now.reached in
    let value = c.reached-reached.ensures.value in
    let number = bounds reached c.args.number (ap (λ (s : Reached). is_number s c.args.number) (sym value) ∙ sym c.if-not-has.ensures) in
    let mdps = c.mdps.ensures ∙ ap (λ (s : Reached). s.mdps) value in
    let again = c.mdps-then-from-mdps.ensures ∙ ap (λ (s : Reached). s.mdps) value in
    moved_down_paired (frame_of facts reached) c.args.shaped.now.shape a c.args.number c.reached-reached.ensures.sound.sound.within (legal_of facts reached c.args.shaped.now.shape a listed).arranged
    (equal c.args.shaped.now.shape.mdps c.mdps-then-from-mdps.result all ∙ again) (omega (arith, number.0)) (omega (arith, c.if-from-mdps.true, c.from.ensures, mdps))

pub returns : goal.returns
returns c = λ none a listed.
    let facts = c.args.shaped.now.context.now.facts in
    let reached = c.args.shaped.now.context.now.reached in
    let value = c.reached-reached.ensures.value in
    let number = bounds reached c.args.number (ap (λ (s : Reached). is_number s c.args.number) (sym value) ∙ sym c.if-not-has.ensures) in
    let mdps = c.mdps.ensures ∙ ap (λ (s : Reached). s.mdps) value in
    let counted = length-map reached.seats (score_at facts) in
    let nobody : residents_down reached c.args.shaped.now.shape ≡ 0 = sym c.residents_down.ensures ∙ equal c.residents_down.result 0 none in
    residents_paired (frame_of facts reached) c.args.shaped.now.shape a c.args.number c.reached-reached.ensures.sound.sound.within (legal_of facts reached c.args.shaped.now.shape a listed).arranged
    (omega (arith, nobody, counted)) (omega (arith, c.if-from-mdps.false, c.from.ensures, mdps)) (omega (arith, number.1, counted))
