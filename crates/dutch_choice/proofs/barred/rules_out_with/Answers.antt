-- Two residents of whom each S1R of a class has both or neither do not meet.
use Rattle.std.proofs.Common.{ap, ◌∙◌, arith}
use Rattle.dutch_candidates.specs.declared.wish.Wish.{Wish}
use Rattle.dutch_bracket.specs.Prelude.{Reached, frame_of}
use Rattle.dutch_candidates.specs.Wishes.{grants}
use Rattle.dutch_bracket.proofs.LegalPairs.{legal_of}
use Rattle.dutch_choice.proofs.RuledOutLemmas.{halves_out}
use Rattle.dutch_choice.proofs.barred.rules_out_with.Goals as goal

pub returns-in-Pair : goal.returns-in-Pair
returns-in-Pair c = λ together a listed is.
    let facts = c.args.shaped.now.context.now.facts in
    let reached = c.args.shaped.now.context.now.reached in
    let shape = c.args.shaped.now.shape in
    let mdps = c.mdps-mdps.ensures ∙ ap (λ (s : Reached). s.mdps) c.reached.ensures.value in
    ap (λ (w : Wish). grants w a) c.in-Pair.is
    ∙ halves_out (frame_of facts reached) shape c.in-Pair.p c.in-Pair.q a c.reached.ensures.sound.sound.within
    (legal_of facts reached shape a listed).arranged
    (omega (arith, mdps, c.if-mdps-from.true, c.from.ensures, c.min.ensures)) (omega (arith, mdps, c.if-mdps-from.true, c.from.ensures, c.min.ensures))
    (c.keeps_together.ensures together a.s1r is)
