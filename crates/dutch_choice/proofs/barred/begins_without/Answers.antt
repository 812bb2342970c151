-- A beginning that rules a wish out has no candidate that grants it.
use Rattle.std.proofs.Common.{sym, ap, ◌∙◌}
use Rattle.dutch_bracket.specs.Prelude.{Reached, frame_of}
use Rattle.dutch_choice.specs.Prelude.{rules_out}
use Rattle.dutch_bracket.proofs.LegalPairs.{legal_of}
use Rattle.dutch_choice.proofs.RuledOutLemmas.{ruled_out}
use Rattle.dutch_choice.proofs.barred.begins_without.Goals as goal

pub returns : goal.returns
returns c = λ out shape a fits listed begins.
    let facts = c.args.context.now.facts in
    let reached = c.args.context.now.reached in
    let mdps = c.mdps.ensures ∙ ap (λ (s : Reached). s.mdps) c.reached.ensures.value in
    ruled_out (frame_of facts reached) shape c.args.wish c.args.prefix.now a c.reached.ensures.sound.sound.within
    (legal_of facts reached shape a listed).arranged begins (ap (λ m. rules_out m c.args.wish c.args.prefix.now) (sym mdps) ∙ sym c.is_ruled_out.ensures ∙ out)
