use Rattle.std.proofs.Common.{◌≡◌, false, ◌&&◌, ◌||◌, [], ◌∷◌, sym, ap, ◌∙◌}
use Rattle.trf16_report.specs.Prelude.{columns, is_named, words_of, begins_with_x, is_marked, first_noted, noted_first}
use Rattle.trf16_report.proofs.ExtensionLemmas.{no_extension, of_no_kind}
use Rattle.trf16_report.proofs.NoteLemmas.{or_none}
use Rattle.std.proofs.Math.Bool.{or-false}
use Rattle.trf16_report.proofs.notes.Notes.note.Goals as goal

pub returns-else-begins_with_x-clause-absent : goal.returns-else-begins_with_x-clause-absent
returns-else-begins_with_x-clause-absent c = λ i.
    let line = columns c.args.utf8 c.args.line.now in
    let other : begins_with_x c.args.line.now ≡ false = sym c.begins_with_x.ensures ∙ c.if-begins_with_x.false in
    sym (ap (λ b. is_marked c.args.self.now i || (b && is_named (words_of line) i)) (no_extension c.args.utf8 c.args.line.now (88 ∷ 90 ∷ []) other) ∙ or-false (is_marked c.args.self.now i))

pub returns-else-begins_with_x-clause-firsts : goal.returns-else-begins_with_x-clause-firsts
returns-else-begins_with_x-clause-firsts c = λ kind.
    let other : begins_with_x c.args.line.now ≡ false = sym c.begins_with_x.ensures ∙ c.if-begins_with_x.false in
    sym (ap (λ b. noted_first (first_noted c.args.self.now kind) b c.args.n) (of_no_kind c.args.utf8 c.args.line.now kind other) ∙ or_none (first_noted c.args.self.now kind))

pub returns-else-begins_with_x-clause-together : goal.returns-else-begins_with_x-clause-together
returns-else-begins_with_x-clause-together c =
    let other : begins_with_x c.args.line.now ≡ false = sym c.begins_with_x.ensures ∙ c.if-begins_with_x.false in
    sym (ap (λ b. c.args.self.now.together || b) (no_extension c.args.utf8 c.args.line.now (88 ∷ 80 ∷ []) other) ∙ or-false c.args.self.now.together)
