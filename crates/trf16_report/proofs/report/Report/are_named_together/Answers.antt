use Rattle.std.proofs.Common.{◌≡◌, ℕ, List, [], true, false, ap, sym, ◌∙◌}
use Rattle.std.proofs.lemmas.Bool.{eqb-true}
use Rattle.trf16_report.specs.Prelude.{columns, lines, names_both, some_carried}
use Rattle.trf16_report.proofs.AnsweringLemmas.{some_of, some_of-cons, not_together}
use Rattle.trf16_report.proofs.BackLemmas.{others_both, some_as}
use Rattle.trf16_report.proofs.ReadingLemmas.{nil_from_length}
use Rattle.trf16_report.proofs.report.Report.are_named_together.Goals as goal

pub returns-then-names_both : goal.returns-then-names_both
returns-then-names_both c =
    let utf8 = c.self.inside.utf8 in
    let line = c.next_line.result.0.now in
    let test = names_both c.args.a c.args.b in
    sym (some_of-cons test utf8 line (lines c.next_line.result.1.now) true (not_together c.args.a c.args.b (columns utf8 line)) (sym c.if-names_both.ensures))
    ∙ ap (some_of test utf8) (sym c.next_line.ensures.first) ∙ c.loop-rest.invariant ∙ some_as test (others_both c.args.a c.args.b) c.self.inside.bare_absences c.self.inside.utf8 (lines c.self.inside.text.now)
    ∙ ap (some_carried test) c.self.view_is

pub loop-rest-preserved : goal.loop-rest-preserved
loop-rest-preserved c =
    let utf8 = c.self.inside.utf8 in
    let line = c.next_line.result.0.now in
    let test = names_both c.args.a c.args.b in
    sym (some_of-cons test utf8 line (lines c.next_line.result.1.now) false (not_together c.args.a c.args.b (columns utf8 line)) (sym c.if-names_both.ensures))
    ∙ ap (some_of test utf8) (sym c.next_line.ensures.first) ∙ c.loop-rest.invariant

pub returns : goal.returns
returns c =
    let test = names_both c.args.a c.args.b in
    let nothing : c.loop-rest.rest.now ≡ [] = nil_from_length c.loop-rest.rest.now (eqb-true _ _ (sym c.loop-rest-test.ensures)) in
    ap (λ (bytes : List ℕ). some_of test c.self.inside.utf8 (lines bytes)) (sym nothing) ∙ c.loop-rest.invariant ∙ some_as test (others_both c.args.a c.args.b) c.self.inside.bare_absences c.self.inside.utf8 (lines c.self.inside.text.now)
    ∙ ap (some_carried test) c.self.view_is
