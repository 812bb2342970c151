use Rattle.std.proofs.Common.{map, sym, ap, ◌∙◌}
use Rattle.trf16_report.specs.Prelude.{lines, Sheet, entry_of, names_both, some_carried, starts_of, lines_carried}
use Rattle.trf16_report.proofs.ApartLemmas.{apart_same, looked_up, not_any}
use Rattle.trf16_report.proofs.report.Report.are_together.Goals as goal

pub returns-then-not-self : goal.returns-then-not-self
returns-then-not-self c =
    let r = c.self.inside in
    sym (not_any c.args.a c.args.b (lines_carried r.bare_absences r.utf8 (lines r.text.now) r.bye) (sym c.self.invariant.5.together ∙ c.if-not-self.true))
    ∙ ap (some_carried (names_both c.args.a c.args.b)) c.self.view_is

pub returns-in-Some-Some : goal.returns-in-Some-Some
returns-in-Some-Some c =
    let r = c.self.inside in
    let sheet = c.args.self.now in
    let told = apart_same r.apart (record (lines_carried r.bare_absences r.utf8 (lines r.text.now) r.bye) { players = map (λ e. entry_of e.1) r.players.entries }) sheet
    (ap (λ (s : Sheet). s.utf8) (sym c.self.view_is)) (ap (λ (s : Sheet). s.carried) (sym c.self.view_is)) (ap (λ (s : Sheet). starts_of s.players) (sym c.self.view_is))
    c.self.invariant.7 in
    c.has.ensures
    ∙ looked_up r.apart sheet c.args.a c.args.b c.in-Some-Some.i c.in-Some-Some.j told c.in-Some-Some.ensures.within c.in-Some-Some.ensures'.within c.in-Some-Some.ensures.start
    c.in-Some-Some.ensures'.start
