use Rattle.std.proofs.Common.{◌≡◌, ℕ, List, [], ◌∷◌, subst, ◌&&◌, ◌+◌, ◌||◌, Bool, ap, sym, ◌∙◌, arith, refl}
use Rattle.std.proofs.lemmas.Bool.{eqb-true}
use Rattle.std.proofs.lemmas.Result.{err_from_is_err_and}
use Rattle.std.specs.Prelude.{codes}
use Rattle.trf16_report.specs.Prelude.{lines, columns, is_player, is_too_long, line_onto, lines_onto, has_too_many_rounds, without_players, is_kind, names_absent, is_of, is_marked, first_noted, noted_first}
use Rattle.trf16_report.proofs.ReadingLemmas.{Fails-on, SameText, line_onto-text, lines-go_on, lines-fail, lines-end, stays_long, becomes_long, nil_from_length}
use Rattle.trf16_report.specs.declared.kind.LineKind.{LineKind}
use Rattle.trf16_report.proofs.NoteLemmas.{AreNoted, noted-none, noted-more, noted-all, tells_same}
use Rattle.std.proofs.Math.Bool.{or-false}
use Rattle.trf16_reader.proofs.reading.lines_onto.Goals as goal
use Rattle.trf16_reader.proofs.reading.lines_onto.Goals.{then-long, else-long}

pub returns-in_err-too_long-clause-given : goal.returns-in_err-too_long-clause-given
returns-in_err-too_long-clause-given c =
    let p = err_from_is_err_and c.from_residual.result c.from_residual.ensures.1 in
    let sheet = c.loop-rest.draft in
    let line = c.next_line.result.0.now in
    let after = lines c.next_line.result.1.now in
    rw (p.1, p.2) (Fails-on c.in_err-too_long.field-0.0 (line_onto sheet c.loop-rest.n (columns sheet.utf8 line)) (lines_onto c.args.draft.now 1 (lines c.args.text.now))
    (λ fault e. sym c.loop-rest.invariant.0 ∙ ap (lines_onto sheet c.loop-rest.n) c.next_line.ensures.first ∙ lines-fail sheet c.loop-rest.n line after fault e)
    c.in_err-too_long.ensures.given)

pub loop-rest-preserved : goal.loop-rest-preserved
loop-rest-preserved c =
    let sheet = c.loop-rest.draft in
    let next = c.line_onto.new.draft in
    let line = c.next_line.result.0.now in
    let after = lines c.next_line.result.1.now in
    let given = c.in_ok-too_long.ensures.given in
    let read : lines_onto next (c.loop-rest.n + 1) after ≡ lines_onto c.args.draft.now 1 (lines c.args.text.now) =
    sym (lines-go_on sheet next c.loop-rest.n line after given) ∙ ap (lines_onto sheet c.loop-rest.n) (sym c.next_line.ensures.first) ∙ c.loop-rest.invariant.0 in
    let one = line_onto-text sheet c.loop-rest.n (columns sheet.utf8 line) next given in
    let same : SameText c.args.draft.now next = (one.0 ∙ c.loop-rest.invariant.2.0, one.1 ∙ c.loop-rest.invariant.2.1) in
    let utf8 = c.args.draft.now.utf8 in
    let long = c.loop-rest.long in
    let here = is_player (columns utf8 line) && is_too_long (columns utf8 line) in
    let others = has_too_many_rounds utf8 after in
    let total = has_too_many_rounds utf8 (lines c.args.text.now) in
    let so_far : (long || (here || others)) ≡ total = ap (λ (ls : List (List ℕ)). long || has_too_many_rounds utf8 ls) (sym c.next_line.ensures.first) ∙ c.loop-rest.invariant.1 in
    let told : c.in_ok-too_long.too_long ≡ here =
    c.in_ok-too_long.ensures.long ∙ ap (λ (u : Bool). is_player (columns u line) && is_too_long (columns u line)) c.loop-rest.invariant.2.0 in
    let noted : AreNoted c.loop-rest.notes utf8 c.loop-rest.n (line ∷ after) (lines c.args.text.now) =
    subst (λ (ls : List (List ℕ)). AreNoted c.loop-rest.notes utf8 c.loop-rest.n ls (lines c.args.text.now)) c.next_line.ensures.first c.loop-rest.invariant.4 in (
      read,
      elim c.if-long.branch [ then-long w ↦ stays_long _ long here others total w.long-is w.if-long.true so_far | else-long w ↦ becomes_long _ long here others total (w.long-is ∙ told) w.if-long.false so_far ],
      same,
      omega (arith, c.next_line.ensures.shorter, c.loop-rest.invariant.3),
      noted-more c.loop-rest.notes c.note.new.self utf8 c.loop-rest.n line after (lines c.args.text.now) noted
          (subst (λ (u : Bool). (start : ℕ) → is_marked c.note.new.self start ≡ (is_marked c.loop-rest.notes start || names_absent start (columns u line))) c.is_utf8-utf8.ensures c.note.ensures.absent)
          (subst (λ (u : Bool). (kind : LineKind) → first_noted c.note.new.self kind ≡ noted_first (first_noted c.loop-rest.notes kind) (is_of (columns u line) kind) c.loop-rest.n) c.is_utf8-utf8.ensures c.note.ensures.firsts)
          (subst (λ (u : Bool). c.note.new.self.together ≡ (c.loop-rest.notes.together || is_kind (codes "XXP") (columns u line))) c.is_utf8-utf8.ensures c.note.ensures.together),
    )

pub returns-clause-given : goal.returns-clause-given
returns-clause-given c =
    let nothing : c.loop-rest.rest.now ≡ [] = nil_from_length c.loop-rest.rest.now (eqb-true _ _ (sym c.loop-rest-test.ensures)) in
    sym c.loop-rest.invariant.0 ∙ ap (λ (bytes : List ℕ). lines_onto c.loop-rest.draft c.loop-rest.n (lines bytes)) nothing ∙ lines-end c.loop-rest.draft c.loop-rest.n

pub loop-rest-init : goal.loop-rest-init
loop-rest-init c = (
  refl,
  refl,
  (refl, refl),
  omega arith,
  noted-none c.args.notes.now c.args.draft.now.utf8 (lines c.args.text.now) c.requires.absent c.requires.firsts c.requires.together,
)

pub returns-clause-long : goal.returns-clause-long
returns-clause-long c =
    let nothing : c.loop-rest.rest.now ≡ [] = nil_from_length c.loop-rest.rest.now (eqb-true _ _ (sym c.loop-rest-test.ensures)) in
    sym (or-false c.loop-rest.long) ∙ ap (λ (bytes : List ℕ). c.loop-rest.long || has_too_many_rounds c.args.draft.now.utf8 (lines bytes)) (sym nothing) ∙ c.loop-rest.invariant.1

pub returns-clause-noted : goal.returns-clause-noted
returns-clause-noted c =
    let utf8 = c.args.draft.now.utf8 in
    let all = lines c.args.text.now in
    let nothing : c.loop-rest.rest.now ≡ [] = nil_from_length c.loop-rest.rest.now (eqb-true _ _ (sym c.loop-rest-test.ensures)) in
    tells_same c.loop-rest.notes (without_players utf8 all c.args.draft.now.bye) c.loop-rest.draft
    c.loop-rest.invariant.2.0 (c.loop-rest.invariant.2.1 ∙ c.requires.fresh)
    (noted-all c.loop-rest.notes utf8 c.loop-rest.n all c.args.draft.now.bye
    (subst (λ (bytes : List ℕ). AreNoted c.loop-rest.notes utf8 c.loop-rest.n (lines bytes) all) nothing c.loop-rest.invariant.4))
