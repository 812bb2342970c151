use Rattle.std.proofs.Common.{◌≡◌, ℕ, ◌<◌, nat_lt, true, length, Ok, refl, sym, ap, ◌∙◌, arith}
use Rattle.std.proofs.lemmas.Bool.{le-ltb}
use Rattle.std.proofs.lemmas.Bool.Decides.{nat_tests}
use Rattle.trf16_report.specs.Prelude.{whole_report, laid_out, lines, Sheet}
use Rattle.trf16_report.proofs.ReadingLemmas.{exits, laid_is}
use Rattle.trf16_reader.proofs.reading.laid_out.Goals as goal
use Rattle.trf16_report.specs.declared.fault.Fault.{Fault}
use Rattle.std.specs.Prelude.{Result}
use Rattle.trf16_report.specs.declared.limits.TheConstants.{MOST_BYTES}

above : (most count : ℕ) → most < count → nat_lt most count ≡ true
above most count lt = grind (arith, nat_tests)

pub returns-then-bytes-gt-MOST_BYTES : goal.returns-then-bytes-gt-MOST_BYTES
unfolding laid_out
returns-then-bytes-gt-MOST_BYTES c = rw (above MOST_BYTES (length c.args.bytes.now) c.if-bytes-gt-MOST_BYTES.true) refl

pub returns-in_err-apart : goal.returns-in_err-apart
returns-in_err-apart c =
    let bytes = c.args.bytes.now in
    let text = c.skip_marks-text.result.now in
    let draft = c.new-draft.result in
    exits (λ (r : Sheet). r) _ _ (whole_report draft (lines text)) _ c.from_residual-in_err-apart.ensures.1 c.in_err-apart.ensures.given
    (λ fault e.
    laid_is bytes text c.is_utf8.result c.args.bye draft (le-ltb MOST_BYTES (length bytes) c.if-bytes-gt-MOST_BYTES.false) c.skip_marks-text.ensures c.is_utf8.ensures c.new-draft.ensures
    ∙ e)

pub returns : goal.returns
returns c =
    let bytes = c.args.bytes.now in
    let text = c.skip_marks-text.result.now in
    let made : Sheet → Result Sheet Fault = λ sheet. Ok sheet in
    laid_is bytes text c.is_utf8.result c.args.bye c.new-draft.result (le-ltb MOST_BYTES (length bytes) c.if-bytes-gt-MOST_BYTES.false) c.skip_marks-text.ensures c.is_utf8.ensures c.new-draft.ensures
    ∙ c.in_ok-apart.ensures.given ∙ ap made (sym c.into_report.ensures)
