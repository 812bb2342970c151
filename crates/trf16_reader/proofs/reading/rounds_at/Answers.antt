use Rattle.std.proofs.Common.{◌≡◌, ◌+◌, ◌*◌, ◌-◌, ◌<◌, drop, replicate, Ok, ap, refl, sym, ◌∙◌, vec_len, arith}
use Rattle.std.proofs.lemmas.Result.{err_from_is_err_and}
use Rattle.trf16_report.specs.Prelude.{round_at, rounds_at}
use Rattle.trf16_report.specs.declared.cell.Cell.TheVariants.{Blank}
use Rattle.trf16_report.specs.declared.limits.TheConstants.{MOST_ROUNDS}
use Rattle.trf16_report.proofs.ReadingLemmas.{behind, Fails-on, rounds-go_on, rounds-fail}
use Rattle.trf16_reader.proofs.RoundSteps.{rounds-none}
use Rattle.trf16_reader.proofs.reading.rounds_at.Goals.{then-loop-cells-test+else-reaches, else-loop-cells-test}
use Rattle.trf16_reader.proofs.reading.rounds_at.Goals as goal

pub returns-in_err-round_at-clause-cells : goal.returns-in_err-round_at-clause-cells
returns-in_err-round_at-clause-cells c =
    let p = err_from_is_err_and c.from_residual.result c.from_residual.ensures.1 in
    let whole = rounds_at c.args.n c.args.line.now 0 MOST_ROUNDS in
    let cells = c.loop-cells.cells in
    let more : vec_len cells < MOST_ROUNDS = rw (← c.len.ensures) c.loop-cells-test.true in
    rw (p.1, p.2) (Fails-on c.in_err-round_at.field-0.0 (round_at c.args.n c.args.line.now (vec_len cells)) whole
    (rounds-fail c.args.n c.args.line.now cells.items (vec_len cells) whole more c.loop-cells.invariant.0)
    (rw (← c.len-in-loop-cells-2.ensures) c.in_err-round_at.ensures))

pub loop-cells-preserved : goal.loop-cells-preserved
loop-cells-preserved c =
    let whole = rounds_at c.args.n c.args.line.now 0 MOST_ROUNDS in
    let cells = c.loop-cells.cells in
    let more : vec_len cells < MOST_ROUNDS = rw (← c.len.ensures) c.loop-cells-test.true in
    let one_more : vec_len c.push.new.self ≡ vec_len cells + 1 = c.in_ok-push.ensures.len in
    let here : round_at c.args.n c.args.line.now (vec_len cells) ≡ Ok c.in_ok-round_at.field-0 = rw (← c.len-in-loop-cells-2.ensures) c.in_ok-round_at.ensures in (
      rw (c.in_ok-push.ensures.items, one_more)
          (rounds-go_on c.args.n c.args.line.now cells.items (vec_len cells) c.in_ok-round_at.field-0 whole more here c.loop-cells.invariant.0),
      omega (arith, one_more, more),
    )

pub returns-clause-cells : goal.returns-clause-cells
unfolding rounds_at
returns-clause-cells c =
    let cells = c.loop-cells.cells in
    let at = vec_len cells in
    let blank : rounds_at c.args.n c.args.line.now at (MOST_ROUNDS - at) ≡ Ok (replicate (MOST_ROUNDS - at) Blank) =
    elim c.loop-cells-test.branch [
      | then-loop-cells-test+else-reaches w ↦
          let column : 92 + 10 * w.len-in-loop-cells.result - 1 ≡ 91 + 10 * at = omega (arith, w.len-in-loop-cells.ensures) in
          rounds-none c.args.n c.args.line.now at (MOST_ROUNDS - at) (ap (λ k. drop k c.args.line.now) (sym column) ∙ w.reaches.ensures w.if-reaches.false)
      | else-loop-cells-test w ↦
          let none : MOST_ROUNDS - at ≡ 0 = omega (arith, w.loop-cells-test, c.len.ensures) in
          rw none refl
    ] in
    sym c.loop-cells.invariant.0 ∙ ap (behind cells.items) blank
