use Rattle.std.proofs.Common.{List, Some, ap, ◌∙◌, arith}
use Rattle.trf16_report.specs.Prelude.{Entry, Sheet}
use Rattle.trf16_writer.proofs.BeforeRoundLemmas.{next_round, earlier_round, no_round, kept}
use Rattle.trf16_writer.proofs.back.before_round.Goals as goal

pub returns-then-before-rounds : goal.returns-then-before-rounds
returns-then-before-rounds c =
    let sheet = c.args.report.now in
    let same = c.in_ok-report_turned.ensures ∙ ap (λ (players : List Entry). record sheet { players = players }) (kept sheet.players) in
    ap (λ (s : Sheet). Some s) same ∙ next_round sheet c.args.round c.in-Some.before (omega (arith, c.in-Some.ensures)) (c.if-before-rounds.true ∙ c.rounds_played-rounds.ensures.value)

pub returns-then-rounds_played-before : goal.returns-then-rounds_played-before
returns-then-rounds_played-before c =
    earlier_round c.args.report.now c.in_ok-back.back c.args.round c.in-Some.before (omega (arith, c.in-Some.ensures)) (omega (arith, c.rounds_played-rounds.ensures.value))
    c.in_ok-back.ensures (omega (arith, c.rounds_played.ensures.value))

pub returns : goal.returns
returns c =
    no_round c.args.report.now c.in_ok-back.back c.args.round c.in-Some.before (omega (arith, c.in-Some.ensures)) (omega (arith, c.rounds_played-rounds.ensures.value))
    c.in_ok-back.ensures (λ reached. omega (arith, reached, c.rounds_played.ensures.value))
