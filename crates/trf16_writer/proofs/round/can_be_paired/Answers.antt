use Rattle.std.proofs.Common.{◌<◌, refl, subst, ◌∙◌}
use Rattle.trf16_report.specs.Prelude.{rounds_played}
use Rattle.trf16_writer.proofs.BoardLemmas.{paired_from, not_free, free_end}
use Rattle.trf16_writer.proofs.round.can_be_paired.Goals as goal
use Rattle.trf16_report.specs.declared.limits.TheConstants.{MOST_ROUNDS}

pub returns-then-not-are_free : goal.returns-then-not-are_free
returns-then-not-are_free c = (
  λ wrong. absurd (cc),
  not_free c.args.boards.now c.args.report.now c.loop-i.i (0, 0) c.split_at.result.1.now c.are_free.result c.loop-i-test.true c.split_at.ensures.back
      c.loop-i.invariant c.are_free.ensures (cc),
)

pub returns : goal.returns
returns c =
    let within : rounds_played c.args.report.now < MOST_ROUNDS = subst (λ n. n < MOST_ROUNDS) (c.from.ensures ∙ c.rounds_played.ensures.value) c.if-from-ge-MOST_ROUNDS.false in (
      λ is. paired_from c.args.boards.now c.args.report.now within (free_end c.args.boards.now c.args.report.now c.loop-i.i c.loop-i-test.false c.loop-i.invariant),
      λ can. refl,
    )
