use Rattle.std.proofs.Common.{◌≡◌, ℕ, max, ◌∙◌, ap, map, List, arith}
use Rattle.trf16_report.specs.Prelude.{entry_of, last_paired_of}
use Rattle.trf16_report.specs.declared.player.Player.{Player}
use Rattle.trf16_report.proofs.ReportLemmas.{entries-values}
use Rattle.trf16_report.proofs.report.last_round_of.Goals as goal

max_none : (n : ℕ) → max 0 n ≡ n
max_none n = omega arith

pub loop-player-init : goal.loop-player-init
loop-player-init c = (
  max_none (last_paired_of (map entry_of c.into_iter-player-iterator.result)) ∙ ap (λ (ps : List Player). last_paired_of (map entry_of ps)) (c.into_iter-player-iterator.ensures.into_iter_gives ∙ c.values-player-items.ensures.rest) ∙ ap last_paired_of (entries-values c.args.players.now.entries),
  omega arith,
)
