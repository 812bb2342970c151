use Rattle.std.proofs.Common.{◌≡◌, ◌≤◌, max, map}
use Rattle.trf16_report.specs.Prelude.{entry_of, last_paired_of}
use Rattle.trf16_report.proofs.report.last_round_of.Given as goal
use Rattle.trf16_report.specs.declared.limits.TheConstants.{MOST_ROUNDS}

abbrev pub invariant-loop-player : goal.invariant-loop-player
invariant-loop-player l =
    (max l.last (last_paired_of (map entry_of l.player-iterator)) ≡ last_paired_of (map (λ e. entry_of e.1) l.players.entries)) × (l.last ≤ MOST_ROUNDS)
