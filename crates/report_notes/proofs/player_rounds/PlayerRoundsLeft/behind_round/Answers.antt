use Rattle.std.proofs.Common.{map, sym}
use Rattle.report_notes.specs.Noted.{InRound}
use Rattle.report_notes.specs.PlayerRounds.{round_notes}
use Rattle.report_notes.proofs.RoundLemmas.{one_further}
use Rattle.report_notes.proofs.player_rounds.PlayerRoundsLeft.behind_round.Goals as goal

pub returns-clause-same : goal.returns-clause-same
returns-clause-same c nothing n =
    let sheet = c.args.report.now in
    let further = one_further (λ round. map (InRound n round) (round_notes sheet c.args.self.start round)) sheet c.args.self.round c.requires.within in
    rw (nothing, c.round_left.ensures) (sym further)
