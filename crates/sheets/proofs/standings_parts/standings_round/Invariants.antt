-- What there is so far and what is to come make all of it.
use Rattle.std.proofs.Common.{◌≡◌, ◌+◌, ◌-◌}
use Rattle.sheets.specs.StandingsParts.{first_open}
use Rattle.sheets.proofs.standings_parts.standings_round.Given as goal

abbrev pub invariant-loop-past : goal.invariant-loop-past
invariant-loop-past l = first_open l.report (l.past + 1) (l.rounds - l.past) ≡ first_open l.report 1 l.rounds
