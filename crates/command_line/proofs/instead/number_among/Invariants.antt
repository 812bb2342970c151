use Rattle.std.proofs.Common.{◌≡◌}
use Rattle.command_line.specs.InsteadAnswers.{number_among}
use Rattle.command_line.proofs.InsteadLemmas.{from_place}
use Rattle.command_line.proofs.instead.number_among.Given as goal

abbrev pub invariant-loop-i : goal.invariant-loop-i
invariant-loop-i l = from_place l.seats l.seat l.i ≡ number_among l.seats l.seat
