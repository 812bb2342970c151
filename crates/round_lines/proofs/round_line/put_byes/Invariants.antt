-- Those who have the bye so far and those to come are all of them.
use Rattle.std.proofs.Common.{◌≡◌, ◌++◌, drop, flat_map}
use Rattle.round_lines.specs.RoundTexts.{bye_text}
use Rattle.round_lines.proofs.round_line.put_byes.Given as goal

abbrev pub invariant-loop-seat : goal.invariant-loop-seat
invariant-loop-seat l =
    l.text ++ flat_map (bye_text l.telling) (drop l.seat-index l.bye) ≡ l.initial.text ++ flat_map (bye_text l.telling) l.bye
