use Rattle.std.proofs.Common.{◌≡◌, map, drop}
use Rattle.std.specs.List.{position_from}
use Rattle.dutch_player.specs.Prelude.{facts_in, has_start}
use Rattle.dutch_player.proofs.start_rank.place_of.Given as goal

abbrev pub invariant-loop-i : goal.invariant-loop-i
invariant-loop-i l =
    position_from (has_start l.start) l.i (map facts_in (drop l.i l.seats)) ≡ position_from (has_start l.start) 0 (map facts_in l.seats)
