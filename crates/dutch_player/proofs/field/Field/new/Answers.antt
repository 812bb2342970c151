use Rattle.std.proofs.Common.{map, arith}
use Rattle.dutch_player.specs.Prelude.{facts_in, seats_of}
use Rattle.dutch_player.proofs.RankLemmas.{ranked_IsRanked}
use Rattle.dutch_player.proofs.field.Field.new.Goals as goal

pub invariant_of-result : goal.invariant_of-result
invariant_of-result c = (
  c.in_ok-seats.ensures.few,
  omega arith,
  ranked_IsRanked (seats_of c.args.report.now c.args.report.now.players) (map facts_in c.in_ok-seats.seats.items) c.in_ok-seats.ensures.value,
  c.nobody.ensures,
)
