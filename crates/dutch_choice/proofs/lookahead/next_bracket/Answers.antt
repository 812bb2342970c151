-- There is room for the downfloaters and the next lower scoregroup.
use Rattle.std.proofs.Common.{ap, length, arith}
use Rattle.std.proofs.lemmas.List.{length-map}
use Rattle.dutch_bracket.specs.Prelude.{seat_of}
use Rattle.dutch_bracket.proofs.NextBrackets.{down_short}
use Rattle.dutch_choice.proofs.lookahead.next_bracket.Goals as goal

pub push_all-requires : goal.push_all-requires
push_all-requires c =
    let short = down_short c.args.above.now.field.now c.args.above.now.reached.now c.args.down.now c.args.above.now.next.now c.args.above.now.of c.requires c.args.above.now.below in
    omega (arith, short, c.args.above.now.below.few, ap length c.seats_of-seats.ensures, length-map c.args.down.now (seat_of c.seats.result.now))
