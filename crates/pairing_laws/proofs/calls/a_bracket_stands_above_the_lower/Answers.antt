-- The law is the lemma on the brackets of a round, in a field whose scores do not ascend.
use Rattle.std.proofs.Common.{arith}
use Rattle.dutch_rounds.specs.Prelude.{lower_of}
use Rattle.dutch_bracket.proofs.ShapeLaws.{has_one, has_room}
use Rattle.pairing_laws.proofs.StandsAbove.{bracket_stands}
use Rattle.pairing_laws.proofs.calls.a_bracket_stands_above_the_lower.Goals as goal

pub returns : goal.returns
returns c =
    let stands =
    bracket_stands c.args.field.now (record { falls = c.scores_do_not_ascend.ensures.scores; few = omega (arith, c.scores_do_not_ascend.ensures.few) }) c.args.number
    c.args.reached.now c.args.shape c.requires in
    let lower = lower_of c.args.field.now c.args.reached.now in
    record {
      above = stands.0;
      shape = stands.1;
      candidate = record {
        shape = c.args.shape;
        room = has_room c.args.field.now c.args.reached.now lower c.args.shape stands.1;
        candidate = has_one c.args.field.now c.args.reached.now lower c.args.shape stands.1;
      };
    }
