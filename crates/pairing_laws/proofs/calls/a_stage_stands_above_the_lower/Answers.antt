-- The law is what a stage says of itself: what is chosen in it is of its bracket's shape.
use Rattle.dutch_rounds.specs.Prelude.{lower_of, choice_of}
use Rattle.dutch_choice.proofs.BestLemmas.{chosen_is}
use Rattle.dutch_bracket.proofs.ShapeLaws.{has_one, has_room}
use Rattle.pairing_laws.proofs.calls.a_stage_stands_above_the_lower.Goals as goal

pub returns : goal.returns
returns c =
    let facts = c.args.field.now in
    let stage = c.args.stage.now in
    let lower = lower_of facts stage.reached in
    let shape = (chosen_is facts stage.reached lower (choice_of stage) c.requires.choice).0 in
    record {
      above = c.requires.above;
      shape = shape;
      candidate = record {
        shape = stage.shape;
        room = has_room facts stage.reached lower stage.shape shape;
        candidate = has_one facts stage.reached lower stage.shape shape;
      };
    }
