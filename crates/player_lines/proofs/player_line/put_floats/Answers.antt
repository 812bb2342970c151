-- The pieces are the floats of the player.
use Rattle.std.proofs.Common.{◌≡◌, ap}
use Rattle.round_lines.specs.Tellings.{TellingFacts}
use Rattle.player_lines.proofs.player_line.put_floats.Goals as goal

pub returns : goal.returns
returns c =
    let facts : c.telling.inside.field.now ≡ c.args.telling.now.facts = ap (λ (t : TellingFacts). t.facts) c.telling.view_is in
    rw (c.float-2.ensures, c.float-4.ensures, c.float.ensures, c.float-3.ensures, facts) at c.say.ensures
