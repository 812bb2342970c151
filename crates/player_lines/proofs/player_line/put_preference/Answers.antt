-- The pieces are the preference of the player.
use Rattle.std.proofs.Common.{◌≡◌, ap}
use Rattle.round_lines.specs.Tellings.{TellingFacts}
use Rattle.player_lines.proofs.player_line.put_preference.Goals as goal

pub returns : goal.returns
returns c =
    let facts : c.telling.inside.field.now ≡ c.args.telling.now.facts = ap (λ (t : TellingFacts). t.facts) c.telling.view_is in
    rw (c.preference-2.ensures.line, c.preference-2.ensures.words, c.preference.ensures, facts) at c.say.ensures
