-- What there is so far and what is to come make all of it.
use Rattle.std.proofs.Common.{◌≡◌, ◌++◌, drop}
use Rattle.markup.specs.Prelude.{node_text}
use Rattle.sheets.specs.Parts.{column_head, each}
use Rattle.sheets.specs.StandingsParts.{key_name}
use Rattle.sheets.proofs.standings_parts.put_key_heads.Given as goal

abbrev pub invariant-loop-key : goal.invariant-loop-key
invariant-loop-key l =
    l.page ++ node_text (each (λ key. column_head (key_name key)) (drop l.key-index l.keys))
    ≡ l.initial.page ++ node_text (each (λ key. column_head (key_name key)) l.keys)
