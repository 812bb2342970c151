-- What there is so far and what is to come make all of it.
use Rattle.std.proofs.Common.{◌≡◌, ◌++◌}
use Rattle.std.specs.Fmt.{decimal}
use Rattle.markup.specs.Prelude.{node_text}
use Rattle.sheets.specs.Parts.{column_head, each_up}
use Rattle.sheets.proofs.standings_parts.put_round_heads.Given as goal

abbrev pub invariant-loop-past : goal.invariant-loop-past
invariant-loop-past l = l.page ≡ l.initial.page ++ node_text (each_up (λ round. column_head (decimal round)) l.past)
