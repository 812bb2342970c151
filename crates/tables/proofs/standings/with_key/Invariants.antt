use Rattle.std.proofs.Common.{◌≡◌, map, take}
use Rattle.tables.specs.Prelude.{value_of, with_value}
use Rattle.tables.proofs.standings.with_key.Given as goal

abbrev pub invariant-loop-row : goal.invariant-loop-row
invariant-loop-row l = l.longer.items ≡ map (λ row. with_value row (value_of l.report l.rows l.key row)) (take l.row-index l.rows)
