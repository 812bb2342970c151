use Rattle.std.proofs.Common.{◌≡◌, drop, map}
use Rattle.tables.specs.Prelude.{row_of, with_keys}
use Rattle.tables.proofs.standings.with_keys.Given as goal

abbrev pub invariant-loop-key : goal.invariant-loop-key
invariant-loop-key l = with_keys l.report (drop l.key-index l.keys) l.rows.items ≡ with_keys l.report l.keys (map (row_of l.report) l.report.players)
