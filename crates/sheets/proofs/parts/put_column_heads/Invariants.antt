-- The heads so far and those to come make all of them.
use Rattle.std.proofs.Common.{◌≡◌, ◌++◌, drop, map}
use Rattle.markup.specs.Prelude.{node_text}
use Rattle.sheets.specs.Parts.{column_head, each}
use Rattle.sheets.proofs.parts.put_column_heads.Given as goal

abbrev pub invariant-loop-label : goal.invariant-loop-label
invariant-loop-label l =
    l.page ++ node_text (each column_head (map (λ label. label.now) (drop l.label-index l.labels)))
    ≡ l.initial.page ++ node_text (each column_head (map (λ label. label.now) l.labels))
