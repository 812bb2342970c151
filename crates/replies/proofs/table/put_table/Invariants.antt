use Rattle.std.proofs.Common.{◌≡◌, ◌++◌, take, flat_map}
use Rattle.replies.specs.Prelude.{labels_text, widths}
use Rattle.replies.proofs.table.put_table.Given as goal

abbrev pub invariant-loop-line : goal.invariant-loop-line
invariant-loop-line l =
    l.text ≡ l.initial.text ++ flat_map (labels_text l.utf8 (widths l.utf8 l.count l.lines) 0) (take l.line-index l.lines)
