use Rattle.std.proofs.Common.{◌≡◌, ◌-◌, ◌++◌, List, Ok, replicate, take, vec_len, ap, sym}
use Rattle.trf16_report.specs.Prelude.{without_last, cells_at, rounds_at, is_blank_cell}
use Rattle.trf16_report.specs.declared.cell.Cell.{Cell}
use Rattle.trf16_report.specs.declared.cell.Cell.TheVariants.{Blank}
use Rattle.trf16_report.specs.declared.limits.TheConstants.{MOST_ROUNDS}
use Rattle.trf16_report.proofs.FieldLemmas.{without_last-append}
use Rattle.trf16_report.proofs.ReadingLemmas.{all_are_blank}
use Rattle.trf16_reader.proofs.reading.cells_at.Goals as goal

pub returns-clause-given : goal.returns-clause-given
unfolding cells_at
returns-clause-given c =
    let cells = c.in_ok-cells.cells.items in
    let more = replicate (MOST_ROUNDS - vec_len c.in_ok-cells.cells) Blank in
    let read : rounds_at c.args.n c.args.line.now 0 MOST_ROUNDS ≡ Ok (cells ++ more) = c.in_ok-cells.ensures.cells in
    let said : take c.said_len-len.result cells ≡ without_last is_blank_cell cells = rw (← c.deref.ensures.value) c.said_len-len.ensures.value in
    rw (read, without_last-append is_blank_cell cells more (all_are_blank (MOST_ROUNDS - vec_len c.in_ok-cells.cells)), ← said)
    (ap (λ (cs : List Cell). Ok cs) (sym c.truncate.ensures.items))
