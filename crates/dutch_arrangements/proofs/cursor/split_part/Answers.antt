use Rattle.std.proofs.Common.{◌<◌, length, arith}
use Rattle.dutch_arrangements.proofs.Parts.{parts-one, parts-first}
use Rattle.dutch_arrangements.proofs.cursor.split_part.Goals as goal

pub returns-then-len-text-clause-parts : goal.returns-then-len-text-clause-parts
returns-then-len-text-clause-parts c =
    parts-one c.args.separator c.args.text.now (λ k lt. c.part_len-len.ensures.inside k (omega (arith, c.if-len-text.true)))

pub returns-clause-parts : goal.returns-clause-parts
returns-clause-parts c =
    let short : c.part_len-len.result < length c.args.text.now = grind arith in
    rw (c.split_at.ensures.front, c.split_at-2.ensures.back, c.split_at.ensures.back)
    (parts-first c.args.separator c.args.text.now c.part_len-len.result short c.part_len-len.ensures.inside (c.part_len-len.ensures.behind short))
