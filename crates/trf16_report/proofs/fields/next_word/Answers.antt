use Rattle.std.proofs.Common.{◌<◌, length, arith}
use Rattle.trf16_report.proofs.FieldLemmas.{next_word_is}
use Rattle.trf16_report.proofs.fields.next_word.Goals as goal

pub returns-clause-first : goal.returns-clause-first
returns-clause-first c =
    let same = c.blank_len.ensures.same in
    let some : 0 < length c.split_at.result.1.now = grind arith in
    rw (c.split_at-2.ensures.front, c.split_at-2.ensures.back)
    (next_word_is c.args.bytes.now c.blank_len.result c.word_len.result c.split_at.result.1.now c.split_at.ensures.back same
    c.blank_len.ensures.behind some c.word_len.ensures.within c.word_len.ensures.inside c.word_len.ensures.behind)
