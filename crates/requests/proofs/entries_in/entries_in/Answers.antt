use Rattle.std.proofs.Common.{◌≡◌, ◌+◌, Err, length, arith, ap, sym, ◌∙◌, drop}
use Rattle.requests.specs.Prelude.{entries_behind}
use Rattle.requests.specs.declared.options.WordFault.TheVariants.{BadEntry}
use Rattle.requests.proofs.EntryWordLemmas.{entries-fail, entries-more, texts}
use Rattle.requests.proofs.entries_in.entries_in.Goals as goal

pub returns-in_default : goal.returns-in_default
returns-in_default c =
    let len : c.len.result ≡ length c.loop-word.list.items = omega (arith, c.loop-word.list.ok.0) in
    ap (λ n. Err (BadEntry (n + 1))) len
    ∙ sym (entries-fail c.loop-word.list.items c.args.words.now c.loop-word.word-index _ c.as_bytes.result.now c.loop-word-test.true c.as_bytes.ensures.value (sym c.in_default.ensures))
    ∙ c.loop-word.invariant

pub loop-word-preserved : goal.loop-word-preserved
loop-word-preserved c =
    ap (λ list. entries_behind list (texts (drop (c.loop-word.word-index + 1) c.args.words.now))) c.in_ok-push.ensures.items
    ∙ sym (entries-more c.loop-word.list.items c.args.words.now c.loop-word.word-index _ c.as_bytes.result.now c.in-Some.entry c.loop-word-test.true c.as_bytes.ensures.value (sym c.in-Some.ensures))
    ∙ c.loop-word.invariant
