use Rattle.std.proofs.Common.{◌≡◌, ◌-◌, length, take, ap, refl, ◌∙◌, arith}
use Rattle.std.proofs.lemmas.List.{length-take-le}
use Rattle.trf16_report.specs.Prelude.{place}
use Rattle.trf16_report.proofs.ColumnLemmas.{text_between}
use Rattle.trf16_report.proofs.columns.Line.text.Goals as goal

pub split_at-requires-2 : goal.split_at-requires-2
split_at-requires-2 c =
    let line = c.self.inside in
    let bytes = line.bytes.now in
    let start = c.self.invariant (c.args.first - 1) (omega arith) in
    let end = c.self.invariant c.args.last (omega arith) in
    let between = text_between line.utf8 bytes (c.args.first - 1) c.args.last _ _ (omega arith) start end in
    let front : length c.split_at.result.0.now ≡ place line.starts.items line.next (length bytes) c.args.last =
    ap length c.split_at.ensures.front ∙ ap (λ n. length (take n bytes)) (rw (c.place_at-end.ensures, c.deref-2.ensures.value) refl) ∙ length-take-le _ bytes end.within in
    rw (c.place_at-start.ensures, c.deref.ensures.value, front) between.0

pub returns : goal.returns
returns c =
    let line = c.self.inside in
    let start = c.self.invariant (c.args.first - 1) (omega arith) in
    let end = c.self.invariant c.args.last (omega arith) in
    let between = text_between line.utf8 line.bytes.now (c.args.first - 1) c.args.last _ _ (omega arith) start end in
    rw (c.split_at-2.ensures.back, c.split_at.ensures.front, c.place_at-start.ensures, c.deref.ensures.value, c.place_at-end.ensures, c.deref-2.ensures.value, ← c.self.view_is) between.1
