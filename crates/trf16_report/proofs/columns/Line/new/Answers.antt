use Rattle.std.proofs.Common.{◌≡◌, ◌+◌, ◌≤◌, ◌++◌, ◌∷◌, [], ℕ, List, length, drop, subst, sym, arith}
use Rattle.std.proofs.lemmas.List.{get_or-drop}
use Rattle.trf16_report.specs.Prelude.{IsStart}
use Rattle.trf16_report.specs.declared.limits.TheConstants.{LAST_COLUMN}
use Rattle.trf16_report.proofs.ColumnLemmas.{IsFirst, IsPlain, IsStart-next, AreStarts, AreStarts-push, AllStart-listed, AllStart-whole}
use Rattle.trf16_report.proofs.columns.Line.new.Goals.{then-loop-next-test+else-len-le-LAST_COLUMN, else-loop-next-test}
use Rattle.trf16_report.proofs.columns.Line.new.Goals as goal

pub loop-next-preserved : goal.loop-next-preserved
loop-next-preserved c =
    let utf8 = c.args.utf8 in
    let bytes = c.args.bytes.now in
    let starts = c.loop-next.starts.items in
    let next = c.loop-next.next in
    let len = c.column_len-next.result in
    let rest = c.split_at.ensures.back in
    let within : len ≤ length (drop next bytes) = rw (← rest) c.column_len-next.ensures.within in
    let one : IsFirst utf8 (drop next bytes) len = rw (← rest) (record { first = c.column_len-next.ensures.first; rest = c.column_len-next.ensures.rest }) in
    let items : c.push.new.self.items ≡ starts ++ next ∷ [] = c.in_ok-push.ensures.items in
    let more : length (starts ++ next ∷ []) ≡ length starts + 1 = search (arith) in
    subst (λ (xs : List ℕ). AreStarts utf8 bytes xs × IsStart utf8 bytes (length xs) (next + len)) (sym items) (
      AreStarts-push utf8 bytes starts next c.loop-next.invariant.0 c.loop-next.invariant.1,
      rw more (IsStart-next utf8 bytes (length starts) next len c.loop-next.invariant.1 within one),
    )

pub invariant_of-result : goal.invariant_of-result
invariant_of-result c =
    let utf8 = c.args.utf8 in
    let bytes = c.args.bytes.now in
    let starts = c.loop-next.starts.items in
    let next = c.loop-next.next in
    elim c.loop-next-test.branch [
      | then-loop-next-test+else-len-le-LAST_COLUMN w ↦ AllStart-listed utf8 bytes starts next (LAST_COLUMN + 1) c.loop-next.invariant.0 (omega (arith, w.if-len-le-LAST_COLUMN))
      | else-loop-next-test w ↦
          let plain : IsPlain utf8 (drop next bytes) =
          λ e i. rw (get_or-drop next bytes i 0) (c.mixed_len-mixed.ensures.behind e (next + i) (omega (arith, w.loop-next-test))) in
          AllStart-whole utf8 bytes starts next (LAST_COLUMN + 1) c.loop-next.invariant.0 c.loop-next.invariant.1 plain
    ]
