use Rattle.std.proofs.Common.{ℕ, false, refl, arith, [], ◌∷◌, ◌≡◌, ◌==◌, ◌%◌, if◌then◌else◌}
use Rattle.std.proofs.lemmas.Bool.Decides.{nat_tests}
use Rattle.std.proofs.lemmas.Result.{err_from_is_err_and}
use Rattle.trf16_report.proofs.OutputLemmas.{put_both, put_neither}
use Rattle.trf16_writer.proofs.writing.put_decimal.Goals as goal
use Rattle.trf16_writer.proofs.writing.put_decimal.Goals.{then-points-eq0, else-points-eq0}

is_not : (n : ℕ) → (n ≡ 0 → ⊥) → (n == 0) ≡ false
is_not n apart = grind (arith, nat_tests)

pub returns-in_err-put_all : goal.returns-in_err-put_all
returns-in_err-put_all g c =
    let p = err_from_is_err_and c.from_residual.result c.from_residual.ensures.1 in
    rw (p.1, ← c.requires) (put_neither c.args.whole.now (46 ∷ (if c.args.points % 2 == 0 then 48 else 53) ∷ []) _ _ _ _ c.in_err-put_all.ensures)

pub returns : goal.returns
returns g c =
    let e : c.if-points-eq0.put_all.now ≡ 46 ∷ (if c.args.points % 2 == 0 then 48 else 53) ∷ [] =
    elim c.if-points-eq0.branch [
      | then-points-eq0 w ↦ rw (w.put_all-is, w.if-points-eq0.true) refl
      | else-points-eq0 w ↦ rw (w.put_all-is, is_not (c.args.points % 2) w.if-points-eq0.false) refl
    ] in
    rw (← c.requires, ← e) (put_both c.args.whole.now c.if-points-eq0.put_all.now _ _ _ _ _ _ _ c.in_ok-put_all.ensures c.put_all-2.ensures)
