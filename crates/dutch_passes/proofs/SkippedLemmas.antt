-- Lists of which some first ones are skipped.
use Rattle.std.proofs.Common.{List, sym, subst}
use Rattle.dutch_arrangements.specs.Prelude.{IsIn, Passes}
use Rattle.dutch_sequence.proofs.Orders.{IsIn-back}

-- who is left was there before
pub left_was_there : {T : Type 0} (Pruned : T → Type 0) (x : T) (before after : List T) → Passes Pruned before after → IsIn x after → IsIn x before
left_was_there Pruned x before after (skipped, same, pruned) m = subst (IsIn x) (sym same) (IsIn-back x skipped after m)
