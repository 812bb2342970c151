-- The new start ranks are a map that tells the players apart.
use Rattle.std.proofs.Common.{◌≡◌, ℕ, ◌<◌, ◌≤◌, ◌==◌, false, length, arith}
use Rattle.std.proofs.lemmas.Bool.{ne_eqb}
use Rattle.trf16_report.specs.Prelude.{Sheet, new_start}
use Rattle.trf16_report.specs.declared.limits.TheConstants.{MOST_PLAYERS}
use Rattle.trf16_writer.proofs.NewStartRanks.{new_within, new_once, new_none, new_most}
use Rattle.report_laws.proofs.UnderMap.{IsMap}

some_of : (n : ℕ) → 0 < n → (n == 0) ≡ false
some_of n lt = ne_eqb n 0 (λ e. omega arith)

pub is_map : (sheet : Sheet) → length sheet.players ≤ MOST_PLAYERS → IsMap sheet.players (new_start sheet)
is_map sheet few = record {
  once = new_once sheet;
  some = λ a is. some_of (new_start sheet a) (new_within sheet a is).0;
  none = new_none sheet;
  small = λ a. let most : new_start sheet a ≤ length sheet.players = new_most sheet a in omega arith;
}
