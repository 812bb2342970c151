-- Who is not marked has been looked at.
use Rattle.std.proofs.Common.{◌≡◌, ℕ, false, All, length}
use Rattle.dual.specs.Prelude.{has_mark, is_marked, potential_in}
use Rattle.dual.proofs.table.CertificateTable.marks_anew.Given as goal

abbrev pub invariant-loop-v : goal.invariant-loop-v
invariant-loop-v g l = record {
  size : length l.marks.items ≡ l.size;
  turned : (v : ℕ) → is_marked l.marks.items v ≡ false → is_marked l.before.turned.now v ≡ false;
  potential : (v : ℕ) → is_marked l.marks.items v ≡ false → potential_in l.self v ≡ potential_in l.before.table.now v;
  sets : (v : ℕ) → is_marked l.marks.items v ≡ false → All (λ set. has_mark set v ≡ false) l.self.sets.items;
  sets_before : (v : ℕ) → is_marked l.marks.items v ≡ false → All (λ set. has_mark set v ≡ false) l.before.table.now.sets.items;
}
