-- Boards that name everybody who is present.
use Rattle.std.specs.Prelude.{◌≡◌, ℕ, true, false, nat_eq, List}
use Rattle.std.specs.List.{list_any}
use Rattle.trf16_report.specs.Prelude.{Sheet, known, absent, named_by}

-- each player who is not absent from the next round stands on a board [own]
abbrev pub NameAllPresent : List (ℕ × ℕ) → Sheet → Type 0
NameAllPresent boards sheet = (start : ℕ) → known sheet start ≡ true → absent sheet start ≡ false → list_any (nat_eq start) (named_by boards) ≡ true
