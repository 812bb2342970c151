-- The start ranks of a report, and how many rounds it names.
use Rattle.std.specs.Prelude.{ℕ, ◌<◌, ◌≤◌, List, map, nat_eq, All, IfSome}
use Rattle.std.specs.List.{IsDistinct}
use Rattle.trf16_report.specs.Sheet.{Entry, Sheet}
use Rattle.trf16_report.specs.declared.limits.TheConstants.{MOST_ROUNDS}

-- the start ranks of some players, in the order of their lines [with HasOwnStarts]
abbrev pub starts_of : List Entry → List ℕ
starts_of entries = map (λ entry. entry.start) entries

-- no two players have one start rank, each is from 1 to 9999, and a total of rounds is not above the most rounds [TRF16; own]
pub record HasOwnStarts (sheet : Sheet) : Type 0 where
  pub different : IsDistinct nat_eq (starts_of sheet.players)
  pub within : All (λ start. (0 < start) × (start ≤ 9999)) (starts_of sheet.players)
  pub rounds : IfSome sheet.total (λ total. total ≤ MOST_ROUNDS)
