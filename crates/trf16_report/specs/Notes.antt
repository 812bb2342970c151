-- What is noted of the carried lines while they are read, and what it must agree with.
use Rattle.std.specs.Prelude.{◌≡◌, ℕ, ◌+◌, ◌*◌, ◌<◌, Bool, true, false, ◌||◌, ◌==◌, nat_lt, codes, length, if◌then◌else◌, List, [], ◌∷◌, Option, Some, None, slice_index_or}
use Rattle.std.specs.Option.{option_or}
use Rattle.std.specs.Str.{byte}
use Rattle.trf16_report.specs.Sheet.{Sheet}
use Rattle.trf16_report.specs.StartRanks.{starts_of}
use Rattle.trf16_report.specs.Absence.{is_named_absent, first_of}
use Rattle.trf16_report.specs.declared.kind.LineKind.{LineKind}
use Rattle.trf16_report.specs.declared.kind.LineKind.TheVariants.{Xxa, Xxs, Rank}
use Rattle.trf16_report.specs.Extensions.{is_kind, names_both}
use Rattle.trf16_report.specs.Absence.{some_carried}
use Rattle.trf16_report.specs.declared.start_ranks.StartRanks.{StartRanks}
use Rattle.trf16_report.specs.declared.notes.Notes.{Notes}
use Rattle.trf16_report.specs.declared.apart.Apart.{Apart}

-- whether a start rank is one of some
abbrev pub has_start : StartRanks → ℕ → Bool
has_start starts start = slice_index_or starts.marks.items start false

-- whether a start rank is noted as that of somebody absent [with Tells]
abbrev pub is_marked : Notes → ℕ → Bool
is_marked notes start = has_start notes.absent start

-- the first line of a kind that is noted [with Tells]
abbrev pub first_noted : Notes → LineKind → Option ℕ
first_noted notes Xxa = notes.xxa
first_noted notes Xxs = notes.xxs
first_noted notes Rank = notes.rank

-- whether a line begins as all extensions do
abbrev pub begins_with_x : List ℕ → Bool
begins_with_x [] = false
begins_with_x (b ∷ rest) = (b == byte "X") || (b == byte "x")

-- whether two kinds are one
abbrev pub is_same_kind : LineKind → LineKind → Bool
is_same_kind Xxa Xxa = true
is_same_kind Xxs Xxs = true
is_same_kind Rank Rank = true
is_same_kind _ _ = false

-- whether what was found is a kind
abbrev pub is_kind_of : Option LineKind → LineKind → Bool
is_kind_of None kind = false
is_kind_of (Some found) kind = is_same_kind found kind

-- the first line of a kind behind line n, of that in front of it [with Tells]
abbrev pub noted_first : Option ℕ → Bool → ℕ → Option ℕ
noted_first before here n = option_or before (if here then Some n else None)

-- the smaller of two numbers, where there are two
abbrev pub earlier : Option ℕ → Option ℕ → Option ℕ
earlier (Some a) (Some b) = Some (if nat_lt b a then b else a)
earlier None found = found
earlier found None = found

-- what is noted is what the carried lines of a report say [own]
pub record Tells (notes : Notes) (sheet : Sheet) : Type 0 where
  pub absent : (start : ℕ) → is_marked notes start ≡ is_named_absent sheet start
  pub first : (kind : LineKind) → first_noted notes kind ≡ first_of (kind ∷ []) sheet
  pub together : notes.together ≡ some_carried (is_kind (codes "XXP")) sheet

-- whether two players, by their places in the order of the lines, are marked as named together
abbrev pub are_marked : Apart → ℕ → ℕ → Bool
are_marked apart i j = slice_index_or apart.marks.items (apart.count * i + j) false

-- the start rank at a place
abbrev pub start_at : List ℕ → ℕ → ℕ
start_at starts i = slice_index_or starts i 0

-- what is marked is which players the lines XXP of a report name together [own]
pub record TellsApart (apart : Apart) (sheet : Sheet) : Type 0 where
  pub count : apart.count ≡ length sheet.players
  pub both : (i j : ℕ) → i < apart.count → j < apart.count
      → are_marked apart i j ≡ some_carried (names_both (start_at (starts_of sheet.players) i) (start_at (starts_of sheet.players) j)) sheet
