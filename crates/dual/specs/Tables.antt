-- Certificates as tables by the players' numbers.
use Rattle.std.specs.Prelude.{ℕ, ◌*◌, Bool, false, if◌then◌else◌, List, map, sum_by, slice_index_or}
use Rattle.dual.specs.declared.table.MarkedSet.{MarkedSet}
use Rattle.dual.specs.declared.table.CertificateTable.{CertificateTable}
use Rattle.dual.specs.Duals.{Priced, Certificate, most_inside}

-- a set by its marks: who has none is not in it
abbrev pub has_mark : MarkedSet → ℕ → Bool
has_mark set v = slice_index_or set.marks.items v false

-- a set by its marks, with its price
abbrev pub priced_by : MarkedSet → Priced
priced_by set = record { has = has_mark set; price = set.price }

-- what a player pays for a set beside another who is inside
abbrev pub toll_of : ℕ → MarkedSet → ℕ
toll_of v set = if has_mark set v then set.price else 0

-- a potential by the table, and 0 past its end
abbrev pub potential_in : CertificateTable → ℕ → ℕ
potential_in table v = slice_index_or table.potentials.items v 0

-- the certificate that a table holds by the players' numbers: who has no mark is not in a set, and past its end a potential is 0 [own]
abbrev pub certificate_in : CertificateTable → Certificate
certificate_in table =
    record {
      potential = potential_in table;
      given = table.given;
      given_left = table.given_left;
      sets = map priced_by table.sets.items;
    }

-- the most that a set's tolls come to
abbrev pub most_toll : List ℕ → MarkedSet → ℕ
most_toll players set = set.price * most_inside players (priced_by set)

-- the most that the tolls of all sets come to
abbrev pub most_tolls : CertificateTable → List ℕ → ℕ
most_tolls table players = sum_by (most_toll players) table.sets.items
