-- The table of new start ranks.
use Rattle.std.specs.Prelude.{ℕ, ◌==◌, if◌then◌else◌, slice_index_or}
use Rattle.trf16_writer.specs.declared.new_starts.NewStarts.{NewStarts}

-- the new start rank of an old one; 0 where no player has the old one
abbrev pub new_in : NewStarts → ℕ → ℕ
new_in table start = slice_index_or table.places.items start 0

-- the first of two numbers that is not 0; 0 where both are
abbrev pub first_of : ℕ → ℕ → ℕ
first_of a b = if a == 0 then b else a
