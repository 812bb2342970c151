-- What the loop over the names of `--by` does with one name.
use Rattle.std.specs.Prelude.{ℕ, not, ◌||◌, nat_lt, if◌then◌else◌, List, [], ◌∷◌, ◌++◌, length, Option, Some, None, option_and_then}
use Rattle.std.specs.List.{list_any}
use Rattle.std.specs.Option.{option_map_or}
use Rattle.requests.specs.Keys.{is_same, key_named, names}
use Rattle.tables.specs.declared.key.Key.{Key}

-- keys and one more behind them, which is none of them; there are three at most
abbrev pub with_key : List Key → Key → Option (List Key)
with_key keys key = if list_any (is_same key) keys || not (nat_lt (length keys) 3) then None else Some (keys ++ key ∷ [])

-- keys and the one that a name stands for behind them
abbrev pub with_name : List Key → List ℕ → Option (List Key)
with_name keys name = option_and_then (with_key keys) (key_named name)

-- the names that are left of a list; at its end none
abbrev pub names_left : Option (List ℕ) → List (List ℕ)
names_left text = option_map_or names text []
