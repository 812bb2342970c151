-- The keys of the standings, as `--by` names them.
use Rattle.std.specs.Prelude.{ℕ, Bool, true, false, not, ◌&&◌, ◌==◌, nat_le, if◌then◌else◌, List, [], ◌∷◌, length, Option, Some, None, option_and_then, option_map, codes}
use Rattle.std.specs.List.{list_any, slice_split}
use Rattle.std.specs.Str.{bytes_eq}
use Rattle.tables.specs.declared.key.Key.{Key}
use Rattle.tables.specs.declared.key.Key.TheVariants.{Direct, Buchholz, SonnebornBerger}

-- whether two keys are one
abbrev pub is_same : Key → Key → Bool
is_same Direct Direct = true
is_same Buchholz Buchholz = true
is_same SonnebornBerger SonnebornBerger = true
is_same _ _ = false

-- the key that a name stands for, in lower case
abbrev pub key_named : List ℕ → Option Key
key_named name =
    if bytes_eq name (codes "direct") then Some Direct
    else (if bytes_eq name (codes "buchholz") then Some Buchholz
    else (if bytes_eq name (codes "sb") then Some SonnebornBerger else None))

-- the keys where none is named: direct encounter, Buchholz, Sonneborn-Berger [with keys_in]
abbrev pub usual_keys : List Key
usual_keys = Direct ∷ Buchholz ∷ SonnebornBerger ∷ []

-- no key comes twice
abbrev pub are_different : List Key → Bool
are_different [] = true
are_different (key ∷ rest) = not (list_any (is_same key) rest) && are_different rest

-- the keys that some names stand for, in their order, where each name stands for one
abbrev pub keys_named : List (List ℕ) → Option (List Key)
keys_named [] = Some []
keys_named (name ∷ rest) = option_and_then (λ key. option_map (λ others. key ∷ others) (keys_named rest)) (key_named name)

-- keys, where there are three at most and none comes twice
abbrev pub if_listed : List Key → Option (List Key)
if_listed keys = if nat_le (length keys) 3 && are_different keys then Some keys else None

-- the names of a list, which commas part
abbrev pub names : List ℕ → List (List ℕ)
names text = slice_split (λ b. b == 44) text

-- the keys that a list names: one to three, none twice [own]
abbrev pub keys_in : List ℕ → Option (List Key)
keys_in text = option_and_then if_listed (keys_named (names text))
