-- What a text in a page does not have: a byte that begins or ends a tag or a value, or a reference of its own.
use Rattle.std.specs.Prelude.{ℕ, Bool, true, not, ◌&&◌, ◌||◌, ◌==◌, nat_eq, List, [], ◌∷◌, codes}
use Rattle.std.specs.List.{starts_with}
use Rattle.std.specs.Str.{byte}

-- a byte that begins or ends a tag or a value: `<`, `>`, `"` or `'` [own]
abbrev pub is_mark : ℕ → Bool
is_mark b = (b == byte "<") || ((b == byte ">") || ((b == byte "\"") || (b == byte "'")))

-- what stands behind a `&` makes one of the five references with it
abbrev pub ends_reference : List ℕ → Bool
ends_reference behind =
    starts_with nat_eq behind (codes "amp;") || (starts_with nat_eq behind (codes "lt;") || (starts_with nat_eq behind (codes "gt;")
    || (starts_with nat_eq behind (codes "quot;") || starts_with nat_eq behind (codes "#39;"))))

-- each `&` of a text begins one of the five references [own]
abbrev pub has_references_alone : List ℕ → Bool
has_references_alone [] = true
has_references_alone (b ∷ behind) = (not (b == byte "&") || ends_reference behind) && has_references_alone behind
