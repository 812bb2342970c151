-- Texts in a page: characters that would begin or end a tag, a value or a reference are written as references.
use Rattle.std.specs.Prelude.{ℕ, ◌==◌, if◌then◌else◌, List, [], ◌∷◌, codes}
use Rattle.std.specs.List.{flat_map}
use Rattle.std.specs.Str.{byte}

-- a byte, or the reference in place of `&`, `<`, `>`, `"` and `'` [HTML]
abbrev pub escaped_byte : ℕ → List ℕ
escaped_byte b =
    if b == byte "&" then codes "&amp;"
    else (if b == byte "<" then codes "&lt;"
    else (if b == byte ">" then codes "&gt;"
    else (if b == byte "\"" then codes "&quot;" else (if b == byte "'" then codes "&#39;" else b ∷ []))))

-- a text with references in place of these characters [HTML]
abbrev pub escaped : List ℕ → List ℕ
escaped = flat_map escaped_byte
