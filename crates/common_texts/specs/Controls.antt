-- Control characters, which make a terminal do something in place of showing a letter.
use Rattle.std.specs.Prelude.{ℕ, Bool, false, ◌&&◌, ◌||◌, ◌==◌, nat_le, nat_lt, if◌then◌else◌, List, [], ◌∷◌}
use Rattle.std.specs.Str.{byte}

-- a control character of one byte: below 32, or 127
abbrev pub is_control : ℕ → Bool
is_control b = nat_lt b 0x20 || (b == 0x7F)

-- the two bytes of a control character from U+0080 to U+009F in UTF-8
abbrev pub is_long_control : ℕ → ℕ → Bool
is_long_control b c = (b == 0xC2) && (nat_le 0x80 c && nat_lt c 0xA0)

-- a byte, or a question mark in place of a control character
abbrev pub shown_byte : ℕ → ℕ
shown_byte b = if is_control b then byte "?" else b

-- a text with a question mark in place of each control character: a byte below 32, 127, or the two bytes of U+0080 to U+009F in UTF-8 [own]
abbrev pub without_controls : List ℕ → List ℕ
without_controls [] = []
without_controls (b ∷ []) = shown_byte b ∷ []
without_controls (b ∷ c ∷ rest) =
    if is_long_control b c then byte "?" ∷ without_controls rest
    else shown_byte b ∷ without_controls (c ∷ rest)

-- whether a text holds a control character [with without_controls]
abbrev pub holds_control : List ℕ → Bool
holds_control [] = false
holds_control (b ∷ []) = is_control b
holds_control (b ∷ c ∷ rest) = is_control b || (is_long_control b c || holds_control (c ∷ rest))
