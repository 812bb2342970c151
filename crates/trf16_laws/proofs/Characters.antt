-- The columns of a text that is UTF-8 are its characters.
use Rattle.std.proofs.Common.{◌≡◌, ℕ, ◌+◌, ◌/◌, ◌%◌, ◌<◌, ◌≤◌, Bool, true, false, cond, nat_lt, List, [], ◌∷◌, map, refl, sym, ap, ◌∙◌, arith}
use Rattle.std.specs.Str.{is_utf8, chars, encode_utf8_all}
use Rattle.std.specs.Char.{encode_utf8}
use Rattle.std.proofs.lemmas.Bool.Decides.{nat_tests}
use Rattle.std.proofs.lemmas.Str.{IsUtf8-from_is_utf8, chars-encodes}
use Rattle.trf16_report.specs.Prelude.{goes_on, columns}
use Rattle.trf16_report.proofs.ColumnLemmas.{columns-bytes}
use Rattle.trf16_report.proofs.WrittenColumns.{starts, starts-append, columns-append, IsColumn}

next_goes_on : (bits : ℕ) → goes_on (128 + bits % 64) ≡ true
next_goes_on bits = let small : bits % 64 < 64 = omega arith in grind (arith, nat_tests)

lead_starts : (c : ℕ) → 192 ≤ c → goes_on c ≡ false
lead_starts c h = grind (arith, nat_tests)

one_byte : (c : ℕ) → goes_on c ≡ false → IsColumn true (c ∷ [])
one_byte c h = record { one = refl; front = rw h refl }

two_bytes : (c x : ℕ) → goes_on c ≡ false → IsColumn true (c ∷ (128 + x % 64) ∷ [])
two_bytes c x h = record { one = rw (next_goes_on x) refl; front = rw h refl }

three_bytes : (c x y : ℕ) → goes_on c ≡ false → IsColumn true (c ∷ (128 + x % 64) ∷ (128 + y % 64) ∷ [])
three_bytes c x y h = record { one = rw (next_goes_on x, next_goes_on y) refl; front = rw h refl }

four_bytes : (c x y z : ℕ) → goes_on c ≡ false → IsColumn true (c ∷ (128 + x % 64) ∷ (128 + y % 64) ∷ (128 + z % 64) ∷ [])
four_bytes c x y z h = record { one = rw (next_goes_on x, next_goes_on y, next_goes_on z) refl; front = rw h refl }

encoded : (c : ℕ) (one two three : Bool) → nat_lt c 128 ≡ one
    → IsColumn true (cond one (c ∷ []) (cond two ((192 + c / 64) ∷ (128 + c % 64) ∷ []) (cond three ((224 + c / 4096) ∷ (128 + (c / 64) % 64) ∷ (128 + c % 64) ∷ [])
    ((240 + c / 262144) ∷ (128 + (c / 4096) % 64) ∷ (128 + (c / 64) % 64) ∷ (128 + c % 64) ∷ []))))
encoded c true two three e = one_byte c (low e)
  where
    low : nat_lt c 128 ≡ true → goes_on c ≡ false
    low e = grind (arith, nat_tests)
encoded c false true three e = two_bytes (192 + c / 64) c (lead_starts (192 + c / 64) (omega arith))
encoded c false false true e = three_bytes (224 + c / 4096) (c / 64) c (lead_starts (224 + c / 4096) (omega arith))
encoded c false false false e = four_bytes (240 + c / 262144) (c / 4096) (c / 64) c (lead_starts (240 + c / 262144) (omega arith))

-- the bytes of a character are a column
character : (c : ℕ) → IsColumn true (encode_utf8 c)
unfolding encode_utf8
character c = encoded c (nat_lt c 128) (nat_lt c 2048) (nat_lt c 65536) refl

starts-characters : (cs : List ℕ) → starts true (encode_utf8_all cs) ≡ true
starts-characters [] = refl
starts-characters (c ∷ cs) = starts-append true (encode_utf8 c) (encode_utf8_all cs) (character c).front (starts-characters cs)

pub columns-characters : (cs : List ℕ) → columns true (encode_utf8_all cs) ≡ map encode_utf8 cs
columns-characters [] = refl
columns-characters (c ∷ cs) =
    rw (columns-append true (encode_utf8 c) (encode_utf8_all cs) (starts-characters cs), (character c).one, columns-characters cs) refl

pub columns-chars : (bytes : List ℕ) → is_utf8 bytes ≡ true → columns true bytes ≡ map encode_utf8 (chars bytes)
columns-chars bytes h =
    let u = IsUtf8-from_is_utf8 bytes h in
    ap (columns true) (sym u.1.1) ∙ columns-characters u.0 ∙ ap (map encode_utf8) (sym (ap chars (sym u.1.1) ∙ chars-encodes u.0 u.1.0))

pub columns-each_byte : (bytes : List ℕ) → columns false bytes ≡ map (λ b. b ∷ []) bytes
columns-each_byte [] = refl
columns-each_byte (b ∷ rest) = columns-bytes b rest ∙ ap (λ (cols : List (List ℕ)). (b ∷ []) ∷ cols) (columns-each_byte rest)
