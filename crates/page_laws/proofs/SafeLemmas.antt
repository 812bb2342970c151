-- Escaped texts, byte by byte.
use Rattle.std.proofs.Common.{◌≡◌, ◌∙◌, ℕ, Bool, true, false, not, ◌&&◌, ◌||◌, ◌==◌, List, [], ◌∷◌, ◌++◌, refl, ap}
use Rattle.std.proofs.lemmas.Bool.{cond_both, true≢false}
use Rattle.std.specs.Prelude.{codes}
use Rattle.std.specs.List.{list_any}
use Rattle.std.specs.Str.{byte}
use Rattle.markup.specs.Prelude.{escaped, escaped_byte}
use Rattle.page_laws.specs.SafeTexts.{ends_reference, has_references_alone, is_mark}

neither : (x y : Bool) → x ≡ false → y ≡ false → (x || y) ≡ false
neither true y p q = absurd (true≢false p)
neither false y p q = q

-- a byte that is none of the five, in front of a text
plain_byte : (b : ℕ) (rest : List ℕ) → (b == byte "<") ≡ false → (b == byte ">") ≡ false → (b == byte "\"") ≡ false → (b == byte "'") ≡ false
    → list_any is_mark rest ≡ false → list_any is_mark (b ∷ rest) ≡ false
plain_byte b rest lt gt quot apos none =
    neither (is_mark b) (list_any is_mark rest)
    (neither (b == byte "<") ((b == byte ">") || ((b == byte "\"") || (b == byte "'"))) lt
    (neither (b == byte ">") ((b == byte "\"") || (b == byte "'")) gt (neither (b == byte "\"") (b == byte "'") quot apos)))
    none

no_mark_byte : (b : ℕ) (rest : List ℕ) → list_any is_mark rest ≡ false → list_any is_mark (escaped_byte b ++ rest) ≡ false
no_mark_byte b rest none =
    let P : List ℕ → Type 0 = λ bytes. list_any is_mark (bytes ++ rest) ≡ false in
    cond_both (b == byte "&") (codes "&amp;") _ P (λ amp. none)
    (λ amp. cond_both (b == byte "<") (codes "&lt;") _ P (λ lt. none)
    (λ lt. cond_both (b == byte ">") (codes "&gt;") _ P (λ gt. none)
    (λ gt. cond_both (b == byte "\"") (codes "&quot;") _ P (λ quot. none)
    (λ quot. cond_both (b == byte "'") (codes "&#39;") (b ∷ []) P (λ apos. none) (λ apos. plain_byte b rest lt gt quot apos none)))))

pub no_mark : (text : List ℕ) → list_any is_mark (escaped text) ≡ false
no_mark [] = refl
no_mark (b ∷ rest) = no_mark_byte b (escaped rest) (no_mark rest)

references_byte : (b : ℕ) (rest : List ℕ) → has_references_alone rest ≡ true → has_references_alone (escaped_byte b ++ rest) ≡ true
references_byte b rest all =
    let P : List ℕ → Type 0 = λ bytes. has_references_alone (bytes ++ rest) ≡ true in
    cond_both (b == byte "&") (codes "&amp;") _ P (λ amp. all)
    (λ amp. cond_both (b == byte "<") (codes "&lt;") _ P (λ lt. all)
    (λ lt. cond_both (b == byte ">") (codes "&gt;") _ P (λ gt. all)
    (λ gt. cond_both (b == byte "\"") (codes "&quot;") _ P (λ quot. all)
    (λ quot. cond_both (b == byte "'") (codes "&#39;") (b ∷ []) P (λ apos. all)
    (λ apos. ap (λ is. (not is || ends_reference rest) && has_references_alone rest) amp ∙ all)))))

pub references_alone : (text : List ℕ) → has_references_alone (escaped text) ≡ true
references_alone [] = refl
references_alone (b ∷ rest) = references_byte b (escaped rest) (references_alone rest)
