-- The text of a line alone, whose columns are bytes.
use Rattle.std.proofs.Common.{◌≡◌, ℕ, List, [], ◌∷◌, Bool, true, false, ◌&&◌, ◌==◌, if◌then◌else◌, refl, ap, ◌∙◌}
use Rattle.std.specs.Str.{byte, chars, is_utf8}
use Rattle.trf16_report.specs.Prelude.{without_marks}
use Rattle.trf16_laws.proofs.WrittenText.{utf8_split}
use Rattle.report_notes.specs.RefusalNotes.{alone_in_bytes}

and_false : (x : Bool) → (x && false) ≡ false
and_false true = refl
and_false false = refl

else_is : (x : Bool) (xs ys : List ℕ) → x ≡ false → (if x then xs else ys) ≡ ys
else_is x xs ys h = rw h refl

-- behind its marks it is the text of another line alone
abbrev IsAlone : List ℕ → Type 0
IsAlone bytes = (line : List ℕ) × (bytes ≡ alone_in_bytes line)

marked : (x : Bool) (xs ys : List ℕ) → IsAlone xs → IsAlone ys → IsAlone (if x then xs else ys)
marked true xs ys a b = a
marked false xs ys a b = b

behind_marks : (line : List ℕ) → IsAlone (without_marks (alone_in_bytes line))
behind_marks [] = ([], refl)
behind_marks (a ∷ []) = (a ∷ [], else_is (((a == 0xEF) && (byte "\n" == 0xBB)) && (0xFF == 0xBF)) (without_marks []) (alone_in_bytes (a ∷ [])) (and_false ((a == 0xEF) && (byte "\n" == 0xBB))))
behind_marks (a ∷ b ∷ []) = (a ∷ b ∷ [], else_is (((a == 0xEF) && (b == 0xBB)) && (byte "\n" == 0xBF)) (without_marks (0xFF ∷ [])) (alone_in_bytes (a ∷ b ∷ [])) (and_false ((a == 0xEF) && (b == 0xBB))))
behind_marks (a ∷ b ∷ c ∷ rest) = marked (((a == 0xEF) && (b == 0xBB)) && (c == 0xBF)) (without_marks (alone_in_bytes rest)) (alone_in_bytes (a ∷ b ∷ c ∷ rest)) (behind_marks rest) (a ∷ b ∷ c ∷ rest, refl)

no_utf8 : is_utf8 (0xFF ∷ []) ≡ false
unfolding is_utf8 chars
no_utf8 = refl

-- it is no UTF-8
pub alone_has_bytes : (line : List ℕ) → is_utf8 (without_marks (alone_in_bytes line)) ≡ false
alone_has_bytes line =
    let behind = behind_marks line in
    ap is_utf8 behind.1 ∙ utf8_split behind.0 (byte "\n") (0xFF ∷ []) refl ∙ ap (λ x. is_utf8 behind.0 && x) no_utf8 ∙ and_false (is_utf8 behind.0)
