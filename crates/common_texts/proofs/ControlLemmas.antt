-- What is shown of a text holds no control character.
use Rattle.std.proofs.Common.{◌≡◌, ◌∙◌, ◌<◌, ◌||◌, ◌==◌, refl, sym, ap, arith, append-nil, append_assoc, ℕ, false, List, [], ◌∷◌, ◌++◌, length, drop, get_or}
use Rattle.std.proofs.lemmas.Bool.{and_right, cond_both, or_from}
use Rattle.std.specs.Prelude.{⊤}
use Rattle.common_texts.specs.Prelude.{holds_control, is_control, is_long_control, shown_byte, without_controls}

-- no byte makes a long control character with a question mark behind it
mark_behind : (b : ℕ) → is_long_control b 63 ≡ false
mark_behind b = and_right (b == 0xC2) false refl

shown_behind : (b c : ℕ) → is_long_control b c ≡ false → is_long_control b (shown_byte c) ≡ false
shown_behind b c e = cond_both (is_control c) 63 c (λ (x : ℕ). is_long_control b x ≡ false) (λ t. mark_behind b) (λ t. e)

shown_before : (b x : ℕ) → is_long_control b x ≡ false → is_long_control (shown_byte b) x ≡ false
shown_before b x e = cond_both (is_control b) 63 b (λ (c : ℕ). is_long_control c x ≡ false) (λ t. refl) (λ t. e)

plain : (b : ℕ) → is_control (shown_byte b) ≡ false
plain b = cond_both (is_control b) 63 b (λ (c : ℕ). is_control c ≡ false) (λ t. refl) (λ t. t)

-- a byte makes no long control character with the first one behind it
abbrev Parts : ℕ → List ℕ → Type 0
Parts b [] = ⊤
Parts b (c ∷ rest) = is_long_control b c ≡ false

onto : (b : ℕ) (text : List ℕ) → is_control b ≡ false → Parts b text → holds_control text ≡ false → holds_control (b ∷ text) ≡ false
onto b [] e part free = e
onto b (c ∷ rest) e part free =
    or_from (is_control b) (is_long_control b c || holds_control (c ∷ rest)) e (or_from (is_long_control b c) (holds_control (c ∷ rest)) part free)

mark_parts : (text : List ℕ) → Parts 63 text
mark_parts [] = tt
mark_parts (c ∷ rest) = refl

shown_parts : (b c : ℕ) (rest : List ℕ) → is_long_control b c ≡ false → Parts (shown_byte b) (without_controls (c ∷ rest))
shown_parts b c [] e = shown_before b (shown_byte c) (shown_behind b c e)
shown_parts b c (d ∷ rest) e =
    cond_both (is_long_control c d) (63 ∷ without_controls rest) (shown_byte c ∷ without_controls (d ∷ rest)) (Parts (shown_byte b))
    (λ t. shown_before b 63 (mark_behind b)) (λ t. shown_before b (shown_byte c) (shown_behind b c e))

shown_is_free : (text : List ℕ) → holds_control (without_controls text) ≡ false
shown_is_free [] = refl
shown_is_free (b ∷ []) = plain b
shown_is_free (b ∷ c ∷ rest) =
    cond_both (is_long_control b c) (63 ∷ without_controls rest) (shown_byte b ∷ without_controls (c ∷ rest)) (λ (text : List ℕ). holds_control text ≡ false)
    (λ t. onto 63 (without_controls rest) refl (mark_parts (without_controls rest)) (shown_is_free rest))
    (λ t. onto (shown_byte b) (without_controls (c ∷ rest)) (plain b) (shown_parts b c rest t) (shown_is_free (c ∷ rest)))

-- one more byte of what is shown
pub shown_more : (shown more text after rest : List ℕ) (byte : ℕ) → 0 < length rest → without_controls (get_or rest 0 0 ∷ drop 1 rest) ≡ byte ∷ without_controls after
    → more ≡ shown ++ byte ∷ [] → shown ++ without_controls rest ≡ without_controls text → more ++ without_controls after ≡ without_controls text
shown_more shown more text after [] byte some first put so_far = absurd (omega arith)
shown_more shown more text after (b ∷ behind) byte some first put so_far =
    ap (λ t. t ++ without_controls after) put ∙ append_assoc shown (byte ∷ []) (without_controls after) ∙ ap (λ t. shown ++ t) (sym first) ∙ so_far

-- what is shown of a whole text
pub free_at_end : (shown text rest : List ℕ) → length rest < 1 → shown ++ without_controls rest ≡ without_controls text → holds_control shown ≡ false
free_at_end shown text [] none so_far = ap holds_control (sym (append-nil shown) ∙ so_far) ∙ shown_is_free text
free_at_end shown text (b ∷ behind) none so_far = absurd (omega arith)
