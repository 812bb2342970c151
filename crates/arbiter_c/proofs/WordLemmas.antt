-- What the loop over the lines of a text keeps, and words one behind the other.
use Rattle.std.proofs.Common.{◌≡◌, ℕ, zero, suc, List, [], ◌∷◌, ◌++◌, subst, sym, ap, ◌∙◌, append_assoc, append-nil, arith}
use Rattle.std.specs.Prelude.{IsUtf8}
use Rattle.trf16_report.specs.Prelude.{lines}
use Rattle.arbiter_c.specs.Said.{AreText, AreRead}

-- some words were read, each is UTF-8, and the rest has the others
pub record HasRead (text rest : List ℕ) (words : List (List ℕ)) : Type 0 where
  pub are : words ++ lines rest ≡ lines text
  pub sound : AreText (lines rest) → AreText (lines text)
  pub faults : AreText (lines text) → AreText (lines rest)

-- words of which the first and all others are UTF-8
pub text_before : (word : List ℕ) (words : List (List ℕ)) → IsUtf8 word → AreText words → AreText (word ∷ words)
text_before word words one all zero d lt = one
text_before word words one all (suc k) d lt = all k d (omega (arith, lt))

-- the words behind the first one
pub text_behind : (word : List ℕ) (words : List (List ℕ)) → AreText (word ∷ words) → AreText words
text_behind word words all k d lt = all (suc k) d (omega (arith, lt))

-- the first word
pub text_first : (word : List ℕ) (words : List (List ℕ)) → AreText (word ∷ words) → IsUtf8 word
text_first word words all = all 0 [] (omega arith)

-- one more line is read, which makes a word
pub read_further : (text rest after line word : List ℕ) (words more : List (List ℕ)) → HasRead text rest words → lines rest ≡ line ∷ lines after
    → (word ≡ line) × IsUtf8 line → more ≡ words ++ word ∷ [] → HasRead text after more
read_further text rest after line word words more before e one longer = record {
  are = ap (λ (xs : List (List ℕ)). xs ++ lines after) longer ∙ append_assoc words (word ∷ []) (lines after)
      ∙ ap (λ (x : List ℕ). words ++ x ∷ lines after) one.0 ∙ ap (λ (xs : List (List ℕ)). words ++ xs) (sym e) ∙ before.are;
  sound = λ all. before.sound (subst AreText (sym e) (text_before line (lines after) one.1 all));
  faults = λ all. text_behind line (lines after) (subst AreText e (before.faults all));
}

-- a line that is not UTF-8 is among those of the text
pub fault_in : (text rest after line : List ℕ) (words : List (List ℕ)) → HasRead text rest words → lines rest ≡ line ∷ lines after
    → ¬ (IsUtf8 line) → ¬ (AreText (lines text))
fault_in text rest after line words before e fault all = fault (text_first line (lines after) (subst AreText e (before.faults all)))

-- at the end all lines are read
pub read_whole : (text rest : List ℕ) (words : List (List ℕ)) → HasRead text rest words → rest ≡ [] → AreRead text words
read_whole text rest words before e =
    let none : lines rest ≡ [] = ap lines e in
    record {
      are = sym (append-nil words) ∙ ap (λ (xs : List (List ℕ)). words ++ xs) (sym none) ∙ before.are;
      sound = before.sound (subst AreText (sym none) (λ k d lt. absurd (omega (arith, lt))));
    }
