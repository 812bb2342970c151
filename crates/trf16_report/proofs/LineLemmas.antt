-- How a text falls into lines, step by step.
use Rattle.std.proofs.Common.{◌≡◌, ℕ, suc, ◌+◌, ◌<◌, ◌≤◌, Bool, true, false, ◌&&◌, ◌==◌, not, cond, get_or, List, [], ◌∷◌, length, take, drop, refl, arith}
use Rattle.std.proofs.lemmas.Grind.{common_steps}
use Rattle.std.specs.List.{position_or_len}
use Rattle.std.proofs.lemmas.List.Sums.{position_or_len_is}
use Rattle.trf16_report.specs.Prelude.{ends_line, onto_first, lines, behind_end}

one : (b : ℕ) (ends : Bool) → cond ends ([] ∷ []) ((b ∷ []) ∷ []) ≡ take (cond (not ends) 1 0) (b ∷ []) ∷ lines (behind_end (drop (cond (not ends) 1 0) (b ∷ [])))
one b true = refl
one b false = refl

step : (b c : ℕ) (rest : List ℕ) (ends both : Bool) (k : ℕ) → (both ≡ true → ends ≡ true) → both ≡ (b == 13) && (c == 10)
    → lines (c ∷ rest) ≡ take k (c ∷ rest) ∷ lines (behind_end (drop k (c ∷ rest)))
    → cond both ([] ∷ lines rest) (cond ends ([] ∷ lines (c ∷ rest)) (onto_first b (lines (c ∷ rest))))
    ≡ take (cond (not ends) (1 + k) 0) (b ∷ c ∷ rest) ∷ lines (behind_end (drop (cond (not ends) (1 + k) 0) (b ∷ c ∷ rest)))
step b c rest true true k h e others = rw (← e) refl
step b c rest true false k h e others = rw (← e) refl
step b c rest false true k h e others = let no : false ≡ true = h refl in absurd (cc)
step b c rest false false k h e others =
    let one_more : 1 + k ≡ suc k = omega arith in
    rw (one_more, others) refl

both_ends : (b c : ℕ) → ((b == 13) && (c == 10)) ≡ true → ends_line b ≡ true
both_ends b c h = grind (arith, common_steps)

pub lines-first : (bytes : List ℕ) → 0 < length bytes
    → lines bytes ≡ take (position_or_len ends_line bytes) bytes ∷ lines (behind_end (drop (position_or_len ends_line bytes) bytes))
lines-first [] h = absurd (omega arith)
lines-first (b ∷ []) h = one b (ends_line b)
lines-first (b ∷ c ∷ rest) h =
    step b c rest (ends_line b) ((b == 13) && (c == 10)) (position_or_len ends_line (c ∷ rest)) (both_ends b c) refl (lines-first (c ∷ rest) (omega arith))

-- the same for a place that is known by the bytes in front of it and at it
pub lines_at : (bytes : List ℕ) (n : ℕ) → 0 < length bytes → n ≤ length bytes
    → ((k : ℕ) → k < n → ends_line (get_or bytes k 0) ≡ false) → (n < length bytes → ends_line (get_or bytes n 0) ≡ true)
    → lines bytes ≡ take n bytes ∷ lines (behind_end (drop n bytes))
lines_at bytes n h within inside behind =
    rw (← position_or_len_is ends_line bytes n 0 within inside behind) (lines-first bytes h)

fewer_onto : (b n : ℕ) (all : List (List ℕ)) → length all ≤ n + 1 → length (onto_first b all) ≤ n + 2
fewer_onto b n [] le = omega arith
fewer_onto b n (first ∷ others) le = omega arith

-- a text has no more lines than bytes
pub lines_fewer : (bytes : List ℕ) → length (lines bytes) ≤ length bytes
lines_fewer [] = omega arith
lines_fewer (b ∷ []) = by (ends_line b)
  where
    by : (ends : Bool) → length (cond ends ([] ∷ []) ((b ∷ []) ∷ [])) ≤ 1
    by true = omega arith
    by false = omega arith
lines_fewer (b ∷ c ∷ rest) =
    let less : length (lines rest) ≤ length rest = lines_fewer rest in
    let more : length (lines (c ∷ rest)) ≤ suc (length rest) = lines_fewer (c ∷ rest) in
    by ((b == 13) && (c == 10)) (ends_line b) less (omega arith)
  where
    by : (pair ends : Bool) → length (lines rest) ≤ length rest → length (lines (c ∷ rest)) ≤ length rest + 1
        → length (cond pair ([] ∷ lines rest) (cond ends ([] ∷ lines (c ∷ rest)) (onto_first b (lines (c ∷ rest))))) ≤ suc (suc (length rest))
    by true ends less more = omega arith
    by false true less more = omega arith
    by false false less more = let le = fewer_onto b (length rest) (lines (c ∷ rest)) more in omega arith
