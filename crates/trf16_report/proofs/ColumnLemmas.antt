-- How a line falls into columns, step by step.
use Rattle.std.proofs.Common.{◌≡◌, ℕ, zero, suc, ◌+◌, ◌-◌, ◌<◌, ◌≤◌, Bool, true, false, ◌&&◌, cond, get_or, inl, inr, subst, List, [], ◌∷◌, ◌++◌, length, take, drop, refl, sym, ap, ◌∙◌, append_assoc, arith}
use Rattle.std.proofs.lemmas.List.{append-nil, length-append, length-drop, drop-drop, drop_at, length-take-le, drop_all, take-append-drop, take_all}
use Rattle.std.proofs.Math.Seq.{take-add, get_or-append_seam}
use Rattle.std.proofs.lemmas.Bool.{cases_lt}
use Rattle.std.proofs.Math.ListN.{get_or-append}
use Rattle.std.proofs.lemmas.Bool.Decides.{nat_tests}
use Rattle.std.specs.Str.{IsAscii}
use Rattle.trf16_report.specs.Prelude.{onto_first, goes_on, columns, joined, IsStart, AllStart, place}

pub columns-bytes : (b : ℕ) (rest : List ℕ) → columns false (b ∷ rest) ≡ (b ∷ []) ∷ columns false rest
columns-bytes b [] = refl
columns-bytes b (c ∷ rest) = refl

-- the first character of a text that is UTF-8
pub columns-character : (b : ℕ) (rest : List ℕ) (n : ℕ) → n ≤ length rest → ((k : ℕ) → k < n → goes_on (get_or rest k 0) ≡ true)
    → (n < length rest → goes_on (get_or rest n 0) ≡ false) → columns true (b ∷ rest) ≡ (b ∷ take n rest) ∷ columns true (drop n rest)
columns-character b [] zero within inside behind = refl
columns-character b [] (suc n) within inside behind = absurd (omega arith)
columns-character b (c ∷ rest) zero within inside behind = let stops : goes_on c ≡ false = behind (omega arith) in rw stops refl
columns-character b (c ∷ rest) (suc n) within inside behind =
    let follows : goes_on c ≡ true = inside 0 (omega arith) in
    let others : columns true (c ∷ rest) ≡ (c ∷ take n rest) ∷ columns true (drop n rest) =
    columns-character c rest n (omega arith) (λ k lt. inside (suc k) (omega arith)) (λ lt. behind (omega arith)) in
    rw (follows, others) refl

pub joined-append : (xs ys : List (List ℕ)) → joined (xs ++ ys) ≡ joined xs ++ joined ys
joined-append [] ys = refl
joined-append (x ∷ xs) ys = ap (λ (bs : List ℕ). x ++ bs) (joined-append xs ys) ∙ sym (append_assoc x (joined xs) (joined ys))

joined-onto_first : (b : ℕ) (cols : List (List ℕ)) → joined (onto_first b cols) ≡ b ∷ joined cols
joined-onto_first b [] = refl
joined-onto_first b (first ∷ others) = refl

column_step : (b c : ℕ) (rest : List ℕ) (utf8 goes : Bool) → joined (columns utf8 (c ∷ rest)) ≡ c ∷ rest
    → joined (cond goes (onto_first b (columns utf8 (c ∷ rest))) ((b ∷ []) ∷ columns utf8 (c ∷ rest))) ≡ b ∷ c ∷ rest
column_step b c rest utf8 true e = joined-onto_first b (columns utf8 (c ∷ rest)) ∙ ap (λ (bs : List ℕ). b ∷ bs) e
column_step b c rest utf8 false e = ap (λ (bs : List ℕ). b ∷ bs) e

-- the columns are the whole line
pub joined-columns : (utf8 : Bool) (bytes : List ℕ) → joined (columns utf8 bytes) ≡ bytes
joined-columns utf8 [] = refl
joined-columns utf8 (b ∷ []) = refl
joined-columns utf8 (b ∷ c ∷ rest) = column_step b c rest utf8 (utf8 && goes_on c) (joined-columns utf8 (c ∷ rest))

-- what one column takes off a line
pub record IsFirst (utf8 : Bool) (bytes : List ℕ) (len : ℕ) : Type 0 where
  pub first : take len bytes ≡ joined (take 1 (columns utf8 bytes))
  pub rest : columns utf8 (drop len bytes) ≡ drop 1 (columns utf8 bytes)

IsFirst-from : (utf8 : Bool) (bytes column : List ℕ) (len : ℕ) (rest : List ℕ) → take len bytes ≡ column → drop len bytes ≡ rest
    → columns utf8 bytes ≡ column ∷ columns utf8 rest → IsFirst utf8 bytes len
IsFirst-from utf8 bytes column len rest t d e = record {
  first = rw (t, e) (sym (append-nil column));
  rest = rw (d, e) refl;
}

pub first_character : (bytes : List ℕ) (b : ℕ) (rest : List ℕ) (n : ℕ) → bytes ≡ b ∷ rest → n ≤ length rest → ((k : ℕ) → k < n → goes_on (get_or rest k 0) ≡ true)
    → (n < length rest → goes_on (get_or rest n 0) ≡ false) → IsFirst true bytes (1 + n)
first_character bytes b rest n e within inside behind =
    let one_more : 1 + n ≡ suc n = omega arith in
    rw (e, one_more) (IsFirst-from true (b ∷ rest) (b ∷ take n rest) (suc n) (drop n rest) refl refl (columns-character b rest n within inside behind))

-- behind a column, a further one begins where it would if the line began there
pub IsStart-behind : (utf8 : Bool) (bytes : List ℕ) (before at more len : ℕ) → IsStart utf8 bytes before at → IsStart utf8 (drop at bytes) more len
    → IsStart utf8 bytes (before + more) (at + len)
IsStart-behind utf8 bytes before at more len start further =
    let cols = columns utf8 bytes in
    let within : len ≤ length (drop at bytes) = further.within in
    let together : take at bytes ++ take len (drop at bytes) ≡ joined (take before cols ++ take more (drop before cols)) =
    rw (start.front, further.front, start.back) (sym (joined-append (take before cols) (take more (drop before cols)))) in
    record {
      within = omega (arith, length-drop at bytes);
      front = take-add at len bytes ∙ together ∙ ap joined (sym (take-add before more (columns utf8 bytes)));
      back = ap (columns utf8) (sym (drop-drop len at bytes)) ∙ further.back ∙ ap (λ (cols : List (List ℕ)). drop more cols) start.back ∙ drop-drop more before (columns utf8 bytes);
    }

-- the next column begins behind the first of the rest
pub IsStart-next : (utf8 : Bool) (bytes : List ℕ) (before at len : ℕ) → IsStart utf8 bytes before at → len ≤ length (drop at bytes)
    → IsFirst utf8 (drop at bytes) len → IsStart utf8 bytes (before + 1) (at + len)
IsStart-next utf8 bytes before at len start within one =
    IsStart-behind utf8 bytes before at 1 len start (record { within = within; front = one.first; back = one.rest })

-- each byte of a line is a column: the text is not UTF-8, or the line is ASCII
abbrev pub IsPlain : Bool → List ℕ → Type 0
IsPlain utf8 bytes = utf8 ≡ true → IsAscii bytes

stops : (b : ℕ) → b < 128 → goes_on b ≡ false
stops b h = grind (arith, nat_tests)

columns-plain : (utf8 : Bool) (b : ℕ) (rest : List ℕ) → IsPlain utf8 rest → columns utf8 (b ∷ rest) ≡ (b ∷ []) ∷ columns utf8 rest
columns-plain false b rest plain = columns-bytes b rest
columns-plain true b rest plain = columns-character b rest 0 (omega arith) (λ k lt. absurd (omega arith)) (λ _. stops (get_or rest 0 0) (plain refl 0))

-- where each byte is a column, one begins at each byte
IsStart-plain : (utf8 : Bool) (bytes : List ℕ) (k : ℕ) → IsPlain utf8 bytes → k ≤ length bytes → IsStart utf8 bytes k k
IsStart-plain utf8 bytes zero plain le = record { within = le; front = refl; back = refl }
IsStart-plain utf8 [] (suc k) plain le = absurd (omega arith)
IsStart-plain utf8 (b ∷ rest) (suc k) plain le =
    let others_plain : IsPlain utf8 rest = λ e i. plain e (suc i) in
    let others = IsStart-plain utf8 rest k others_plain (omega arith) in
    let first = columns-plain utf8 b rest others_plain in
    record {
      within = le;
      front = rw first (ap (λ (bs : List ℕ). b ∷ bs) others.front);
      back = rw first others.back;
    }

-- the bytes of some columns lie between where they begin and where they end
pub text_between : (utf8 : Bool) (bytes : List ℕ) (i j a b : ℕ) → i ≤ j → IsStart utf8 bytes i a → IsStart utf8 bytes j b
    → (a ≤ b) × (drop a (take b bytes) ≡ joined (take (j - i) (drop i (columns utf8 bytes))))
text_between utf8 bytes i j a b le start end =
    let cols = columns utf8 bytes in
    let middle = joined (take (j - i) (drop i cols)) in
    let sum : j ≡ i + (j - i) = omega arith in
    let parts : take b bytes ≡ take a bytes ++ middle =
    end.front ∙ ap (λ n. joined (take n cols)) sum ∙ ap joined (take-add i (j - i) cols) ∙ joined-append (take i cols) (take (j - i) (drop i cols))
    ∙ ap (λ (front : List ℕ). front ++ middle) (sym start.front) in
    let first : length (take a bytes) ≡ a = length-take-le a bytes start.within in
    let both : length (take b bytes) ≡ b = length-take-le b bytes end.within in
    let total : length (take b bytes) ≡ length (take a bytes) + length middle = ap length parts ∙ length-append (take a bytes) middle in
    (omega arith, ap (λ (bs : List ℕ). drop a bs) parts ∙ drop_at (take a bytes) middle a first)

-- these places are where the first columns begin
abbrev pub AreStarts : Bool → List ℕ → List ℕ → Type 0
AreStarts utf8 bytes starts = (k : ℕ) → k < length starts → IsStart utf8 bytes k (get_or starts k 0)

-- one more place is listed
pub AreStarts-push : (utf8 : Bool) (bytes starts : List ℕ) (at : ℕ) → AreStarts utf8 bytes starts → IsStart utf8 bytes (length starts) at
    → AreStarts utf8 bytes (starts ++ at ∷ [])
AreStarts-push utf8 bytes starts at before here j lt =
    elim (cases_lt j (length starts)) [
      | inl below ↦ rw (get_or-append starts (at ∷ []) 0 j below) (before j below)
      | inr above ↦
          let same : length starts ≡ j = omega (arith, length-append starts (at ∷ [])) in
          subst (λ n. IsStart utf8 bytes n (get_or (starts ++ at ∷ []) n 0)) same (rw (get_or-append_seam starts at [] 0) here)
    ]

-- where a column would begin at the end of the line, so would each further one
IsStart-further : (utf8 : Bool) (bytes : List ℕ) (n k : ℕ) → IsStart utf8 bytes n (length bytes) → n ≤ k → IsStart utf8 bytes k (length bytes)
IsStart-further utf8 bytes n k start le =
    let cols = columns utf8 bytes in
    let sum : k ≡ n + (k - n) = omega arith in
    let end : drop (length bytes) bytes ≡ [] = drop_all (length bytes) bytes (omega arith) in
    let none : drop n cols ≡ [] = sym start.back ∙ ap (columns utf8) end in
    let further : drop k cols ≡ [] = ap (λ i. drop i cols) sum ∙ sym (drop-drop (k - n) n cols) ∙ ap (λ (cs : List (List ℕ)). drop (k - n) cs) none ∙ drop_all (k - n) [] (omega arith) in
    let all : take k cols ≡ cols = sym (append-nil (take k cols)) ∙ ap (λ (cs : List (List ℕ)). take k cols ++ cs) (sym further) ∙ take-append-drop k cols in
    record {
      within = omega arith;
      front = take_all (length bytes) bytes (omega arith) ∙ sym (joined-columns utf8 bytes) ∙ ap joined (sym all);
      back = ap (columns utf8) end ∙ sym further;
    }

-- the three cases of a place: it is listed; it is a byte behind the one before it; or it is at the end of the line
place-below : (starts : List ℕ) (next end k : ℕ) → k < length starts → get_or starts k 0 ≡ place starts next end k
place-below starts next end k below = grind (arith, nat_tests)

place-within : (starts : List ℕ) (next end k : ℕ) → length starts ≤ k → next + (k - length starts) ≤ end → next + (k - length starts) ≡ place starts next end k
place-within starts next end k above within = grind (arith, nat_tests)

place-past : (starts : List ℕ) (next end k : ℕ) → length starts ≤ k → end ≤ next + (k - length starts) → end ≡ place starts next end k
place-past starts next end k above past = grind (arith, nat_tests)

-- a column whose place is listed
IsStart-listed : (utf8 : Bool) (bytes starts : List ℕ) (next k : ℕ) → AreStarts utf8 bytes starts → k < length starts
    → IsStart utf8 bytes k (place starts next (length bytes) k)
IsStart-listed utf8 bytes starts next k listed below = subst (IsStart utf8 bytes k) (place-below starts next (length bytes) k below) (listed k below)

-- a column behind these, where each byte behind them is a column
IsStart-rest : (utf8 : Bool) (bytes starts : List ℕ) (next k : ℕ) → IsStart utf8 bytes (length starts) next → IsPlain utf8 (drop next bytes) → length starts ≤ k
    → IsStart utf8 bytes k (place starts next (length bytes) k)
IsStart-rest utf8 bytes starts next k here plain above =
    let n = length starts in
    let end = length bytes in
    let len : length (drop next bytes) ≡ end - next = length-drop next bytes in
    let within : next ≤ end = here.within in
    let at = λ (i : ℕ) (le : i ≤ end - next). IsStart-behind utf8 bytes n next i i here (IsStart-plain utf8 (drop next bytes) i plain (omega arith)) in
    elim (cases_lt (end - next) (k - n)) [
      | inl past ↦
          let whole : next + (end - next) ≡ end = omega arith in
          subst (IsStart utf8 bytes k) (place-past starts next end k above (omega arith))
          (IsStart-further utf8 bytes (n + (end - next)) k (subst (IsStart utf8 bytes (n + (end - next))) whole (at (end - next) (omega arith))) (omega arith))
      | inr inside ↦
          let sum : n + (k - n) ≡ k = omega arith in
          subst (IsStart utf8 bytes k) (place-within starts next end k above (omega arith))
          (subst (λ i. IsStart utf8 bytes i (next + (k - n))) sum (at (k - n) (omega arith)))
    ]

-- the places that are listed are enough, because there are so many, or because each byte behind them is a column
pub AllStart-listed : (utf8 : Bool) (bytes starts : List ℕ) (next count : ℕ) → AreStarts utf8 bytes starts → count ≤ length starts
    → AllStart utf8 bytes starts next count
AllStart-listed utf8 bytes starts next count listed le k lt = IsStart-listed utf8 bytes starts next k listed (omega arith)

pub AllStart-whole : (utf8 : Bool) (bytes starts : List ℕ) (next count : ℕ) → AreStarts utf8 bytes starts → IsStart utf8 bytes (length starts) next
    → IsPlain utf8 (drop next bytes) → AllStart utf8 bytes starts next count
AllStart-whole utf8 bytes starts next count listed here plain k lt =
    elim (cases_lt k (length starts)) [
      | inl below ↦ IsStart-listed utf8 bytes starts next k listed below
      | inr above ↦ IsStart-rest utf8 bytes starts next k here plain above
    ]

-- a column that would begin at the end of the line is missing
pub missing : (utf8 : Bool) (bytes : List ℕ) (before at : ℕ) → IsStart utf8 bytes before at → length bytes ≤ at → drop before (columns utf8 bytes) ≡ []
missing utf8 bytes before at start ended = sym start.back ∙ ap (columns utf8) (drop_all at bytes ended)

-- what stands behind a column
pub joined-behind : (utf8 : Bool) (bytes : List ℕ) (before at : ℕ) → IsStart utf8 bytes before at → drop at bytes ≡ joined (drop before (columns utf8 bytes))
joined-behind utf8 bytes before at start = sym (joined-columns utf8 (drop at bytes)) ∙ ap joined start.back

some_column : (b : ℕ) (cols : List (List ℕ)) (goes : Bool) → 0 < length (cond goes (onto_first b cols) ((b ∷ []) ∷ cols))
some_column b [] true = omega arith
some_column b (first ∷ others) true = omega arith
some_column b cols false = omega arith

few_columns : (b n : ℕ) (cols : List (List ℕ)) (goes : Bool) → length cols ≤ n → length (cond goes (onto_first b cols) ((b ∷ []) ∷ cols)) ≤ n + 1
few_columns b n [] true h = omega arith
few_columns b n (first ∷ others) true h = omega (arith, h)
few_columns b n cols false h = omega (arith, h)

-- there is a column where there is a byte, and there are no more columns than bytes
pub columns-some : (utf8 : Bool) (b : ℕ) (rest : List ℕ) → 0 < length (columns utf8 (b ∷ rest))
columns-some utf8 b [] = omega arith
columns-some utf8 b (c ∷ rest) = some_column b (columns utf8 (c ∷ rest)) (utf8 && goes_on c)

pub columns-few : (utf8 : Bool) (bytes : List ℕ) → length (columns utf8 bytes) ≤ length bytes
columns-few utf8 [] = omega arith
columns-few utf8 (b ∷ []) = omega arith
columns-few utf8 (b ∷ c ∷ rest) = let fewer : length (columns utf8 (c ∷ rest)) ≤ length (c ∷ rest) = columns-few utf8 (c ∷ rest) in
    omega (arith, few_columns b (length (c ∷ rest)) (columns utf8 (c ∷ rest)) (utf8 && goes_on c) fewer)

-- one column less
pub columns-less : (utf8 : Bool) (bytes after : List ℕ) → 0 < length bytes → columns utf8 after ≡ drop 1 (columns utf8 bytes)
    → length (columns utf8 bytes) ≡ length (columns utf8 after) + 1
columns-less utf8 [] after h e = absurd (omega arith)
columns-less utf8 (b ∷ rest) after h e = omega (arith, columns-some utf8 b rest, ap length e, length-drop 1 (columns utf8 (b ∷ rest)))
