-- The columns of a text that is put together from others.
use Rattle.std.proofs.Common.{◌≡◌, ℕ, zero, suc, ◌+◌, ◌-◌, ◌≤◌, Bool, true, false, not, ◌&&◌, nat_le, nat_lt, cond, List, [], ◌∷◌, ◌++◌, length, take, drop, map, refl, sym, ap, arith, subst}
use Rattle.std.specs.Prelude.{slice_range}
use Rattle.std.specs.List.{list_all}
use Rattle.std.specs.Char.{is_ascii}
use Rattle.std.proofs.lemmas.Bool.{and_parts, and_from, true≢false}
use Rattle.std.proofs.lemmas.Bool.Decides.{nat_tests}
use Rattle.std.proofs.lemmas.List.{take_at, drop_at}
use Rattle.trf16_report.specs.Prelude.{onto_first, goes_on, columns, joined}

-- a column begins in front of this text, or nothing stands there
abbrev pub starts : Bool → List ℕ → Bool
starts utf8 [] = true
starts utf8 (c ∷ rest) = not (utf8 && goes_on c)

-- this is one column, wherever it stands
pub record IsColumn (utf8 : Bool) (column : List ℕ) : Type 0 where
  pub one : columns utf8 column ≡ column ∷ []
  pub front : starts utf8 column ≡ true

abbrev pub AreColumns : Bool → List (List ℕ) → Type 0
AreColumns utf8 [] = Unit {0}
AreColumns utf8 (column ∷ others) = IsColumn utf8 column × AreColumns utf8 others

-- the columns of a text that is not empty
pub record Falls (utf8 : Bool) (b : ℕ) (cols : List (List ℕ)) : Type 0 where
  pub tail : List ℕ
  pub others : List (List ℕ)
  pub shape : cols ≡ (b ∷ tail) ∷ others
  pub one : columns utf8 (b ∷ tail) ≡ (b ∷ tail) ∷ []
  pub are : AreColumns utf8 others

falls_step : (utf8 : Bool) (b c : ℕ) (cols : List (List ℕ)) (test : Bool) → (utf8 && goes_on c) ≡ test → Falls utf8 c cols
    → Falls utf8 b (cond test (onto_first b cols) ((b ∷ []) ∷ cols))
falls_step utf8 b c cols true e f = record {
  tail = c ∷ f.tail;
  others = f.others;
  shape = ap (onto_first b) f.shape;
  one = rw (e, f.one) refl;
  are = f.are;
}
falls_step utf8 b c cols false e f = record {
  tail = [];
  others = (c ∷ f.tail) ∷ f.others;
  shape = ap (λ (cs : List (List ℕ)). (b ∷ []) ∷ cs) f.shape;
  one = refl;
  are = (record { one = f.one; front = rw e refl }, f.are);
}

pub falls : (utf8 : Bool) (b : ℕ) (rest : List ℕ) → Falls utf8 b (columns utf8 (b ∷ rest))
falls utf8 b [] = record { tail = []; others = []; shape = refl; one = refl; are = tt }
falls utf8 b (c ∷ rest) = falls_step utf8 b c (columns utf8 (c ∷ rest)) (utf8 && goes_on c) refl (falls utf8 c rest)

onto_first-append : (b : ℕ) (cols ys : List (List ℕ)) (first : List ℕ) (others : List (List ℕ)) → cols ≡ first ∷ others → onto_first b (cols ++ ys) ≡ onto_first b cols ++ ys
onto_first-append b cols ys first others e = rw e refl

append_step : (b : ℕ) (test : Bool) (whole cols ys : List (List ℕ)) (first : List ℕ) (others : List (List ℕ)) → whole ≡ cols ++ ys → cols ≡ first ∷ others
    → cond test (onto_first b whole) ((b ∷ []) ∷ whole) ≡ cond test (onto_first b cols) ((b ∷ []) ∷ cols) ++ ys
append_step b true whole cols ys first others e shape = rw e (onto_first-append b cols ys first others shape)
append_step b false whole cols ys first others e shape = rw e refl

not_there : (test : Bool) → not test ≡ true → test ≡ false
not_there true h = absurd (true≢false (sym h))
not_there false h = refl

pub columns-append : (utf8 : Bool) (xs ys : List ℕ) → starts utf8 ys ≡ true → columns utf8 (xs ++ ys) ≡ columns utf8 xs ++ columns utf8 ys
columns-append utf8 [] ys h = refl
columns-append utf8 (b ∷ []) [] h = refl
columns-append utf8 (b ∷ []) (c ∷ ys) h = rw (not_there (utf8 && goes_on c) h) refl
columns-append utf8 (b ∷ c ∷ xs) ys h =
    let f = falls utf8 c xs in
    append_step b (utf8 && goes_on c) (columns utf8 (c ∷ (xs ++ ys))) (columns utf8 (c ∷ xs)) (columns utf8 ys) (c ∷ f.tail) f.others (columns-append utf8 (c ∷ xs) ys h) f.shape

pub starts-append : (utf8 : Bool) (xs ys : List ℕ) → starts utf8 xs ≡ true → starts utf8 ys ≡ true → starts utf8 (xs ++ ys) ≡ true
starts-append utf8 [] ys h h' = h'
starts-append utf8 (x ∷ xs) ys h h' = h

-- behind the first column, all are columns wherever they stand
pub columns-are : (utf8 : Bool) (bytes : List ℕ) → AreColumns utf8 (drop 1 (columns utf8 bytes))
columns-are utf8 [] = tt
columns-are utf8 (b ∷ rest) =
    let f = falls utf8 b rest in
    subst (λ (cols : List (List ℕ)). AreColumns utf8 (drop 1 cols)) (sym f.shape) f.are

pub AreColumns-drop : (utf8 : Bool) (n : ℕ) (cols : List (List ℕ)) → AreColumns utf8 cols → AreColumns utf8 (drop n cols)
AreColumns-drop utf8 zero cols h = h
AreColumns-drop utf8 (suc n) [] h = tt
AreColumns-drop utf8 (suc n) (col ∷ cols) h = AreColumns-drop utf8 n cols h.1

pub AreColumns-take : (utf8 : Bool) (n : ℕ) (cols : List (List ℕ)) → AreColumns utf8 cols → AreColumns utf8 (take n cols)
AreColumns-take utf8 zero cols h = tt
AreColumns-take utf8 (suc n) [] h = tt
AreColumns-take utf8 (suc n) (col ∷ cols) h = (h.0, AreColumns-take utf8 n cols h.1)

pub starts-joined : (utf8 : Bool) (cols : List (List ℕ)) → AreColumns utf8 cols → starts utf8 (joined cols) ≡ true
starts-joined utf8 [] h = refl
starts-joined utf8 (col ∷ cols) h = starts-append utf8 col (joined cols) h.0.front (starts-joined utf8 cols h.1)

pub columns-joined : (utf8 : Bool) (cols : List (List ℕ)) → AreColumns utf8 cols → columns utf8 (joined cols) ≡ cols
columns-joined utf8 [] h = refl
columns-joined utf8 (col ∷ cols) h =
    rw (columns-append utf8 col (joined cols) (starts-joined utf8 cols h.1), h.0.one, columns-joined utf8 cols h.1) refl

-- what stands in the columns that are written: ASCII, and no control character
abbrev pub is_plain : ℕ → Bool
is_plain b = nat_le 32 b && nat_lt b 128

plain_ascii : (b : ℕ) → is_plain b ≡ true → is_ascii b ≡ true
plain_ascii b h = (and_parts (nat_le 32 b) (nat_lt b 128) h).1

pub ascii-plain : (bytes : List ℕ) → list_all is_plain bytes ≡ true → list_all is_ascii bytes ≡ true
ascii-plain [] h = refl
ascii-plain (b ∷ rest) h =
    let both = and_parts (is_plain b) (list_all is_plain rest) h in
    and_from (is_ascii b) (list_all is_ascii rest) (plain_ascii b both.0) (ascii-plain rest both.1)

-- bytes that are ASCII are a column each
unfoldable pub each : List ℕ → List (List ℕ)
each bytes = map (λ b. b ∷ []) bytes

ascii_starts : (c : ℕ) → is_ascii c ≡ true → goes_on c ≡ false
ascii_starts c h = grind (arith, nat_tests)

nothing : (utf8 : Bool) → (utf8 && false) ≡ false
nothing true = refl
nothing false = refl

pub starts-ascii : (utf8 : Bool) (bytes : List ℕ) → list_all is_ascii bytes ≡ true → starts utf8 bytes ≡ true
starts-ascii utf8 [] h = refl
starts-ascii utf8 (c ∷ rest) h = rw (ascii_starts c (and_parts (is_ascii c) (list_all is_ascii rest) h).0, nothing utf8) refl

pub columns-ascii : (utf8 : Bool) (bytes : List ℕ) → list_all is_ascii bytes ≡ true → columns utf8 bytes ≡ each bytes
unfolding each
columns-ascii utf8 [] h = refl
columns-ascii utf8 (b ∷ []) h = refl
columns-ascii utf8 (b ∷ c ∷ rest) h =
    let both = and_parts (is_ascii b) (list_all is_ascii (c ∷ rest)) h in
    rw (ascii_starts c (and_parts (is_ascii c) (list_all is_ascii rest) both.1).0, nothing utf8, columns-ascii utf8 (c ∷ rest) both.1) refl

pub joined-each : (bytes : List ℕ) → joined (each bytes) ≡ bytes
unfolding each
joined-each [] = refl
joined-each (b ∷ rest) = ap (λ (bs : List ℕ). b ∷ bs) (joined-each rest)

pub length-each : (bytes : List ℕ) → length (each bytes) ≡ length bytes
unfolding each
length-each [] = refl
length-each (b ∷ rest) = ap suc (length-each rest)

-- the columns between two places
pub slice_part : (front middle back : List (List ℕ)) (i j : ℕ) → length front ≡ i → i + length middle ≡ j → slice_range (front ++ (middle ++ back)) i j ≡ middle
slice_part front middle back i j a b =
    let size : length middle ≡ j - i = omega arith in
    rw (drop_at front (middle ++ back) i a) (take_at middle back (j - i) size)

-- a beginning of a text has no more columns
pub columns-fewer : (utf8 : Bool) (xs ys : List ℕ) → length (columns utf8 xs) ≤ length (columns utf8 (xs ++ ys))
columns-fewer utf8 [] ys = omega arith
columns-fewer utf8 (b ∷ []) ys =
    let f = falls utf8 b ys in rw f.shape (omega arith)
columns-fewer utf8 (b ∷ c ∷ xs) ys =
    let f = falls utf8 c xs in
    let g = falls utf8 c (xs ++ ys) in
    let others : length (columns utf8 (c ∷ xs)) ≤ length (columns utf8 (c ∷ (xs ++ ys))) = columns-fewer utf8 (c ∷ xs) ys in
    by (utf8 && goes_on c) f.shape g.shape others
  where
    by : (test : Bool) {first' second' : List ℕ} {more more' : List (List ℕ)} → columns utf8 (c ∷ xs) ≡ first' ∷ more → columns utf8 (c ∷ (xs ++ ys)) ≡ second' ∷ more'
        → length (columns utf8 (c ∷ xs)) ≤ length (columns utf8 (c ∷ (xs ++ ys)))
        → length (cond test (onto_first b (columns utf8 (c ∷ xs))) ((b ∷ []) ∷ columns utf8 (c ∷ xs)))
        ≤ length (cond test (onto_first b (columns utf8 (c ∷ (xs ++ ys)))) ((b ∷ []) ∷ columns utf8 (c ∷ (xs ++ ys))))
    by true e e' le = rw (e, e') (rw (e, e') at le)
    by false e e' le = omega arith
