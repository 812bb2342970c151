-- A cursor's text is read as the arrangement that it was printed of, and no other text is.
use Rattle.std.proofs.Common.{◌≡◌, ◌≢◌, ℕ, ◌<◌, Bool, true, false, not, ◌&&◌, ◌==◌, cond, get_or, List, [], ◌∷◌, ◌++◌, map, length, refl, sym, ap, ◌∙◌, arith, inl, inr, subst, Option, Some, None}
use Rattle.std.specs.Prelude.{codes, nat_le}
use Rattle.std.specs.Fmt.{decimal}
use Rattle.std.specs.List.{list_all, flat_map, AllByRecursion}
use Rattle.std.specs.Char.{is_ascii_digit}
use Rattle.std.specs.Str.{bytes_eq}
use Rattle.std.proofs.lemmas.List.{append-nil}
use Rattle.std.proofs.lemmas.Bool.{and_parts, true≢false, cases_Bool, eq-eqb, not-true}
use Rattle.std.proofs.lemmas.Bool.Decides.{nat_tests}
use Rattle.std.proofs.lemmas.Slice.Eq.{bytes_eq-Decides}
use Rattle.dutch_arrangements.specs.Prelude.{Arrangement, list_text, cursor_text, parts, is_numeral, list_of, arrangement_of, parsed}
use Rattle.dutch_arrangements.specs.Cursors.{numbers_of, ◌>>=◌}
use Rattle.dutch_arrangements.proofs.Parts.{IsFree, free-append, parts-free, parts-join, glue, parts-behind, glue-parts}
use Rattle.dutch_listing.proofs.CursorNumbers.{IsNumber, number_of-decimal, numbers_of-decimals, is_read, words_of}

-- digits
digits_free : (separator : ℕ) (bytes : List ℕ) → separator < 48 → list_all is_ascii_digit bytes ≡ true → IsFree separator bytes
digits_free separator [] low h = tt
digits_free separator (b ∷ bytes) low h =
    let both = and_parts (is_ascii_digit b) (list_all is_ascii_digit bytes) h in
    (not_separator b separator low both.0, digits_free separator bytes low both.1)
  where
    not_separator : (b separator : ℕ) → separator < 48 → is_ascii_digit b ≡ true → b ≢ separator
    not_separator b separator low digit same = grind (arith, nat_tests)

-- a printed number: a first byte that is not 0, and no separator
pub record IsPrinted (bytes : List ℕ) : Type 0 where
  pub first : ℕ
  pub rest : List ℕ
  pub whole : bytes ≡ first ∷ rest
  pub leads : first ≢ 48
  pub commas : IsFree 44 bytes
  pub slashes : IsFree 47 bytes

printed-numeral : (bytes : List ℕ) → is_numeral bytes ≡ true → IsPrinted bytes
printed-numeral [] h = absurd (true≢false (sym h))
printed-numeral (b ∷ bytes) h =
    let one = and_parts (not (b == 48)) (nat_le (length bytes) 3 && list_all is_ascii_digit (b ∷ bytes)) h in
    let two = and_parts (nat_le (length bytes) 3) (list_all is_ascii_digit (b ∷ bytes)) one.1 in
    record {
      first = b;
      rest = bytes;
      whole = refl;
      leads = λ same. true≢false (sym (eq-eqb b 48 same) ∙ not-true (b == 48) one.0);
      commas = digits_free 44 (b ∷ bytes) (omega arith) two.1;
      slashes = digits_free 47 (b ∷ bytes) (omega arith) two.1;
    }

printed : (n : ℕ) → IsNumber n → IsPrinted (decimal n)
printed n is = printed-numeral (decimal n) (is_read (decimal n) n (number_of-decimal n is)).numeral

-- the numbers of a list that is not empty
numbers_text : ℕ → List ℕ → List ℕ
numbers_text x xs = decimal x ++ flat_map (λ y. codes "," ++ decimal y) xs

numbers-parts : (x : ℕ) (xs : List ℕ) → IsNumber x → AllByRecursion IsNumber xs → parts 44 (numbers_text x xs) ≡ map decimal (x ∷ xs)
unfolding numbers_text
numbers-parts x [] is all =
    ap (parts 44) (append-nil (decimal x)) ∙ parts-free 44 (decimal x) (printed x is).commas
numbers-parts x (y ∷ ys) is all =
    parts-join 44 (decimal x) (numbers_text y ys) (printed x is).commas ∙ ap (λ rest. decimal x ∷ rest) (numbers-parts y ys all.0 all.1)

numbers-free : (xs : List ℕ) → AllByRecursion IsNumber xs → IsFree 47 (flat_map (λ y. codes "," ++ decimal y) xs)
numbers-free [] all = tt
numbers-free (x ∷ xs) all =
    free-append 47 (codes "," ++ decimal x) (flat_map (λ y. codes "," ++ decimal y) xs) ((λ same. omega (arith, same)), (printed x all.0).slashes) (numbers-free xs all.1)

-- a printed list has no slash
list-free : (xs : List ℕ) → AllByRecursion IsNumber xs → IsFree 47 (list_text xs)
list-free [] all = ((λ same. omega (arith, same)), tt)
list-free (x ∷ xs) all = free-append 47 (decimal x) (flat_map (λ y. codes "," ++ decimal y) xs) (printed x all.0).slashes (numbers-free xs all.1)

first_other : (a : ℕ) (rest : List ℕ) → a ≢ 48 → bytes_eq (a ∷ rest) (codes "0") ≡ false
first_other a rest apart =
    elim (cases_Bool (bytes_eq (a ∷ rest) (codes "0"))) [
      | inl same ↦ absurd (apart (ap (λ bytes. get_or bytes 0 0) ((bytes_eq-Decides (a ∷ rest) (codes "0")).0 same)))
      | inr other ↦ other
    ]

not_nothing : (x : ℕ) (xs : List ℕ) → IsNumber x → bytes_eq (list_text (x ∷ xs)) (codes "0") ≡ false
not_nothing x xs is =
    let p = printed x is in
    ap (λ front. bytes_eq (front ++ flat_map (λ y. codes "," ++ decimal y) xs) (codes "0")) p.whole
    ∙ first_other p.first (p.rest ++ flat_map (λ y. codes "," ++ decimal y) xs) p.leads

-- a printed list is read back
pub list_of-text : (xs : List ℕ) → AllByRecursion IsNumber xs → list_of (list_text xs) ≡ Some xs
unfolding numbers_text
list_of-text [] all = refl
list_of-text (x ∷ xs) all =
    ap (λ b. cond b (Some []) (numbers_of (parts 44 (list_text (x ∷ xs))))) (not_nothing x xs all.0)
    ∙ ap numbers_of (numbers-parts x xs all.0 all.1) ∙ numbers_of-decimals (x ∷ xs) all

-- each list of an arrangement has numbers of a cursor
pub record HasNumbers (a : Arrangement) : Type 0 where
  pub s1 : AllByRecursion IsNumber a.s1
  pub s2 : AllByRecursion IsNumber a.s2
  pub s1r : AllByRecursion IsNumber a.s1r
  pub s2r : AllByRecursion IsNumber a.s2r

cursor-parts : (a : Arrangement) → HasNumbers a → parts 47 (cursor_text a) ≡ list_text a.s1 ∷ list_text a.s2 ∷ list_text a.s1r ∷ list_text a.s2r ∷ []
cursor-parts a all =
    parts-join 47 (list_text a.s1) (list_text a.s2 ++ (codes "/" ++ (list_text a.s1r ++ (codes "/" ++ list_text a.s2r)))) (list-free a.s1 all.s1)
    ∙ ap (λ rest. list_text a.s1 ∷ rest)
    (parts-join 47 (list_text a.s2) (list_text a.s1r ++ (codes "/" ++ list_text a.s2r)) (list-free a.s2 all.s2)
    ∙ ap (λ rest. list_text a.s2 ∷ rest)
    (parts-join 47 (list_text a.s1r) (list_text a.s2r) (list-free a.s1r all.s1r)
    ∙ ap (λ rest. list_text a.s1r ∷ rest) (parts-free 47 (list_text a.s2r) (list-free a.s2r all.s2r))))

-- a printed arrangement is read back
pub parsed-text : (a : Arrangement) → HasNumbers a → parsed (cursor_text a) ≡ Some a
parsed-text a all =
    ap arrangement_of (cursor-parts a all)
    ∙ rw (list_of-text a.s1 all.s1, list_of-text a.s2 all.s2, list_of-text a.s1r all.s1r, list_of-text a.s2r all.s2r) refl

glue-commas : (xs : List ℕ) → flat_map (λ other. 44 ∷ other) (map decimal xs) ≡ flat_map (λ y. codes "," ++ decimal y) xs
glue-commas [] = refl
glue-commas (x ∷ xs) = ap (λ rest. 44 ∷ (decimal x ++ rest)) (glue-commas xs)

-- what is read as a list is what is printed of it
text-is : (xs : List ℕ) → (xs ≡ [] → ⊥) → glue 44 (map decimal xs) ≡ list_text xs
text-is [] some = absurd (some refl)
text-is (x ∷ xs) some = ap (λ rest. decimal x ++ rest) (glue-commas xs)

parts-some : (separator : ℕ) (text : List ℕ) → parts separator text ≡ [] → ⊥
parts-some separator text none =
    let same : [] ≡ separator ∷ glue separator (parts separator text) = ap (flat_map (λ other. separator ∷ other)) (sym none) ∙ parts-behind separator text in cc

list-read : (text xs : List ℕ) (b : Bool) → bytes_eq text (codes "0") ≡ b → cond b (Some []) (numbers_of (parts 44 text)) ≡ Some xs → (text ≡ list_text xs) × AllByRecursion IsNumber xs
list-read text xs true same h =
    let nothing : [] ≡ xs = (let e : Some [] ≡ Some xs = h in cc) in
    subst (λ ys. (text ≡ list_text ys) × AllByRecursion IsNumber ys) nothing ((bytes_eq-Decides text (codes "0")).0 same, tt)
list-read text xs false other h =
    let words = words_of (parts 44 text) xs h in
    (sym (glue-parts 44 text) ∙ ap (glue 44) words.0 ∙ text-is xs (λ nothing. parts-some 44 text (words.0 ∙ ap (map decimal) nothing)), words.1)

pub text-read : (text xs : List ℕ) → list_of text ≡ Some xs → (text ≡ list_text xs) × AllByRecursion IsNumber xs
text-read text xs h = list-read text xs (bytes_eq text (codes "0")) refl h

none_some : {X : Type 0} (x : X) → None ≡ Some x → ⊥
none_some x h = cc

-- four texts that are read are what is printed
four_read : (first second third fourth : List ℕ) (a : Arrangement) (l1 l2 l3 l4 : Option (List ℕ))
    → list_of first ≡ l1 → list_of second ≡ l2 → list_of third ≡ l3 → list_of fourth ≡ l4
    → (l1 >>= (λ s1. l2 >>= (λ s2. l3 >>= (λ s1r. l4 >>= (λ s2r. Some (record { s1 = s1; s2 = s2; s1r = s1r; s2r = s2r })))))) ≡ Some a
    → (glue 47 (first ∷ second ∷ third ∷ fourth ∷ []) ≡ cursor_text a) × HasNumbers a
four_read first second third fourth a None l2 l3 l4 p q r s same = absurd (none_some a same)
four_read first second third fourth a (Some s1) None l3 l4 p q r s same = absurd (none_some a same)
four_read first second third fourth a (Some s1) (Some s2) None l4 p q r s same = absurd (none_some a same)
four_read first second third fourth a (Some s1) (Some s2) (Some s1r) None p q r s same = absurd (none_some a same)
four_read first second third fourth a (Some s1) (Some s2) (Some s1r) (Some s2r) p q r s same =
    let one = text-read first s1 p in
    let two = text-read second s2 q in
    let three = text-read third s1r r in
    let four = text-read fourth s2r s in
    let equal : record { s1 = s1; s2 = s2; s1r = s1r; s2r = s2r } ≡ a = cc in
    subst (λ (b : Arrangement). (glue 47 (first ∷ second ∷ third ∷ fourth ∷ []) ≡ cursor_text b) × HasNumbers b) equal
    (rw (one.0, two.0, three.0, append-nil fourth, four.0) refl, record { s1 = one.1; s2 = two.1; s1r = three.1; s2r = four.1 })

-- a text that is read as an arrangement is what is printed of it
pub arrangement-read : (texts : List (List ℕ)) (a : Arrangement) → arrangement_of texts ≡ Some a → (glue 47 texts ≡ cursor_text a) × HasNumbers a
arrangement-read [] a h = absurd (none_some a h)
arrangement-read (first ∷ []) a h = absurd (none_some a h)
arrangement-read (first ∷ second ∷ []) a h = absurd (none_some a h)
arrangement-read (first ∷ second ∷ third ∷ []) a h = absurd (none_some a h)
arrangement-read (first ∷ second ∷ third ∷ fourth ∷ []) a h =
    four_read first second third fourth a (list_of first) (list_of second) (list_of third) (list_of fourth) refl refl refl refl h
arrangement-read (first ∷ second ∷ third ∷ fourth ∷ fifth ∷ others) a h = absurd (none_some a h)
