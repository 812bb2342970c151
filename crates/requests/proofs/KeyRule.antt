-- Keys that are taken one by one, each if it is none of those before and there is room, are those of the rule.
use Rattle.std.proofs.Common.{◌≡◌, ◌∙◌, ◌⊎◌, ℕ, ◌+◌, ◌<◌, ◌≤◌, Bool, true, false, not, ◌&&◌, ◌||◌, cond, nat_le, nat_lt, List, [], ◌∷◌, ◌++◌, length, Option, Some, None, refl, sym, ap, append-nil, append_assoc, length-append, inl, inr, arith}
use Rattle.std.specs.Prelude.{option_and_then, option_map}
use Rattle.std.specs.List.{list_any}
use Rattle.std.proofs.lemmas.Bool.{and_from, and_parts, and_right, not-false, not-true, or_cases, or_parts, or_right, ltb-true}
use Rattle.std.proofs.lemmas.Bool.Decides.{nat_tests}
use Rattle.std.proofs.lemmas.List.Folds.{list_any-append}
use Rattle.requests.specs.Prelude.{with_key, with_name, are_different, if_listed, is_same, key_named, keys_in, keys_named, names}
use Rattle.tables.specs.declared.key.Key.{Key}
use Rattle.tables.specs.declared.key.Key.TheVariants.{Direct, Buchholz, SonnebornBerger}

-- keys and those that names stand for behind them, one by one
unfoldable pub keys_onto : List Key → List (List ℕ) → Option (List Key)
keys_onto keys [] = Some keys
keys_onto keys (name ∷ rest) = option_and_then (λ more. keys_onto more rest) (with_name keys name)

-- tests

one_more : (n m : ℕ) → nat_lt n 3 ≡ true → m ≡ n + 1 → nat_le m 3 ≡ true
one_more n m h e = let lt : n < 3 = ltb-true n 3 h in grind (arith, nat_tests)

too_long : (n m : ℕ) → nat_lt n 3 ≡ false → n + 1 ≤ m → nat_le m 3 ≡ false
too_long n m h le = grind (arith, nat_tests)

same-sym : (a b : Key) → is_same a b ≡ is_same b a
same-sym Direct Direct = refl
same-sym Direct Buchholz = refl
same-sym Direct SonnebornBerger = refl
same-sym Buchholz Direct = refl
same-sym Buchholz Buchholz = refl
same-sym Buchholz SonnebornBerger = refl
same-sym SonnebornBerger Direct = refl
same-sym SonnebornBerger Buchholz = refl
same-sym SonnebornBerger SonnebornBerger = refl

-- a key that is among those in front comes twice
twice : (keys : List Key) (key : Key) (others : List Key) → list_any (is_same key) keys ≡ true → are_different (keys ++ key ∷ others) ≡ false
twice [] key others e = let bad : false ≡ true = e in cc
twice (k ∷ keys) key others e = by (is_same key k) refl e (twice keys key others)
  where
    by : (b : Bool) → is_same key k ≡ b → (b || list_any (is_same key) keys) ≡ true
        → (list_any (is_same key) keys ≡ true → are_different (keys ++ key ∷ others) ≡ false)
        → (not (list_any (is_same k) (keys ++ key ∷ others)) && are_different (keys ++ key ∷ others)) ≡ false
    by true same e' later =
        let here : list_any (is_same k) (keys ++ key ∷ others) ≡ true =
        list_any-append (is_same k) keys (key ∷ others)
        ∙ ap (λ b. list_any (is_same k) keys || (b || list_any (is_same k) others)) (same-sym k key ∙ same)
        ∙ or_right (list_any (is_same k) keys) true refl in
        ap (λ b. not b && are_different (keys ++ key ∷ others)) here
    by false same e' later =
        and_right (not (list_any (is_same k) (keys ++ key ∷ others))) (are_different (keys ++ key ∷ others)) (later e')

-- a key that is none of those in front leaves them different
once : (keys : List Key) (key : Key) → are_different keys ≡ true → list_any (is_same key) keys ≡ false → are_different (keys ++ key ∷ []) ≡ true
once [] key different new = refl
once (k ∷ keys) key different new =
    let both = and_parts (not (list_any (is_same k) keys)) (are_different keys) different in
    let apart = or_parts (is_same key k) (list_any (is_same key) keys) new in
    let here : list_any (is_same k) (keys ++ key ∷ []) ≡ false =
    list_any-append (is_same k) keys (key ∷ [])
    ∙ ap (λ b. b || (is_same k key || false)) (not-true (list_any (is_same k) keys) both.0)
    ∙ ap (λ b. b || false) (same-sym k key ∙ apart.0) in
    ap (λ b. not b && are_different (keys ++ key ∷ [])) here ∙ once keys key both.1 apart.1

-- the whole

abbrev are_listed : List Key → Bool
are_listed keys = nat_le (length keys) 3 && are_different keys

length-more : (keys : List Key) (key : Key) (others : List Key) → length keys + 1 ≤ length (keys ++ key ∷ others)
length-more keys key others = omega (arith, length-append keys (key ∷ others))

-- a key for which there is no place makes no list
no_place : (keys : List Key) (key : Key) (others : List Key) → (list_any (is_same key) keys || not (nat_lt (length keys) 3)) ≡ true → if_listed (keys ++ key ∷ others) ≡ None
no_place keys key others e = ap (λ b. cond b (Some (keys ++ key ∷ others)) None) (not_listed (or_cases (list_any (is_same key) keys) (not (nat_lt (length keys) 3)) e))
  where
    not_listed : (list_any (is_same key) keys ≡ true) ⊎ (not (nat_lt (length keys) 3) ≡ true) → are_listed (keys ++ key ∷ others) ≡ false
    not_listed (inl among) =
        and_right (nat_le (length (keys ++ key ∷ others)) 3) (are_different (keys ++ key ∷ others)) (twice keys key others among)
    not_listed (inr full) =
        ap (λ b. b && are_different (keys ++ key ∷ others))
        (too_long (length keys) (length (keys ++ key ∷ others)) (not-true (nat_lt (length keys) 3) full) (length-more keys key others))

still_listed : (keys : List Key) (key : Key) → are_listed keys ≡ true → (list_any (is_same key) keys || not (nat_lt (length keys) 3)) ≡ false → are_listed (keys ++ key ∷ []) ≡ true
still_listed keys key listed place =
    let both = and_parts (nat_le (length keys) 3) (are_different keys) listed in
    let room = or_parts (list_any (is_same key) keys) (not (nat_lt (length keys) 3)) place in
    and_from (nat_le (length (keys ++ key ∷ [])) 3) (are_different (keys ++ key ∷ []))
    (one_more (length keys) (length (keys ++ key ∷ [])) (not-false (nat_lt (length keys) 3) room.1) (length-append keys (key ∷ [])))
    (once keys key both.1 room.0)

pub onto_listed : (keys : List Key) (all : List (List ℕ)) → are_listed keys ≡ true → keys_onto keys all ≡ option_and_then (λ more. if_listed (keys ++ more)) (keys_named all)
unfolding keys_onto
onto_listed keys [] listed =
    sym (ap if_listed (append-nil keys) ∙ ap (λ b. cond b (Some keys) None) listed)
onto_listed keys (name ∷ rest) listed = by (key_named name) (λ key listed'. onto_listed (keys ++ key ∷ []) rest listed')
  where
    none : (key : Key) (o : Option (List Key)) → (list_any (is_same key) keys || not (nat_lt (length keys) 3)) ≡ true
        → None ≡ option_and_then (λ more. if_listed (keys ++ more)) (option_map (λ others. key ∷ others) o)
    none key None e = refl
    none key (Some others) e = sym (no_place keys key others e)

    regroup : (key : Key) (o : Option (List Key)) → option_and_then (λ more. if_listed ((keys ++ key ∷ []) ++ more)) o
        ≡ option_and_then (λ more. if_listed (keys ++ more)) (option_map (λ others. key ∷ others) o)
    regroup key None = refl
    regroup key (Some others) = ap if_listed (append_assoc keys (key ∷ []) others)

    with_it : (key : Key) (b : Bool) → (list_any (is_same key) keys || not (nat_lt (length keys) 3)) ≡ b
        → ((key : Key) → are_listed (keys ++ key ∷ []) ≡ true
        → keys_onto (keys ++ key ∷ []) rest ≡ option_and_then (λ more. if_listed ((keys ++ key ∷ []) ++ more)) (keys_named rest))
        → option_and_then (λ more. keys_onto more rest) (cond b None (Some (keys ++ key ∷ [])))
        ≡ option_and_then (λ more. if_listed (keys ++ more)) (option_map (λ others. key ∷ others) (keys_named rest))
    with_it key true e later = none key (keys_named rest) e
    with_it key false e later = later key (still_listed keys key listed e) ∙ regroup key (keys_named rest)

    by : (o : Option Key)
        → ((key : Key) → are_listed (keys ++ key ∷ []) ≡ true
        → keys_onto (keys ++ key ∷ []) rest ≡ option_and_then (λ more. if_listed ((keys ++ key ∷ []) ++ more)) (keys_named rest))
        → option_and_then (λ more. keys_onto more rest) (option_and_then (with_key keys) o)
        ≡ option_and_then (λ more. if_listed (keys ++ more)) (option_and_then (λ key. option_map (λ others. key ∷ others) (keys_named rest)) o)
    by None later = refl
    by (Some key) later = with_it key (list_any (is_same key) keys || not (nat_lt (length keys) 3)) refl later

pub onto_keys_in : (text : List ℕ) → keys_onto [] (names text) ≡ keys_in text
onto_keys_in text = onto_listed [] (names text) refl
