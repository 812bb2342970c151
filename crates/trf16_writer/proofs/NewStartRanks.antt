-- The new start ranks are one to one and onto 1 to the number of players.
--
-- Whoever goes before another has fewer who go before them (`count_lt`), so two players have different new start ranks. These, less one,
-- are below the number of players (`count_less`). If one number below it were none of them, it would be one number more among as many as
-- there are (`is_rank`).
use Rattle.std.proofs.Common.{◌≡◌, ◌⊎◌, inl, inr, ℕ, ◌+◌, ◌-◌, ◌<◌, ◌≤◌, Bool, true, false, ◌||◌, ◌==◌, nat_eq, cond, List, [], ◌∷◌, length, map, Option, Some, None, refl, sym, ap, ◌∙◌, arith}
use Rattle.std.specs.Prelude.{count_by}
use Rattle.std.specs.List.{AllByRecursion, IsDistinct, list_any}
use Rattle.std.specs.Option.{option_map_or}
use Rattle.std.proofs.lemmas.Bool.{eqb-true, eqb-false, ne_eqb, eq-eqb, or_parts, true≢false}
use Rattle.std.proofs.lemmas.List.{length-map}
use Rattle.std.proofs.lemmas.List.Sums.{sum_by-cons, count_by-le-length}
use Rattle.std.proofs.lemmas.Map.Steps.{length-le_from_distinct_below}
use Rattle.trf16_report.specs.Prelude.{Entry, Sheet, known, player_of, starts_of, goes_before, rank_among, new_start}
use Rattle.trf16_writer.proofs.StartOrder.{goes_further, goes_never, goes_either}

-- ---- counting

abbrev one_if : Bool → ℕ
one_if b = cond b 1 0

fewer_if : (a b : Bool) → (a ≡ true → b ≡ true) → one_if a ≤ one_if b
fewer_if true true more = omega arith
fewer_if true false more = absurd (true≢false (sym (more refl)))
fewer_if false b more = omega arith

count_le : {T : Type 0} (p q : T → Bool) (xs : List T) → ((x : T) → p x ≡ true → q x ≡ true) → count_by p xs ≤ count_by q xs
count_le p q [] more = omega arith
count_le p q (x ∷ xs) more =
    let later : count_by p xs ≤ count_by q xs = count_le p q xs more in
    let first : one_if (p x) ≤ one_if (q x) = fewer_if (p x) (q x) (more x) in
    omega (arith, sum_by-cons (λ y. one_if (p y)) x xs, sum_by-cons (λ y. one_if (q y)) x xs)

is_one : (x y : Entry) → ◌≡◌ {A = Option Entry} (Some x) (Some y) → x ≡ y
is_one x y e = cc

-- one of them passes the second test alone
count_lt : (p q : Entry → Bool) (xs : List Entry) (start : ℕ) (one : Entry) → ((x : Entry) → p x ≡ true → q x ≡ true) → player_of xs start ≡ Some one
    → p one ≡ false → q one ≡ true → count_by p xs < count_by q xs
count_lt p q [] start one more is fails passes = absurd (cc)
count_lt p q (x ∷ xs) start one more is fails passes = by (x.start == start) is (λ is'. count_lt p q xs start one more is' fails passes)
  where
    by : (here : Bool) → cond here (Some x) (player_of xs start) ≡ Some one → (player_of xs start ≡ Some one → count_by p xs < count_by q xs)
        → count_by p (x ∷ xs) < count_by q (x ∷ xs)
    by true e later =
        let others : count_by p xs ≤ count_by q xs = count_le p q xs more in
        let none : one_if (p x) ≡ 0 = ap (λ y. one_if (p y)) (is_one x one e) ∙ ap one_if fails in
        let some : one_if (q x) ≡ 1 = ap (λ y. one_if (q y)) (is_one x one e) ∙ ap one_if passes in
        omega (arith, sum_by-cons (λ y. one_if (p y)) x xs, sum_by-cons (λ y. one_if (q y)) x xs)
    by false e later =
        let others : count_by p xs < count_by q xs = later e in
        let first : one_if (p x) ≤ one_if (q x) = fewer_if (p x) (q x) (more x) in
        omega (arith, sum_by-cons (λ y. one_if (p y)) x xs, sum_by-cons (λ y. one_if (q y)) x xs)

one_at_most : (b : Bool) → one_if b ≤ 1
one_at_most true = omega arith
one_at_most false = omega arith

-- one of them does not pass
count_less : (p : Entry → Bool) (xs : List Entry) (start : ℕ) (one : Entry) → player_of xs start ≡ Some one → p one ≡ false → count_by p xs < length xs
count_less p [] start one is fails = absurd (cc)
count_less p (x ∷ xs) start one is fails = by (x.start == start) is (λ is'. count_less p xs start one is' fails)
  where
    by : (here : Bool) → cond here (Some x) (player_of xs start) ≡ Some one → (player_of xs start ≡ Some one → count_by p xs < length xs)
        → count_by p (x ∷ xs) < length (x ∷ xs)
    by true e later =
        let others : count_by p xs ≤ length xs = count_by-le-length p xs in
        let none : one_if (p x) ≡ 0 = ap (λ y. one_if (p y)) (is_one x one e) ∙ ap one_if fails in
        omega (arith, sum_by-cons (λ y. one_if (p y)) x xs)
    by false e later =
        let others : count_by p xs < length xs = later e in
        let first : one_if (p x) ≤ 1 = one_at_most (p x) in
        omega (arith, sum_by-cons (λ y. one_if (p y)) x xs)

-- ---- players by their start ranks

pub player_start : (xs : List Entry) (start : ℕ) (one : Entry) → player_of xs start ≡ Some one → one.start ≡ start
player_start [] start one is = absurd (cc)
player_start (x ∷ xs) start one is = by (x.start == start) refl is (player_start xs start one)
  where
    by : (here : Bool) → (x.start == start) ≡ here → cond here (Some x) (player_of xs start) ≡ Some one → (player_of xs start ≡ Some one → one.start ≡ start) → one.start ≡ start
    by true same e later = ap (λ (y : Entry). y.start) (sym (is_one x one e)) ∙ eqb-true x.start start same
    by false same e later = later e

abbrev pub has_player : List Entry → ℕ → Bool
has_player xs start = list_any (λ (entry : Entry). entry.start == start) xs

pub player_known : (xs : List Entry) (start : ℕ) → has_player xs start ≡ true → (one : Entry) × (player_of xs start ≡ Some one)
player_known [] start is = absurd (true≢false (sym is))
player_known (x ∷ xs) start is = by (x.start == start) is (player_known xs start)
  where
    by : (here : Bool) → (here || has_player xs start) ≡ true → (has_player xs start ≡ true → (one : Entry) × (player_of xs start ≡ Some one))
        → (one : Entry) × (cond here (Some x) (player_of xs start) ≡ Some one)
    by true e later = (x, refl)
    by false e later = later e

pub known_player : (xs : List Entry) (start : ℕ) (one : Entry) → player_of xs start ≡ Some one → has_player xs start ≡ true
known_player [] start one is = absurd (cc)
known_player (x ∷ xs) start one is = by (x.start == start) is (known_player xs start one)
  where
    by : (here : Bool) → cond here (Some x) (player_of xs start) ≡ Some one → (player_of xs start ≡ Some one → has_player xs start ≡ true) → (here || has_player xs start) ≡ true
    by true e later = refl
    by false e later = later e

-- ---- the new start ranks

-- how many go before a player
abbrev ahead_of : Bool → List Entry → Entry → ℕ
ahead_of utf8 all entry = count_by (λ other. goes_before utf8 other entry) all

pub rank_lt : (utf8 : Bool) (all : List Entry) (start : ℕ) (x y : Entry) → player_of all start ≡ Some x → goes_before utf8 x y ≡ true
    → ahead_of utf8 all x < ahead_of utf8 all y
rank_lt utf8 all start x y is e =
    count_lt (λ o. goes_before utf8 o x) (λ o. goes_before utf8 o y) all start x (λ o before. goes_further utf8 o x y before e) is (goes_never utf8 x) e

pub new_is : (sheet : Sheet) (start : ℕ) (x : Entry) → player_of sheet.players start ≡ Some x → new_start sheet start ≡ ahead_of sheet.utf8 sheet.players x + 1
new_is sheet start x is = rw is refl

-- whoever goes before another has the lower one
pub new_lt : (sheet : Sheet) (a b : ℕ) (x y : Entry) → player_of sheet.players a ≡ Some x → player_of sheet.players b ≡ Some y → goes_before sheet.utf8 x y ≡ true
    → new_start sheet a < new_start sheet b
new_lt sheet a b x y is is' e =
    let lt : ahead_of sheet.utf8 sheet.players x < ahead_of sheet.utf8 sheet.players y = rank_lt sheet.utf8 sheet.players a x y is e in
    omega (arith, new_is sheet a x is, new_is sheet b y is')

-- none is 0, and none above the number of players
pub new_within : (sheet : Sheet) (a : ℕ) → known sheet a ≡ true → (0 < new_start sheet a) × (new_start sheet a ≤ length sheet.players)
new_within sheet a is =
    let p = player_known sheet.players a is in
    let lt : ahead_of sheet.utf8 sheet.players p.0 < length sheet.players =
    count_less (λ o. goes_before sheet.utf8 o p.0) sheet.players a p.0 p.1 (goes_never sheet.utf8 p.0) in
    let is' = new_is sheet a p.0 p.1 in
    (omega arith, omega arith)

-- no two players have one
pub new_once : (sheet : Sheet) (a b : ℕ) → known sheet a ≡ true → known sheet b ≡ true → new_start sheet a ≡ new_start sheet b → a ≡ b
new_once sheet a b is is' e = by (nat_eq a b) refl
  where
    x : (one : Entry) × (player_of sheet.players a ≡ Some one)
    x = player_known sheet.players a is

    y : (one : Entry) × (player_of sheet.players b ≡ Some one)
    y = player_known sheet.players b is'

    both : (goes_before sheet.utf8 x.0 y.0 ≡ true) ⊎ (goes_before sheet.utf8 y.0 x.0 ≡ true) → ⊥
    both (inl lt) = let less = new_lt sheet a b x.0 y.0 x.1 y.1 lt in absurd (omega arith)
    both (inr lt) = let less = new_lt sheet b a y.0 x.0 y.1 x.1 lt in absurd (omega arith)

    by : (same : Bool) → nat_eq a b ≡ same → a ≡ b
    by true t = eqb-true a b t
    by false t =
        let other : x.0.start ≡ y.0.start → ⊥ = λ s.
        eqb-false a b t (sym (player_start sheet.players a x.0 x.1) ∙ s ∙ player_start sheet.players b y.0 y.1) in
        absurd (both (goes_either sheet.utf8 x.0 y.0 other))

-- ---- each number is one of them

abbrev pub AreOf : List Entry → List Entry → Type 0
AreOf all xs = AllByRecursion (λ (entry : Entry). player_of all entry.start ≡ Some entry) xs

wider : (x : Entry) (all xs : List Entry) → AllByRecursion (λ z. nat_eq x.start z ≡ false) (starts_of xs) → AreOf all xs → AreOf (x ∷ all) xs
wider x all [] other are = tt
wider x all (y ∷ xs) other are = (rw other.0 are.0, wider x all xs other.1 are.1)

pub all_of : (all : List Entry) → IsDistinct nat_eq (starts_of all) → AreOf all all
unfolding IsDistinct
all_of [] distinct = tt
all_of (x ∷ xs) distinct = (rw (eq-eqb x.start x.start refl) refl, wider x xs xs distinct.0 (all_of xs distinct.1))

abbrev ranks : Bool → List Entry → List Entry → List ℕ
ranks utf8 all xs = map (ahead_of utf8 all) xs

rank_differs : (utf8 : Bool) (all : List Entry) (x y : Entry) → player_of all x.start ≡ Some x → player_of all y.start ≡ Some y → nat_eq x.start y.start ≡ false
    → nat_eq (ahead_of utf8 all x) (ahead_of utf8 all y) ≡ false
rank_differs utf8 all x y is is' other = ne_eqb (ahead_of utf8 all x) (ahead_of utf8 all y) (λ e. by e (goes_either utf8 x y (eqb-false x.start y.start other)))
  where
    by : ahead_of utf8 all x ≡ ahead_of utf8 all y → (goes_before utf8 x y ≡ true) ⊎ (goes_before utf8 y x ≡ true) → ⊥
    by e (inl lt) = let less = rank_lt utf8 all x.start x y is lt in absurd (omega arith)
    by e (inr lt) = let less = rank_lt utf8 all y.start y x is' lt in absurd (omega arith)

fresh_rank : (utf8 : Bool) (all : List Entry) (x : Entry) (xs : List Entry) → player_of all x.start ≡ Some x → AreOf all xs
    → AllByRecursion (λ z. nat_eq x.start z ≡ false) (starts_of xs) → AllByRecursion (λ z. nat_eq (ahead_of utf8 all x) z ≡ false) (ranks utf8 all xs)
fresh_rank utf8 all x [] is are other = tt
fresh_rank utf8 all x (y ∷ xs) is are other = (rank_differs utf8 all x y is are.0 other.0, fresh_rank utf8 all x xs is are.1 other.1)

ranks_distinct : (utf8 : Bool) (all xs : List Entry) → AreOf all xs → IsDistinct nat_eq (starts_of xs) → IsDistinct nat_eq (ranks utf8 all xs)
unfolding IsDistinct
ranks_distinct utf8 all [] are distinct = tt
ranks_distinct utf8 all (x ∷ xs) are distinct = (fresh_rank utf8 all x xs are.0 are.1 distinct.0, ranks_distinct utf8 all xs are.1 distinct.1)

ranks_below : (utf8 : Bool) (all xs : List Entry) (k : ℕ) → AreOf all xs → list_any (nat_eq k) (ranks utf8 all xs) ≡ true → k < length all
ranks_below utf8 all [] k are is = absurd (true≢false (sym is))
ranks_below utf8 all (x ∷ xs) k are is = by (nat_eq k (ahead_of utf8 all x)) refl is (ranks_below utf8 all xs k are.1)
  where
    by : (here : Bool) → nat_eq k (ahead_of utf8 all x) ≡ here → (here || list_any (nat_eq k) (ranks utf8 all xs)) ≡ true → (list_any (nat_eq k) (ranks utf8 all xs) ≡ true → k < length all) → k < length all
    by true same e later =
        let less : ahead_of utf8 all x < length all = count_less (λ o. goes_before utf8 o x) all x.start x are.0 (goes_never utf8 x) in
        let is_k = eqb-true k (ahead_of utf8 all x) same in
        omega arith
    by false same e later = later e

none_is : (k : ℕ) (xs : List ℕ) → list_any (nat_eq k) xs ≡ false → AllByRecursion (λ z. nat_eq k z ≡ false) xs
none_is k [] none = tt
none_is k (x ∷ xs) none = let both = or_parts (nat_eq k x) (list_any (nat_eq k) xs) none in (both.0, none_is k xs both.1)

-- a number below the number of players is how many go before one of them
abbrev pub IsRank : Bool → List Entry → ℕ → Type 0
IsRank utf8 all k = (entry : Entry) × (player_of all entry.start ≡ Some entry) × (ahead_of utf8 all entry ≡ k)

found : (utf8 : Bool) (all xs : List Entry) (k : ℕ) → AreOf all xs → list_any (nat_eq k) (ranks utf8 all xs) ≡ true → IsRank utf8 all k
found utf8 all [] k are is = absurd (true≢false (sym is))
found utf8 all (x ∷ xs) k are is = by (nat_eq k (ahead_of utf8 all x)) refl is (found utf8 all xs k are.1)
  where
    by : (here : Bool) → nat_eq k (ahead_of utf8 all x) ≡ here → (here || list_any (nat_eq k) (ranks utf8 all xs)) ≡ true → (list_any (nat_eq k) (ranks utf8 all xs) ≡ true → IsRank utf8 all k)
        → IsRank utf8 all k
    by true same e later = (x, are.0, sym (eqb-true k (ahead_of utf8 all x) same))
    by false same e later = later e

is_rank : (utf8 : Bool) (all : List Entry) (k : ℕ) → IsDistinct nat_eq (starts_of all) → k < length all → IsRank utf8 all k
unfolding IsDistinct
is_rank utf8 all k distinct lt = by (list_any (nat_eq k) (ranks utf8 all all)) refl
  where
    are : AreOf all all
    are = all_of all distinct

    one_more : list_any (nat_eq k) (ranks utf8 all all) ≡ false → IsDistinct nat_eq (k ∷ ranks utf8 all all)
    one_more none = (none_is k (ranks utf8 all all) none, ranks_distinct utf8 all all are distinct)

    below : (q : ℕ) → list_any (nat_eq q) (k ∷ ranks utf8 all all) ≡ true → q < length all
    below q is = step (nat_eq q k) refl is
      where
        step : (here : Bool) → nat_eq q k ≡ here → (here || list_any (nat_eq q) (ranks utf8 all all)) ≡ true → q < length all
        step true same e = let is_k = eqb-true q k same in omega arith
        step false same e = ranks_below utf8 all all q are e

    by : (some : Bool) → list_any (nat_eq k) (ranks utf8 all all) ≡ some → IsRank utf8 all k
    by true e = found utf8 all all k are e
    by false e =
        let many : length (k ∷ ranks utf8 all all) ≤ length all = length-le_from_distinct_below (k ∷ ranks utf8 all all) (length all) (one_more e) below in
        let size : length (ranks utf8 all all) ≡ length all = length-map all (ahead_of utf8 all) in
        absurd (omega arith)

-- a player has each number from 1 to the number of players
pub new_onto : (sheet : Sheet) (n : ℕ) → IsDistinct nat_eq (starts_of sheet.players) → 0 < n → n ≤ length sheet.players
    → (a : ℕ) × (known sheet a ≡ true) × (new_start sheet a ≡ n)
new_onto sheet n distinct some within =
    let r = is_rank sheet.utf8 sheet.players (n - 1) distinct (omega arith) in
    let is = new_is sheet r.0.start r.0 r.1 in
    let ahead : ahead_of sheet.utf8 sheet.players r.0 ≡ n - 1 = r.2 in
    (r.0.start, known_player sheet.players r.0.start r.0 r.1, omega arith)

-- nobody else has one
pub new_none : (sheet : Sheet) (a : ℕ) → known sheet a ≡ false → new_start sheet a ≡ 0
new_none sheet a none = by (player_of sheet.players a) refl
  where
    by : (o : Option Entry) → player_of sheet.players a ≡ o → option_map_or (rank_among sheet.utf8 sheet.players) o 0 ≡ 0
    by None e = refl
    by (Some x) e = absurd (true≢false (sym (known_player sheet.players a x e) ∙ none))

-- each is at most the number of players
pub new_most : (sheet : Sheet) (a : ℕ) → new_start sheet a ≤ length sheet.players
new_most sheet a = by (known sheet a) refl
  where
    by : (player : Bool) → known sheet a ≡ player → new_start sheet a ≤ length sheet.players
    by true e = (new_within sheet a e).1
    by false e = let none = new_none sheet a e in omega arith
