-- A beginning that rules a wish out has no arrangement that grants it (C.04.3 B.2, B.3).
use Rattle.std.proofs.Common.{◌≡◌, ℕ, ◌<◌, ◌≤◌, ◌⊎◌, Bool, true, false, not, ◌&&◌, ◌||◌, List, ◌++◌, length, inl, inr, refl, sym, ap, ◌∙◌, subst, arith}
use Rattle.std.specs.Prelude.{nat_le}
use Rattle.std.proofs.lemmas.Bool.{leb-true, not-true, false_from_ne_true, true≢false}
use Rattle.std.proofs.lemmas.Bool.Decides.{nat_tests}
use Rattle.dutch_arrangements.specs.declared.bracket.Shape.{Shape}
use Rattle.dutch_arrangements.specs.declared.prefix.Filling.{Filling}
use Rattle.dutch_arrangements.specs.declared.prefix.Filling.TheVariants.{ChoosingS1, S2, S2r}
use Rattle.dutch_arrangements.specs.Prelude.{Frame, Arrangement, arrangements, left_of, paired, residents_of, is_member, by_place, pairs_by_number, IsIn, Begins, BeginsAt, Beginning}
use Rattle.dutch_arrangements.proofs.CursorSets.{AreLists}
use Rattle.dutch_sequence.proofs.Orders.{member-in, in-member, IsIn-append, IsIn-front, IsIn-back}
use Rattle.dutch_listing.proofs.FormArrangements.{in-moved_down, in-residents, lists-in}
use Rattle.dutch_arrangements.proofs.NoneTwice.{in-left}
use Rattle.dutch_candidates.specs.declared.wish.Wish.{Wish}
use Rattle.dutch_candidates.specs.declared.wish.Wish.TheVariants.{Pair, LeftOver}
use Rattle.dutch_candidates.specs.Wishes.{are_these, grants}
use Rattle.dutch_choice.specs.Prelude.{half_pairs, has_one_of, s1_bars, s1r_bars, halves_bar, rules_out}
use Rattle.dutch_bracket.proofs.AnyLemmas.{found_in}
use Rattle.dutch_candidates.proofs.WishFits.{place_of}

-- a pair that is of two players, in one order or the other
abbrev pub Are : ℕ → ℕ → ℕ × ℕ → Type 0
Are p q pair = ((pair.0 ≡ p) × (pair.1 ≡ q)) ⊎ ((pair.0 ≡ q) × (pair.1 ≡ p))

pub are_so : (p q : ℕ) (pair : ℕ × ℕ) → are_these p q pair ≡ true → Are p q pair
are_so p q pair h = grind (arith, nat_tests)

-- ---- who is where in the pairs of an arrangement

-- of two players who are a pair one alone is in a list that has the first of the pair and not the second
one_in : (p q : ℕ) (pair : ℕ × ℕ) (in' : ℕ → Bool) → Are p q pair → in' pair.0 ≡ true → in' pair.1 ≡ false → ((in' p && not (in' q)) || (in' q && not (in' p))) ≡ true
one_in p q pair in' are first second = grind arith

module _ (frame : Frame) (shape : Shape) (a : Arrangement) (within : frame.mdps ≤ length frame.scores) (lists : AreLists frame shape a) where
  s1_low : (z : ℕ) → IsIn z a.s1 → z ≤ frame.mdps
  s1_low z m = (in-moved_down frame z (lists.s1.within z m)).1

  s2_high : (z : ℕ) → IsIn z a.s2 → frame.mdps < z
  s2_high z m = (in-residents frame z within (lists.s2.within z m)).0

  s1r_high : (z : ℕ) → IsIn z a.s1r → frame.mdps < z
  s1r_high z m = (in-residents frame z within (in-left z (residents_of frame) a.s2 (lists.s1r.within z m)).0).0

  s2r_off : (z : ℕ) → IsIn z a.s2r → IsIn z (left_of (residents_of frame) a.s2) × (IsIn z a.s1r → ⊥)
  s2r_off z m = in-left z (left_of (residents_of frame) a.s2) a.s1r (lists.s2r.within z m)

  s2r_high : (z : ℕ) → IsIn z a.s2r → frame.mdps < z
  s2r_high z m = (in-residents frame z within (in-left z (residents_of frame) a.s2 (s2r_off z m).0).0).0

  -- the second of a pair is a resident
  second_high : (pair : ℕ × ℕ) → IsIn pair (pairs_by_number a) → frame.mdps < pair.1
  second_high pair m =
      elim (IsIn-append pair (by_place a.s1 a.s2) (by_place a.s1r a.s2r) m) [
        | inl first ↦ s2_high pair.1 (place_of pair a.s1 a.s2 first).1
        | inr second ↦ s2r_high pair.1 (place_of pair a.s1r a.s2r second).1
      ]

  -- the first is in S1 if they were moved down
  first_low : (pair : ℕ × ℕ) → IsIn pair (pairs_by_number a) → pair.0 ≤ frame.mdps → IsIn pair.0 a.s1
  first_low pair m low =
      elim (IsIn-append pair (by_place a.s1 a.s2) (by_place a.s1r a.s2r) m) [
        | inl first ↦ (place_of pair a.s1 a.s2 first).0
        | inr second ↦
            let high : frame.mdps < pair.0 = s1r_high pair.0 (place_of pair a.s1r a.s2r second).0 in
            absurd (let bad : ⊥ = omega (arith, low, high) in bad)
      ]

  -- and else in S1R, where the second one is not
  first_high : (pair : ℕ × ℕ) → IsIn pair (pairs_by_number a) → frame.mdps < pair.0 → IsIn pair.0 a.s1r × (IsIn pair.1 a.s1r → ⊥)
  first_high pair m high =
      elim (IsIn-append pair (by_place a.s1 a.s2) (by_place a.s1r a.s2r) m) [
        | inl first ↦
            let low : pair.0 ≤ frame.mdps = s1_low pair.0 (place_of pair a.s1 a.s2 first).0 in
            absurd (let bad : ⊥ = omega (arith, low, high) in bad)
        | inr second ↦ let place = place_of pair a.s1r a.s2r second in (place.0, (s2r_off pair.1 place.1).1)
      ]

  one_of : (p q : ℕ) (pair : ℕ × ℕ) (numbers : List ℕ) → Are p q pair → IsIn pair.0 numbers → (IsIn pair.1 numbers → ⊥) → has_one_of p q numbers ≡ true
  one_of p q pair numbers are m none =
      one_in p q pair (λ z. is_member z numbers) are (in-member pair.0 numbers m) (false_from_ne_true (is_member pair.1 numbers) (λ t. none (member-in pair.1 numbers t)))

  module _ (p q : ℕ) (pair : ℕ × ℕ) (m : IsIn pair (pairs_by_number a)) (are : Are p q pair) where
    high : frame.mdps < pair.1
    high = second_high pair m

    parted : (numbers beginning : List ℕ) → beginning ≡ numbers → IsIn pair.0 numbers → (IsIn pair.1 numbers → ⊥) → not (has_one_of p q beginning) ≡ true → ⊥
    parted numbers beginning same n none bars =
        true≢false (sym (one_of p q pair numbers are n none) ∙ ap (has_one_of p q) (sym same) ∙ not-true (has_one_of p q beginning) bars)

    s1_parted : (beginning : List ℕ) → beginning ≡ a.s1 → pair.0 ≤ frame.mdps → not (has_one_of p q beginning) ≡ true → ⊥
    s1_parted beginning same low = parted a.s1 beginning same (first_low pair m low) (λ n. let also = s1_low pair.1 n in omega (arith, also, high))

    s1_apart : (filling : Filling) (beginning : Arrangement) → BeginsAt filling beginning a → pair.0 ≤ frame.mdps → s1_bars filling p q beginning ≡ true → ⊥
    s1_apart ChoosingS1 beginning h low bars = true≢false (sym bars)
    s1_apart S2 beginning h low bars = s1_parted beginning.s1 h.0 low bars
    s1_apart S2r beginning h low bars = s1_parted beginning.s1 h.0 low bars

    s1r_apart : (filling : Filling) (beginning : Arrangement) → BeginsAt filling beginning a → frame.mdps < pair.0 → s1r_bars filling p q beginning ≡ true → ⊥
    s1r_apart ChoosingS1 beginning h above bars = true≢false (sym bars)
    s1r_apart S2 beginning h above bars = true≢false (sym bars)
    s1r_apart S2r beginning h above bars =
        let first = first_high pair m above in parted a.s1r beginning.s1r h.2 first.0 first.1 bars

    low_first : (p ≤ frame.mdps) ⊎ (q ≤ frame.mdps) → pair.0 ≤ frame.mdps
    low_first low = let above : frame.mdps < pair.1 = high in grind arith

    high_first : frame.mdps < p → frame.mdps < q → frame.mdps < pair.0
    high_first one other = grind arith

    one_is_high : p ≤ frame.mdps → q ≤ frame.mdps → ⊥
    one_is_high one other = let above : frame.mdps < pair.1 = high in grind arith

    below : (z : ℕ) → nat_le z frame.mdps ≡ true → z ≤ frame.mdps
    below z h = leb-true z frame.mdps h

    beyond : (z : ℕ) → nat_le z frame.mdps ≡ false → frame.mdps < z
    beyond z h = grind (arith, nat_tests)

    -- they meet, so the first halves do not keep them apart
    halves_apart : (t u : Bool) → nat_le p frame.mdps ≡ t → nat_le q frame.mdps ≡ u → (filling : Filling) (beginning : Arrangement) → BeginsAt filling beginning a
        → halves_bar t u filling p q beginning ≡ true → ⊥
    halves_apart true true h g filling beginning begins bars = one_is_high (below p h) (below q g)
    halves_apart true false h g filling beginning begins bars = s1_apart filling beginning begins (low_first (inl (below p h))) bars
    halves_apart false true h g filling beginning begins bars = s1_apart filling beginning begins (low_first (inr (below q g))) bars
    halves_apart false false h g filling beginning begins bars = s1r_apart filling beginning begins (high_first (beyond p h) (beyond q g)) bars

-- where a beginning rules a wish out, no arrangement that begins so grants it
pair_out : (frame : Frame) (shape : Shape) (p q : ℕ) (b : Beginning) (a : Arrangement) → frame.mdps ≤ length frame.scores → IsIn a (arrangements frame shape) → Begins b a
    → rules_out frame.mdps (Pair p q) b ≡ true → grants (Pair p q) a ≡ true → ⊥
pair_out frame shape p q b a within m begins out granted =
    let found = found_in (are_these p q) (pairs_by_number a) granted in
    halves_apart frame shape a within (lists-in frame shape a within m) p q found.0 found.1 (are_so p q found.0 found.2) (nat_le p frame.mdps) (nat_le q frame.mdps) refl refl b.filling b.lists
    begins out

half_in : (filling : Filling) (lists a : Arrangement) (p : ℕ) → BeginsAt filling lists a → half_pairs filling p lists ≡ true → IsIn p (paired a)
half_in ChoosingS1 lists a p h out = absurd (true≢false (sym out))
half_in S2 lists a p h out = IsIn-front p a.s1 (a.s2 ++ (a.s1r ++ a.s2r)) (subst (IsIn p) h.0 (member-in p lists.s1 out))
half_in S2r lists a p h out =
    IsIn-back p a.s1 (a.s2 ++ (a.s1r ++ a.s2r))
    (IsIn-back p a.s2 (a.s1r ++ a.s2r) (IsIn-front p a.s1r a.s2r (subst (IsIn p) h.2 (member-in p lists.s1r out))))

pub ruled_out : (frame : Frame) (shape : Shape) (wish : Wish) (b : Beginning) (a : Arrangement) → frame.mdps ≤ length frame.scores
    → IsIn a (arrangements frame shape) → Begins b a → rules_out frame.mdps wish b ≡ true → grants wish a ≡ false
ruled_out frame shape (Pair p q) b a within m begins out =
    false_from_ne_true (grants (Pair p q) a) (pair_out frame shape p q b a within m begins out)
ruled_out frame shape (LeftOver p) b a within m begins out = ap not (in-member p (paired a) (half_in b.filling b.lists a p begins out))

-- two residents of whom S1R has both or neither do not meet
pub halves_out : (frame : Frame) (shape : Shape) (p q : ℕ) (a : Arrangement) → frame.mdps ≤ length frame.scores → IsIn a (arrangements frame shape) → frame.mdps < p → frame.mdps < q
    → has_one_of p q a.s1r ≡ false → grants (Pair p q) a ≡ false
halves_out frame shape p q a within m above above' together =
    let lists = lists-in frame shape a within m in
    false_from_ne_true (grants (Pair p q) a) (λ granted.
    let found = found_in (are_these p q) (pairs_by_number a) granted in
    let are = are_so p q found.0 found.2 in
    let high : frame.mdps < found.0.0 = high_first frame shape a within lists p q found.0 found.1 are above above' in
    let first = first_high frame shape a within lists found.0 found.1 high in
    parted frame shape a within lists p q found.0 found.1 are a.s1r a.s1r refl first.0 first.1 (ap not together))

pub both_in : (p q : ℕ) (s1r : List ℕ) → IsIn p s1r → IsIn q s1r → has_one_of p q s1r ≡ false
both_in p q s1r one other =
    let h = in-member p s1r one in let g = in-member q s1r other in grind arith

pub both_out : (p q : ℕ) (s1r : List ℕ) → (IsIn p s1r → ⊥) → (IsIn q s1r → ⊥) → has_one_of p q s1r ≡ false
both_out p q s1r one other =
    let h : is_member p s1r ≡ false = false_from_ne_true (is_member p s1r) (λ t. one (member-in p s1r t)) in
    let g : is_member q s1r ≡ false = false_from_ne_true (is_member q s1r) (λ t. other (member-in q s1r t)) in grind arith
