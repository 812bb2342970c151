-- The players below a bracket: seat by seat, and those that a round has not reached yet.
use Rattle.std.proofs.Common.{◌≡◌, ℕ, ◌+◌, ◌<◌, ◌≤◌, ◌⊎◌, Bool, true, false, ◌&&◌, nat_lt, cond, List, [], ◌∷◌, ◌++◌, filter, length, get_or, drop, inl, inr, refl, sym, ap, ◌∙◌, append_assoc, arith}
use Rattle.std.specs.List.{AllByRecursion}
use Rattle.std.proofs.lemmas.Bool.Decides.{nat_tests}
use Rattle.std.proofs.lemmas.List.{drop_more, drop_all, append-nil}
use Rattle.std.proofs.lemmas.List.Elements.{filter-append}
use Rattle.std.proofs.lemmas.Bool.{and_right}
use Rattle.dutch_arrangements.specs.Prelude.{IsIn}
use Rattle.dutch_player.specs.Prelude.{Facts}
use Rattle.dutch_bracket.specs.Prelude.{score_at, AreSeats, Reached}
use Rattle.dutch_rounds.specs.Prelude.{AreAbove, Goes, everybody, is_below, lower_of}
use Rattle.dutch_rounds.proofs.GroupWalk.{everybody_goes, rest_inside}
use Rattle.dutch_rounds.proofs.WalkLemmas.{Descends, above_back}
use Rattle.dutch_listing.proofs.TooManyLeft.{filter-none-in}
use Rattle.dutch_sequence.proofs.FromOn.{filter-each}
use Rattle.dutch_sequence.proofs.Orders.{IsIn-front, IsIn-back, IsIn-append, member_has}

module _ (facts : Facts) where
  -- ---- one seat more

  pub below_more : (seats : List ℕ) (seat i d : ℕ) → i < length seats → score_at facts seat < score_at facts (get_or seats i d)
      → is_below facts (drop i seats) seat ≡ is_below facts (drop (i + 1) seats) seat
  below_more seats seat i d lt low =
      let test : nat_lt (score_at facts seat) (score_at facts (get_or seats i d)) ≡ true = grind (arith, nat_tests) in
      ap (λ (xs : List ℕ). is_below facts xs seat) (drop_more seats i d lt) ∙ ap (λ (t : Bool). t && is_below facts (drop (i + 1) seats) seat) test

  pub below_not : (seats : List ℕ) (seat i d : ℕ) → i < length seats → score_at facts (get_or seats i d) ≤ score_at facts seat
      → is_below facts (drop i seats) seat ≡ false
  below_not seats seat i d lt high =
      let test : nat_lt (score_at facts seat) (score_at facts (get_or seats i d)) ≡ false = grind (arith, nat_tests) in
      ap (λ (xs : List ℕ). is_below facts xs seat) (drop_more seats i d lt) ∙ ap (λ (t : Bool). t && is_below facts (drop (i + 1) seats) seat) test

  pub below_end : (seats : List ℕ) (seat i : ℕ) → length seats ≤ i → is_below facts (drop i seats) seat ≡ true
  below_end seats seat i le = ap (λ (xs : List ℕ). is_below facts xs seat) (drop_all i seats le)

  -- those kept so far, and those to come that are below
  abbrev pub kept_along : List ℕ → List ℕ → List ℕ → List ℕ
  kept_along seats kept coming = kept ++ filter (is_below facts seats) coming

  pub kept_more : (seats all kept after : List ℕ) (i d : ℕ) → i < length all → is_below facts seats (get_or all i d) ≡ true → after ≡ kept ++ get_or all i d ∷ []
      → kept_along seats kept (drop i all) ≡ kept_along seats after (drop (i + 1) all)
  kept_more seats all kept after i d lt e made =
      let coming = filter (is_below facts seats) (drop (i + 1) all) in
      ap (kept_along seats kept) (drop_more all i d lt) ∙ ap (λ (t : Bool). kept ++ cond t (get_or all i d ∷ coming) coming) e
      ∙ sym (append_assoc kept (get_or all i d ∷ []) coming) ∙ ap (λ (xs : List ℕ). kept_along seats xs (drop (i + 1) all)) (sym made)

  pub passed_over : (seats all kept : List ℕ) (i d : ℕ) → i < length all → is_below facts seats (get_or all i d) ≡ false
      → kept_along seats kept (drop i all) ≡ kept_along seats kept (drop (i + 1) all)
  passed_over seats all kept i d lt e =
      let coming = filter (is_below facts seats) (drop (i + 1) all) in
      ap (kept_along seats kept) (drop_more all i d lt) ∙ ap (λ (t : Bool). kept ++ cond t (get_or all i d ∷ coming) coming) e

  pub kept_end : (seats all kept : List ℕ) (i : ℕ) → length all ≤ i → kept_along seats kept (drop i all) ≡ kept
  kept_end seats all kept i le = ap (kept_along seats kept) (drop_all i all le) ∙ append-nil kept

  pub everybody_inside : (all : List ℕ) → all ≡ everybody facts → AreSeats facts all
  everybody_inside all e = rest_inside facts [] all (everybody_goes facts [] all refl e)

  pub above_in : (tops lows : List ℕ) (a b : ℕ) → AreAbove facts tops lows → IsIn a tops → IsIn b lows → score_at facts b < score_at facts a
  above_in tops lows a b h m n =
      member_has (λ (b : ℕ). score_at facts b < score_at facts a) lows (member_has (λ (a : ℕ). AllByRecursion (λ b. score_at facts b < score_at facts a) lows) tops h a m) b n

  -- ---- a seat that is below all of some, or not

  below_all : (seats : List ℕ) (seat : ℕ) → ((a : ℕ) → IsIn a seats → score_at facts seat < score_at facts a) → is_below facts seats seat ≡ true
  below_all [] seat h = refl
  below_all (a ∷ seats) seat h =
      let low : score_at facts seat < score_at facts a = h a (inl refl) in
      let test : nat_lt (score_at facts seat) (score_at facts a) ≡ true = grind (arith, nat_tests) in
      ap (λ (t : Bool). t && is_below facts seats seat) test ∙ below_all seats seat (λ b m. h b (inr m))

  below_some_not : (seats : List ℕ) (seat a : ℕ) → IsIn a seats → score_at facts a ≤ score_at facts seat → is_below facts seats seat ≡ false
  below_some_not [] seat a m high = absurd m
  below_some_not (b ∷ seats) seat a (inl e) high =
      let same : score_at facts a ≡ score_at facts b = ap (score_at facts) e in
      let test : nat_lt (score_at facts seat) (score_at facts b) ≡ false = grind (arith, nat_tests) in
      ap (λ (t : Bool). t && is_below facts seats seat) test
  below_some_not (b ∷ seats) seat a (inr m) high =
      and_right (nat_lt (score_at facts seat) (score_at facts b)) (is_below facts seats seat) (below_some_not seats seat a m high)

  -- ---- where the lower players begin

  -- all players are some of which none is below a bracket, and behind them those who are
  pub record EndsAt (seats tops lower : List ℕ) : Type 0 where
    pub all : everybody facts ≡ tops ++ lower
    pub reached : (y : ℕ) → IsIn y tops → (a : ℕ) × IsIn a seats × (score_at facts a ≤ score_at facts y)
    pub below : (a b : ℕ) → IsIn a seats → IsIn b lower → score_at facts b < score_at facts a

  pub lower_is : (reached : Reached) (tops lower : List ℕ) → EndsAt reached.seats tops lower → lower_of facts reached ≡ lower
  lower_is reached tops lower h =
      let p : ℕ → Bool = is_below facts reached.seats in
      let none : filter p tops ≡ [] = filter-none-in p tops (λ y m. let a = h.reached y m in below_some_not reached.seats y a.0 a.1 a.2) in
      let all : filter p lower ≡ lower = filter-each p lower (λ y m. below_all reached.seats y (λ a n. h.below a y n m)) in
      ap (filter p) h.all ∙ filter-append p tops lower ∙ ap (λ (xs : List ℕ). xs ++ filter p lower) none ∙ all

  -- ---- a walk before a bracket

  pub some_in : (xs : List ℕ) → 0 < length xs → (x : ℕ) × IsIn x xs
  some_in [] h = absurd (omega (arith, h))
  some_in (x ∷ xs) h = (x, inl refl)

  module _ (descends : Descends facts) (md residents lower : List ℕ) (goes : Goes facts md (residents ++ lower)) (above : AreAbove facts residents lower) where
    -- each player in front is above a resident, and each resident reaches their own place
    front_reached : (y : ℕ) → 0 < length residents → IsIn y goes.front ⊎ IsIn y residents → (a : ℕ) × IsIn a (md ++ residents) × (score_at facts a ≤ score_at facts y)
    front_reached y some (inl m) =
        let one = some_in residents some in
        let lt : score_at facts one.0 < score_at facts y = above_in goes.front (residents ++ lower) y one.0 goes.high m (IsIn-front one.0 residents lower one.1) in
        (one.0, IsIn-back one.0 md residents one.1, omega (arith, lt))
    front_reached y some (inr m) = (y, IsIn-back y md residents m, omega arith)

    lower_below : (a b : ℕ) → IsIn a md ⊎ IsIn a residents → IsIn b lower → score_at facts b < score_at facts a
    lower_below a b (inl m) n = above_in md lower a b (above_back facts descends md residents lower goes.above) m n
    lower_below a b (inr m) n = above_in residents lower a b above m n

    -- below a bracket that comes next in a walk stand the seats that are not used yet, but for its residents
    pub goes_ends : 0 < length residents → EndsAt (md ++ residents) (goes.front ++ residents) lower
    goes_ends some = record {
      all = goes.all ∙ sym (append_assoc goes.front residents lower);
      reached = λ y m. front_reached y some (IsIn-append y goes.front residents m);
      below = λ a b m n. lower_below a b (IsIn-append a md residents m) n;
    }
