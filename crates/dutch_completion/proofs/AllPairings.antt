-- All ways to pair a list of players, and the search that finds one of them: the search pairs the first player with a later one and goes
-- on with the others, while the list of all ways adds one player after the other to those behind. They agree since a player who is left
-- out by a way can as well be taken out of the list beforehand.
use Rattle.std.proofs.Common.{◌≡◌, ℕ, zero, suc, Bool, true, ◌&&◌, ◌↔◌, ◌⊎◌, inl, inr, List, [], ◌∷◌, ◌++◌, map, length, refl, sym, ◌∙◌, ap, subst, arith}
use Rattle.std.specs.List.{list_all}
use Rattle.std.proofs.lemmas.Bool.{or_cases, and_parts, and_from, or_left, or_right, true≢false}
use Rattle.dutch_arrangements.specs.Prelude.{leaves_one, IsIn}
use Rattle.dutch_sequence.proofs.Orders.{IsIn-map, map-IsIn, IsIn-flat_map, flat_map-IsIn}
use Rattle.dutch_bracket.specs.Prelude.{Way, all_pairings, can_complete, is_complete, paired, picks, with_first, with_member, can_cover, nobody, some_partner}
use Rattle.dutch_bracket.proofs.AnyLemmas.{any_in, found_in}
use Rattle.dutch_completion.proofs.Partners.{partner_of, partner_serves}

-- one member is taken out of a list
abbrev pub Picked : ℕ → List ℕ → List ℕ → Type 0
Picked b [] ys = ⊥
Picked b (x ∷ xs) ys = ((b ≡ x) × (ys ≡ xs)) ⊎ ((rest : List ℕ) × (ys ≡ x ∷ rest) × Picked b xs rest)

-- the pairs of a way to pair players, and those whom it leaves out
abbrev IsWay : List ℕ → List (ℕ × ℕ) → List ℕ → Type 0
IsWay [] pairs out = (pairs ≡ []) × (out ≡ [])
IsWay (a ∷ later) pairs out =
    ((rest : List ℕ) × (out ≡ a ∷ rest) × IsWay later pairs rest)
    ⊎ ((b : ℕ) × (others : List (ℕ × ℕ)) × (rest : List ℕ) × (pairs ≡ (a, b) ∷ others) × Picked b rest out × IsWay later others rest)

-- of two members either can be taken out first
pub other_first : (b c : ℕ) (xs ys zs : List ℕ) → Picked c xs ys → Picked b ys zs → (ws : List ℕ) × Picked b xs ws × Picked c ws zs
other_first b c [] ys zs p q = absurd p
other_first b c (x ∷ xs) ys zs (inl here) q = (x ∷ zs, inr (zs, refl, subst (λ l. Picked b l zs) here.1 q), inl (here.0, refl))
other_first b c (x ∷ xs) ys zs (inr later) q =
    elim (subst (λ l. Picked b l zs) later.1 q) [
      | inl here ↦ (xs, inl (here.0, refl), subst (Picked c xs) (sym here.1) later.2)
      | inr m ↦ (let both = other_first b c xs later.0 m.0 later.2 m.2 in (x ∷ both.0, inr (both.0, refl, both.1), inr (m.0, m.1, both.2)))
    ]

-- who is left out by a way can be taken out of the players
taken_out : (b : ℕ) (players : List ℕ) (pairs : List (ℕ × ℕ)) (out fewer : List ℕ) → IsWay players pairs out → Picked b out fewer
    → (others : List ℕ) × Picked b players others × IsWay others pairs fewer
taken_out b [] pairs out fewer w p = absurd (subst (λ l. Picked b l fewer) w.1 p)
taken_out b (a ∷ later) pairs out fewer (inl left) p =
    elim (subst (λ l. Picked b l fewer) left.1 p) [
      | inl here ↦ (later, inl (here.0, refl), subst (IsWay later pairs) (sym here.1) left.2)
      | inr m ↦ (let rest = taken_out b later pairs left.0 m.0 left.2 m.2 in (a ∷ rest.0, inr (rest.0, refl, rest.1), inl (m.0, m.1, rest.2)))
    ]
taken_out b (a ∷ later) pairs out fewer (inr met) p =
    let both = other_first b met.0 met.2 out fewer met.4 p in
    let rest = taken_out b later met.1 met.2 both.0 met.5 both.1 in
    (a ∷ rest.0, inr (rest.0, refl, rest.1), inr (met.0, met.1, both.0, met.3, both.2, rest.2))

-- and who is taken out can be put back, and is then left out
put_back : (b : ℕ) (players others : List ℕ) (pairs : List (ℕ × ℕ)) (out : List ℕ) → Picked b players others → IsWay others pairs out
    → (more : List ℕ) × IsWay players pairs more × Picked b more out
put_back b [] others pairs out p w = absurd p
put_back b (a ∷ later) others pairs out (inl here) w =
    (a ∷ out, inl (out, refl, subst (λ l. IsWay l pairs out) here.1 w), inl (here.0, refl))
put_back b (a ∷ later) others pairs out (inr m) w =
    elim (subst (λ l. IsWay l pairs out) m.1 w) [
      | inl left ↦ (let rest = put_back b later m.0 pairs left.0 m.2 left.2 in (a ∷ rest.0, inl (rest.0, refl, rest.1), inr (left.0, left.1, rest.2)))
      | inr met ↦
          (let rest = put_back b later m.0 met.1 met.2 m.2 met.5 in
          let both = other_first met.0 b rest.0 met.2 out rest.2 met.4 in
          (both.0, inr (met.0, met.1, rest.0, met.3, both.1, rest.1), both.2))
    ]

pub picked_length : (b : ℕ) (xs ys : List ℕ) → Picked b xs ys → length xs ≡ suc (length ys)
picked_length b [] ys p = absurd p
picked_length b (x ∷ xs) ys (inl here) = ap (λ l. suc (length l)) (sym here.1)
picked_length b (x ∷ xs) ys (inr m) = ap suc (picked_length b xs m.0 m.2) ∙ ap (λ l. suc (length l)) (sym m.1)

pub picked_between : (b : ℕ) (front behind : List ℕ) → Picked b (front ++ b ∷ behind) (front ++ behind)
picked_between b [] behind = inl (refl, refl)
picked_between b (x ∷ front) behind = inr (front ++ behind, refl, picked_between b front behind)

pub picked_parts : (b : ℕ) (xs ys : List ℕ) → Picked b xs ys → (front : List ℕ) × (behind : List ℕ) × (xs ≡ front ++ b ∷ behind) × (ys ≡ front ++ behind)
picked_parts b [] ys p = absurd p
picked_parts b (x ∷ xs) ys (inl here) = ([], xs, ap (λ y. y ∷ xs) (sym here.0), here.1)
picked_parts b (x ∷ xs) ys (inr m) =
    let parts = picked_parts b xs m.0 m.2 in
    (x ∷ parts.0, parts.1, ap (λ l. x ∷ l) parts.2, m.1 ∙ ap (λ l. x ∷ l) parts.3)

-- ---- the list of all ways has exactly the ways

picks_are : (xs : List ℕ) (pick : ℕ × List ℕ) → IsIn pick (picks xs) → Picked pick.0 xs pick.1
picks_are [] pick m = absurd m
picks_are (x ∷ xs) pick (inl same) = inl (ap (λ p. p.0) same, ap (λ p. p.1) same)
picks_are (x ∷ xs) pick (inr m) =
    let from = IsIn-map (with_member x) pick (picks xs) m in
    inr (from.0.1, ap (λ p. p.1) from.1, subst (λ b. Picked b xs from.0.1) (sym (ap (λ p. p.0) from.1)) (picks_are xs from.0 from.2))

are_picks : (b : ℕ) (xs ys : List ℕ) → Picked b xs ys → IsIn (b, ys) (picks xs)
are_picks b [] ys p = absurd p
are_picks b (x ∷ xs) ys (inl here) = inl (λ i. (here.0 i, here.1 i))
are_picks b (x ∷ xs) ys (inr m) =
    inr (subst (λ l. IsIn (b, l) (map (with_member x) (picks xs))) (sym m.1) (map-IsIn (with_member x) (b, m.0) (picks xs) (are_picks b xs m.0 m.2)))

ways_are : (players : List ℕ) (way : Way) → IsIn way (all_pairings players) → IsWay players way.pairs way.out
ways_are [] way (inl same) = (ap (λ w. w.pairs) same, ap (λ w. w.out) same)
ways_are [] way (inr m) = absurd m
ways_are (a ∷ later) way m =
    let from = IsIn-flat_map (with_first a) way (all_pairings later) m in
    let rest = ways_are later from.0 from.1 in
    elim from.2 [
      | inl same ↦ inl (from.0.out, ap (λ w. w.out) same, subst (λ p. IsWay later p from.0.out) (sym (ap (λ w. w.pairs) same)) rest)
      | inr n ↦
          (let pick = IsIn-map (paired a from.0) way (picks from.0.out) n in
          inr (
            pick.0.0,
            from.0.pairs,
            from.0.out,
            ap (λ w. w.pairs) pick.1,
            subst (Picked pick.0.0 from.0.out) (sym (ap (λ w. w.out) pick.1)) (picks_are from.0.out pick.0 pick.2),
            rest,
          ))
    ]

abbrev way_of : List (ℕ × ℕ) → List ℕ → Way
way_of pairs out = record { pairs = pairs; out = out }

are_ways : (players : List ℕ) (pairs : List (ℕ × ℕ)) (out : List ℕ) → IsWay players pairs out → IsIn (way_of pairs out) (all_pairings players)
are_ways [] pairs out w = inl (λ i. record { pairs = w.0 i; out = w.1 i })
are_ways (a ∷ later) pairs out (inl left) =
    flat_map-IsIn (with_first a) (way_of pairs out) (way_of pairs left.0) (all_pairings later) (are_ways later pairs left.0 left.2)
    (inl (ap (way_of pairs) left.1))
are_ways (a ∷ later) pairs out (inr met) =
    let rest : Way = way_of met.1 met.2 in
    flat_map-IsIn (with_first a) (way_of pairs out) rest (all_pairings later) (are_ways later met.1 met.2 met.5)
    (inr (subst (λ p. IsIn (way_of p out) (map (paired a rest) (picks met.2))) (sym met.3)
    (map-IsIn (paired a rest) (met.0, out) (picks met.2) (are_picks met.0 met.2 out met.4))))

-- ---- the search finds one exactly where there is one that completes

none_out : (out : List ℕ) → leaves_one nobody out ≡ true → out ≡ []
none_out [] left = refl
none_out (a ∷ []) left = absurd (true≢false (sym left))
none_out (a ∷ b ∷ rest) left = absurd (true≢false (sym left))

one_out : (may_be_left : ℕ → Bool) (a : ℕ) (rest : List ℕ) → leaves_one may_be_left (a ∷ rest) ≡ true → (may_be_left a ≡ true) × (rest ≡ [])
one_out may_be_left a [] left = (left, refl)
one_out may_be_left a (b ∷ rest) left = absurd (true≢false (sym left))

module _ (meets : ℕ → ℕ → Bool) where
  abbrev Meet : List (ℕ × ℕ) → Type 0
  Meet pairs = list_all (λ pair. meets pair.0 pair.1) pairs ≡ true

  -- a way to pair players that completes them
  abbrev HasWay : (ℕ → Bool) → List ℕ → Type 0
  HasWay may_be_left players = (pairs : List (ℕ × ℕ)) × (out : List ℕ) × IsWay players pairs out × Meet pairs × (leaves_one may_be_left out ≡ true)

  way_found : (n : ℕ) (may_be_left : ℕ → Bool) (players : List ℕ) → length players ≡ n → can_cover meets may_be_left n players ≡ true → HasWay may_be_left players
  way_found zero may_be_left [] e t = ([], [], (refl, refl), refl, refl)
  way_found zero may_be_left (a ∷ later) e t = absurd (omega (arith, e))
  way_found (suc zero) may_be_left [] e t = absurd (omega (arith, e))
  way_found (suc zero) may_be_left (a ∷ []) e t = ([], a ∷ [], inl ([], refl, (refl, refl)), refl, t)
  way_found (suc zero) may_be_left (a ∷ b ∷ later) e t = absurd (omega (arith, e))
  way_found (suc (suc n)) may_be_left [] e t = absurd (omega (arith, e))
  way_found (suc (suc n)) may_be_left (a ∷ later) e t =
      elim (or_cases (some_partner (meets a) (can_cover meets may_be_left n) [] later) (may_be_left a && can_cover meets nobody (suc n) later) t) [
        | inl found ↦
            (let partner = partner_of (meets a) (can_cover meets may_be_left n) [] later found in
            let b : ℕ = partner.partner in
            let others : List ℕ = partner.front ++ partner.behind in
            let p : Picked b later others =
            subst (λ l. Picked b l others) (sym partner.players_are) (picked_between b partner.front partner.behind) in
            let rest = way_found n may_be_left others (omega (arith, picked_length b later others p, e)) partner.others_hold in
            let more = put_back b later others rest.0 rest.1 p rest.2 in
            ((a, b) ∷ rest.0, rest.1, inr (b, rest.0, more.0, refl, more.2, more.1), and_from (meets a b) (list_all (λ pair. meets pair.0 pair.1) rest.0) partner.may_meet rest.3, rest.4))
        | inr left ↦
            (let both = and_parts (may_be_left a) (can_cover meets nobody (suc n) later) left in
            let rest = way_found (suc n) nobody later (omega (arith, e)) both.1 in
            (rest.0, a ∷ [], inl ([], refl, subst (IsWay later rest.0) (none_out rest.1 rest.4) rest.2), rest.3, both.0))
      ]

  cover_found : (n : ℕ) (may_be_left : ℕ → Bool) (players : List ℕ) → length players ≡ n → (pairs : List (ℕ × ℕ)) (out : List ℕ) → IsWay players pairs out → Meet pairs
      → leaves_one may_be_left out ≡ true → can_cover meets may_be_left n players ≡ true
  cover_found zero may_be_left players e pairs out w meet left = refl
  cover_found (suc zero) may_be_left [] e pairs out w meet left = absurd (omega (arith, e))
  cover_found (suc zero) may_be_left (a ∷ []) e pairs out (inl alone) meet left =
      (one_out may_be_left a alone.0 (subst (λ l. leaves_one may_be_left l ≡ true) alone.1 left)).0
  cover_found (suc zero) may_be_left (a ∷ []) e pairs out (inr met) meet left = absurd (subst (λ l. Picked met.0 l out) met.5.1 met.4)
  cover_found (suc zero) may_be_left (a ∷ b ∷ later) e pairs out w meet left = absurd (omega (arith, e))
  cover_found (suc (suc n)) may_be_left [] e pairs out w meet left = absurd (omega (arith, e))
  cover_found (suc (suc n)) may_be_left (a ∷ later) e pairs out (inl alone) meet left =
      let one = one_out may_be_left a alone.0 (subst (λ l. leaves_one may_be_left l ≡ true) alone.1 left) in
      let rest : can_cover meets nobody (suc n) later ≡ true =
      cover_found (suc n) nobody later (omega (arith, e)) pairs alone.0 alone.2 meet (ap (leaves_one nobody) one.1) in
      or_right (some_partner (meets a) (can_cover meets may_be_left n) [] later) (may_be_left a && can_cover meets nobody (suc n) later)
      (and_from (may_be_left a) (can_cover meets nobody (suc n) later) one.0 rest)
  cover_found (suc (suc n)) may_be_left (a ∷ later) e pairs out (inr met) meet left =
      let b : ℕ = met.0 in
      let fewer = taken_out b later met.1 met.2 out met.5 met.4 in
      let parts = picked_parts b later fewer.0 fewer.1 in
      let both = and_parts (meets a b) (list_all (λ pair. meets pair.0 pair.1) met.1) (subst Meet met.3 meet) in
      let rest : can_cover meets may_be_left n fewer.0 ≡ true =
      cover_found n may_be_left fewer.0 (omega (arith, picked_length b later fewer.0 fewer.1, e)) met.1 out fewer.2 both.1 left in
      or_left (some_partner (meets a) (can_cover meets may_be_left n) [] later) (may_be_left a && can_cover meets nobody (suc n) later)
      (ap (λ xs. some_partner (meets a) (can_cover meets may_be_left n) [] xs) parts.2
      ∙ partner_serves (meets a) (can_cover meets may_be_left n) [] parts.0 b parts.1 both.0 (ap (can_cover meets may_be_left n) (sym parts.3) ∙ rest))

-- players can be completed exactly where the search says so
pub complete_by_search : (meets : ℕ → ℕ → Bool) (may_be_left : ℕ → Bool) (players : List ℕ)
    → (can_complete meets may_be_left players ≡ true) ↔ (can_cover meets may_be_left (length players) players ≡ true)
complete_by_search meets may_be_left players = (
  λ t.
      let found = found_in (is_complete meets may_be_left) (all_pairings players) t in
      let both = and_parts (list_all (λ pair. meets pair.0 pair.1) found.0.pairs) (leaves_one may_be_left found.0.out) found.2 in
      cover_found meets (length players) may_be_left players refl found.0.pairs found.0.out (ways_are players found.0 found.1) both.0 both.1,
  λ t.
      let way = way_found meets (length players) may_be_left players refl t in
      any_in (is_complete meets may_be_left) (way_of way.0 way.1) (all_pairings players) (are_ways players way.0 way.1 way.2)
      (and_from (list_all (λ pair. meets pair.0 pair.1) way.0) (leaves_one may_be_left way.1) way.3 way.4),
)
