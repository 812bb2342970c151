-- The scoregroups of the seats that a walk has not used yet: the first one is above all others, and the brackets go on behind it.
use Rattle.std.proofs.Common.{◌≡◌, ℕ, zero, suc, ◌+◌, ◌<◌, ◌≤◌, false, ◌==◌, List, [], ◌∷◌, ◌++◌, length, length-append, take, drop, refl, sym, ap, ◌∙◌, subst, arith}
use Rattle.std.specs.List.{AllByRecursion, concat}
use Rattle.std.proofs.lemmas.Bool.Decides.{nat_tests}
use Rattle.std.proofs.lemmas.List.{append_cancel_left, length-take, take-append-drop}
use Rattle.std.proofs.lemmas.Bool.{eqb-true, cond_both}
use Rattle.dutch_arrangements.specs.Prelude.{numbers_from}
use Rattle.dutch_sequence.proofs.Members.{length-numbers}
use Rattle.dutch_player.specs.Prelude.{Facts}
use Rattle.dutch_bracket.specs.declared.reached.BracketKind.{BracketKind}
use Rattle.dutch_bracket.specs.declared.reached.BracketKind.TheVariants.{Ordinary, Last}
use Rattle.dutch_bracket.specs.Prelude.{score_at, AreSeats, IsAbove, front_with, bracket, first_group, scoregroups}
use Rattle.dutch_rounds.specs.Prelude.{AreRanked, AreAbove, Goes, everybody, ordinary_bracket, brackets, group_kind, round_by}
use Rattle.dutch_bracket.proofs.GroupLemmas.{first_group_is, first_group_taken, concat_scoregroups}
use Rattle.dutch_rounds.proofs.WalkLemmas.{Descends, is_above, ranked_seats, ranked_front, ranked_back}
use Rattle.dutch_bracket.proofs.ArrangementParts.{numbers_above}
use Rattle.dutch_sequence.specs.declared.numbers.TheConstants.{LIMIT}

ne_of : (a b : ℕ) → (a == b) ≡ false → a ≤ b → a < b
ne_of a b h le = grind (arith, nat_tests)

add-one : (n : ℕ) → n + 1 ≡ suc n
add-one n = omega arith

-- there is somebody, by a test
pub some_by_test : (xs : List ℕ) → false ≡ (length xs == 0) → 0 < length xs
some_by_test xs h = grind (arith, nat_tests)

-- as many as were taken are taken again
taken_again : (n : ℕ) (xs : List ℕ) → take (length (take n xs)) xs ≡ take n xs
taken_again zero xs = refl
taken_again (suc n) [] = refl
taken_again (suc n) (x ∷ xs) = ap (λ rest. x ∷ rest) (taken_again n xs)

module _ (facts : Facts) where
  -- those at the front have the score
  front_same : (score : ℕ) (xs : List ℕ) → AllByRecursion (λ a. score_at facts a ≡ score) (take (front_with facts score xs) xs)
  front_same score [] = tt
  front_same score (y ∷ ys) =
      cond_both (score_at facts y == score) (suc (front_with facts score ys)) 0 (λ (n : ℕ). AllByRecursion (λ a. score_at facts a ≡ score) (take n (y ∷ ys)))
      (λ e. (eqb-true (score_at facts y) score e, front_same score ys)) (λ e. tt)

  all_below : (y score : ℕ) (ys : List ℕ) → Descends facts → score_at facts y < score → AreRanked facts (y ∷ ys) → AreRanked facts ys → AllByRecursion (λ b. score_at facts b < score) ys
  all_below y score [] descends lt h g = tt
  all_below y score (b ∷ ys) descends lt h g =
      let fall : score_at facts b ≤ score_at facts y = descends.falls y b h.1.0 g.0 in
      (omega (arith, fall, lt), all_below y score ys descends lt (h.0, h.1.1, g.2) g.2)

  -- and all behind them have a lower one
  back_below : (score x : ℕ) (xs : List ℕ) → Descends facts → score_at facts x ≡ score → AreRanked facts (x ∷ xs)
      → AllByRecursion (λ b. score_at facts b < score) (drop (front_with facts score xs) xs)
  back_below score x [] descends same h = tt
  back_below score x (y ∷ ys) descends same h =
      cond_both (score_at facts y == score) (suc (front_with facts score ys)) 0 (λ (n : ℕ). AllByRecursion (λ b. score_at facts b < score) (drop n (y ∷ ys)))
      (λ e. back_below score y ys descends (eqb-true (score_at facts y) score e) h.2)
      (λ e.
      let fall : score_at facts y ≤ score_at facts x = descends.falls x y h.1.0 h.2.0 in
      let lt : score_at facts y < score = ne_of (score_at facts y) score e (omega (arith, fall, same)) in
      (lt, all_below y score ys descends lt h.2 h.2.2))

  all_above : (score : ℕ) (tops lows : List ℕ) → AllByRecursion (λ a. score_at facts a ≡ score) tops → AllByRecursion (λ b. score_at facts b < score) lows → AreAbove facts tops lows
  all_above score [] lows h g = tt
  all_above score (a ∷ tops) lows h g =
      (subst (λ (s : ℕ). AllByRecursion (λ b. score_at facts b < s) lows) (sym h.0) g, all_above score tops lows h.1 g)

  -- the first scoregroup is above all lower seats
  pub group_above : (md xs : List ℕ) (x n : ℕ) → Descends facts → Goes facts md (x ∷ xs) → n ≡ front_with facts (score_at facts x) xs
      → AreAbove facts (take (n + 1) (x ∷ xs)) (drop (n + 1) (x ∷ xs))
  group_above md xs x n descends goes e =
      let k = front_with facts (score_at facts x) xs in
      let same : n + 1 ≡ suc k = omega (arith, e) in
      subst (λ (m : ℕ). AreAbove facts (take m (x ∷ xs)) (drop m (x ∷ xs))) (sym same)
      (all_above (score_at facts x) (x ∷ take k xs) (drop k xs) (refl, front_same (score_at facts x) xs)
      (back_below (score_at facts x) x xs descends refl (ranked_back facts md (x ∷ xs) goes.ranked)))

  parted : (md xs : List ℕ) (n : ℕ) → Goes facts md xs → Goes facts md (take n xs ++ drop n xs)
  parted md xs n goes = subst (λ (all : List ℕ). Goes facts md all) (sym (take-append-drop n xs)) goes

  groups_of : (x : ℕ) (xs : List ℕ) (n : ℕ) → n ≡ front_with facts (score_at facts x) xs
      → scoregroups facts (x ∷ xs) ≡ take (n + 1) (x ∷ xs) ∷ scoregroups facts (drop (n + 1) (x ∷ xs))
  groups_of x xs n e =
      let same : n + 1 ≡ suc (front_with facts (score_at facts x) xs) = omega (arith, e) in
      first_group_is facts x xs ∙ ap (λ (m : ℕ). take m (x ∷ xs) ∷ scoregroups facts (drop m (x ∷ xs))) (sym same)

  brackets_at : (number : ℕ) (md group next : List ℕ) (later groups : List (List ℕ)) → groups ≡ next ∷ later
      → brackets facts number md (group ∷ groups)
      ≡ ordinary_bracket facts (bracket number Ordinary md group) (concat groups) (λ left. brackets facts (number + 1) left groups)
  brackets_at number md group next later groups e =
      subst (λ (gs : List (List ℕ)). brackets facts number md (group ∷ gs)
      ≡ ordinary_bracket facts (bracket number Ordinary md group) (concat gs) (λ left. brackets facts (number + 1) left gs)) (sym e) refl

  brackets_lower : (number : ℕ) (md group lower : List ℕ) → 0 < length lower
      → brackets facts number md (group ∷ scoregroups facts lower)
      ≡ ordinary_bracket facts (bracket number Ordinary md group) lower (λ left. brackets facts (number + 1) left (scoregroups facts lower))
  brackets_lower number md group [] h = absurd (omega (arith, h))
  brackets_lower number md group (y ∷ ys) h =
      brackets_at number md group (y ∷ take (front_with facts (score_at facts y) ys) ys) (scoregroups facts (drop (front_with facts (score_at facts y) ys) ys))
      (scoregroups facts (y ∷ ys)) (first_group_is facts y ys)
      ∙ ap (λ (lower : List ℕ). ordinary_bracket facts (bracket number Ordinary md group) lower (λ left. brackets facts (number + 1) left (scoregroups facts (y ∷ ys))))
      (concat_scoregroups facts (y ∷ ys))

  -- the rest of the seats, parted into its first scoregroup and the lower ones
  pub record IsParted (md rest group lower : List ℕ) : Type 0 where
    pub descends : Descends facts
    pub goes : Goes facts md (group ++ lower)
    pub above : AreAbove facts group lower
    pub groups : scoregroups facts rest ≡ group ∷ scoregroups facts lower
    pub count : length rest ≡ length group + length lower
    pub some : 0 < length group

  parted_at : (md xs : List ℕ) (x n : ℕ) → Descends facts → Goes facts md (x ∷ xs) → n ≡ front_with facts (score_at facts x) xs
      → IsParted md (x ∷ xs) (take (n + 1) (x ∷ xs)) (drop (n + 1) (x ∷ xs))
  parted_at md xs x n descends goes e =
      let whole : take (n + 1) (x ∷ xs) ++ drop (n + 1) (x ∷ xs) ≡ x ∷ xs = take-append-drop (n + 1) (x ∷ xs) in
      record {
        descends = descends;
        goes = parted md (x ∷ xs) (n + 1) goes;
        above = group_above md xs x n descends goes e;
        groups = groups_of x xs n e;
        count = ap length (sym whole) ∙ length-append (take (n + 1) (x ∷ xs)) (drop (n + 1) (x ∷ xs));
        some = subst (λ (m : ℕ). 0 < length (take m (x ∷ xs))) (sym (add-one n)) (let some : 0 < suc (length (take n xs)) = omega arith in some);
      }

  -- the first scoregroup and the seats behind it are such parts
  parted_at_first : (md rest group lower : List ℕ) → Descends facts → Goes facts md rest → 0 < length rest → group ++ lower ≡ rest
      → group ≡ first_group facts (scoregroups facts rest) → IsParted md rest group lower
  parted_at_first md [] group lower descends goes some whole first = absurd (omega (arith, some))
  parted_at_first md (x ∷ xs) group lower descends goes some whole first =
      let n = front_with facts (score_at facts x) xs in
      let behind : List ℕ = drop (n + 1) (x ∷ xs) in
      let front : group ≡ take (n + 1) (x ∷ xs) = first ∙ sym (first_group_taken facts x xs n refl) in
      let back : lower ≡ behind =
      append_cancel_left group lower behind (whole ∙ sym (ap (λ (g : List ℕ). g ++ behind) front ∙ take-append-drop (n + 1) (x ∷ xs))) in
      subst (λ (g : List ℕ). IsParted md (x ∷ xs) g lower) (sym front)
      (subst (λ (l : List ℕ). IsParted md (x ∷ xs) (take (n + 1) (x ∷ xs)) l) (sym back) (parted_at md xs x n descends goes refl))

  pub parted_by : {md rest group lower : List ℕ} → Descends facts → Goes facts md rest → 0 < length rest → group ++ lower ≡ rest
      → group ≡ first_group facts (scoregroups facts rest) → IsParted md rest group lower
  parted_by {md = md} {rest = rest} {group = group} {lower = lower} = parted_at_first md rest group lower

  -- there is no seat where the first scoregroup has none
  pub none_left : (xs : List ℕ) → length (first_group facts (scoregroups facts xs)) ≡ 0 → xs ≡ []
  none_left [] none = refl
  none_left (x ∷ xs) none =
      let group = ap (λ groups. length (first_group facts groups)) (first_group_is facts x xs) in
      absurd (let bad : ⊥ = omega (arith, none, group) in bad)

  -- as many seats as the first scoregroup has are that group
  pub front_taken : (xs : List ℕ) (n : ℕ) → n ≡ length (first_group facts (scoregroups facts xs)) → take n xs ≡ first_group facts (scoregroups facts xs)
  front_taken [] n e = ap (λ k. take k []) e
  front_taken (x ∷ xs) n e =
      let k = front_with facts (score_at facts x) xs in
      let group = first_group_taken facts x xs k refl in
      ap (λ j. take j (x ∷ xs)) (e ∙ ap length (sym group)) ∙ taken_again (k + 1) (x ∷ xs) ∙ group

  pub front_few : (xs : List ℕ) (n : ℕ) → n ≡ length (first_group facts (scoregroups facts xs)) → n ≤ length xs
  front_few xs n e = omega (arith, e, ap length (front_taken xs n e), length-take n xs)

  pub rest_inside : (md rest : List ℕ) → Goes facts md rest → AreSeats facts rest
  rest_inside md rest goes = ranked_seats facts rest (ranked_back facts md rest goes.ranked)

  pub moved_inside : (md rest : List ℕ) → Goes facts md rest → AreSeats facts md
  moved_inside md rest goes = ranked_seats facts md (ranked_front facts md rest goes.ranked)

  module _ {md rest group lower : List ℕ} (parts : IsParted md rest group lower) where
    pub parted_above : (number : ℕ) (kind : BracketKind) → (kind ≡ Ordinary → 0 < length lower) → IsAbove facts (bracket number kind md group) lower
    parted_above number kind there = is_above facts parts.descends number kind md group lower parts.goes parts.above there

    pub parted_few : length md + length group ≤ LIMIT
    parted_few =
        let above = parted_above 0 Last (λ e. let bad : Last ≡ Ordinary = e in absurd (cc)) in
        let few : length (md ++ group) + length lower ≤ LIMIT = above.few in
        omega (arith, few, length-append md group)

  -- the round from a scoregroup on is the one from its bracket on
  group_round_at : (number : ℕ) (md group lower : List ℕ)
      → brackets facts number md (group ∷ scoregroups facts lower) ≡ round_by facts (group_kind lower) (bracket number (group_kind lower) md group) lower
  group_round_at number md group [] = refl
  group_round_at number md group (y ∷ ys) = brackets_lower number md group (y ∷ ys) (omega arith)

  pub group_round : {md rest group lower : List ℕ} → IsParted md rest group lower → (number : ℕ)
      → brackets facts number md (scoregroups facts rest) ≡ round_by facts (group_kind lower) (bracket number (group_kind lower) md group) lower
  group_round {md = md} {group = group} {lower = lower} parts number = ap (brackets facts number md) parts.groups ∙ group_round_at number md group lower

  numbers_ranked : (first count : ℕ) → first + count ≤ length facts.seats → AreRanked facts (numbers_from first count)
  numbers_ranked first zero h = tt
  numbers_ranked first (suc count) h =
      (omega (arith, h), numbers_above first (suc first) count (omega arith), numbers_ranked (suc first) count (omega (arith, h)))

  -- at first all seats are to come
  pub everybody_goes : (md all : List ℕ) → md ≡ [] → all ≡ everybody facts → Goes facts md all
  everybody_goes md all none e =
      subst (λ (m : List ℕ). Goes facts m all) (sym none)
      (subst (λ (seats : List ℕ). Goes facts [] seats) (sym e) (record { ranked = numbers_ranked 0 (length facts.seats) (omega arith); above = tt; front = []; all = refl; high = tt }))

  pub everybody_few : (all : List ℕ) → all ≡ everybody facts → length all ≡ length facts.seats
  everybody_few all e = ap length e ∙ length-numbers 0 (length facts.seats)
