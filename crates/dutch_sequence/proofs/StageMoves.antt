-- What is to come of exchanges, from one stage to the next.
use Rattle.std.proofs.Common.{◌≡◌, ℕ, zero, suc, ◌+◌, ◌-◌, ◌<◌, ◌≤◌, Bool, true, false, nat_lt, nat_le, ◌⊎◌, List, [], ◌∷◌, ◌++◌, map, refl, sym, ◌∙◌, ap, append_assoc, arith, Option, Some, None, inl, inr, if◌then◌else◌}
use Rattle.std.proofs.lemmas.Bool.{cases_Bool, ltb-true, ltb-false, leb-true, leb-false, lt-leb, le-leb}
use Rattle.dutch_sequence.specs.Prelude.{ahead, hits, trials, lower, lowest, hinted, exchange_plan, set_of, stage_sets, stage_left, sets_of_stages, sets_of_sizes, trials_of_stages, trials_of_sizes, stages_of_sizes, least_difference, greatest_difference, most_exchanged, sets_ahead, trials_ahead, stages_ahead, is_next, following, sets_from, trials_from}
use Rattle.dutch_sequence.specs.declared.exchange.SearchState.{SearchState}

pub lower-none : (o : Option ℕ) → lower o None ≡ o
lower-none None = refl
lower-none (Some x) = refl

pub is_next-some : (difference : ℕ) (next : Option ℕ) → is_next difference next ≡ true → (n : ℕ) × (next ≡ Some n) × (n ≤ difference)
is_next-some difference None h = cc
is_next-some difference (Some next) h = (next, refl, leb-true next difference h)

if-some : (b : Bool) (m n : ℕ) → (if b then Some m else None) ≡ Some n → (b ≡ true) × (m ≡ n)
if-some true m n h = (refl, cc)
if-some false m n h = cc

if-none : (b : Bool) (m : ℕ) → (if b then Some m else None) ≡ None → b ≡ false
if-none true m h = cc
if-none false m h = refl

-- what follows
pub following-some : (difference greatest n : ℕ) (beyond : Option ℕ) → following difference greatest beyond ≡ Some n → (m : ℕ) × (beyond ≡ Some m) × (difference < n) × (n ≤ greatest) × ((m ≡ n) ⊎ ((m ≤ suc difference) × (n ≡ suc difference)))
following-some difference greatest n None h = cc
following-some difference greatest n (Some next) h =
    elim (cases_Bool (nat_lt difference next)) [
      | inl over ↦
          let it = if-some (nat_le next greatest) next n (sym (ap (λ b. if b then (if nat_le next greatest then Some next else None) else (if nat_lt difference greatest then Some (suc difference) else None)) over) ∙ h) in
          (next, refl, omega (arith, ltb-true difference next over, it.1), omega (arith, leb-true next greatest it.0, it.1), inl it.1)
      | inr under ↦
          let it = if-some (nat_lt difference greatest) (suc difference) n (sym (ap (λ b. if b then (if nat_le next greatest then Some next else None) else (if nat_lt difference greatest then Some (suc difference) else None)) under) ∙ h) in
          (next, refl, omega (arith, it.1), omega (arith, ltb-true difference greatest it.0, it.1), inr (omega (arith, ltb-false difference next under), sym it.1))
    ]

pub following-none : (difference greatest m d : ℕ) (beyond : Option ℕ) → following difference greatest beyond ≡ None → beyond ≡ Some m → m ≤ d → difference < d → d ≤ greatest → ⊥
following-none difference greatest m d beyond h is to low high =
    let none : following difference greatest (Some m) ≡ None = sym (ap (following difference greatest) is) ∙ h in
    elim (cases_Bool (nat_lt difference m)) [
      | inl over ↦
          omega (arith, leb-false m greatest (if-none (nat_le m greatest) m (sym (ap (λ b. if b then (if nat_le m greatest then Some m else None) else (if nat_lt difference greatest then Some (suc difference) else None)) over) ∙ none)))
      | inr under ↦
          omega (arith, ltb-false difference greatest (if-none (nat_lt difference greatest) (suc difference) (sym (ap (λ b. if b then (if nat_le m greatest then Some m else None) else (if nat_lt difference greatest then Some (suc difference) else None)) under) ∙ none)))
    ]

zero_plus : (n : ℕ) → 0 + n ≡ n
zero_plus n = omega arith

plus_assoc : (a b c : ℕ) → a + (b + c) ≡ (a + b) + c
plus_assoc a b c = omega arith

module _ (pool : List ℕ) (k size : ℕ) where
  -- the stages before the next one are passed over
  sets-skip : (gap count difference : ℕ) → sets_of_stages pool k (gap + suc count) size difference (Some (difference + gap)) ≡ stage_sets pool k size (difference + gap) [] 0 ++ sets_of_stages pool k count size (suc (difference + gap)) (lowest (ahead (exchange_plan pool k size (difference + gap)) [] 0))
  unfolding sets_of_stages
  sets-skip zero count difference =
      let here : difference + 0 ≡ difference = omega arith in
      ap (λ n. sets_of_stages pool k n size difference (Some (difference + 0))) (let e : 0 + suc count ≡ suc count = omega arith in e)
      ∙ ap (λ b. if b then (stage_sets pool k size difference [] 0 ++ sets_of_stages pool k count size (suc difference) (lowest (ahead (exchange_plan pool k size difference) [] 0))) else sets_of_stages pool k count size (suc difference) (Some (difference + 0))) (le-leb (difference + 0) difference (omega arith))
      ∙ ap (λ d. stage_sets pool k size d [] 0 ++ sets_of_stages pool k count size (suc d) (lowest (ahead (exchange_plan pool k size d) [] 0))) (sym here)
  sets-skip (suc gap) count difference =
      let moved : difference + suc gap ≡ suc difference + gap = omega arith in
      ap (λ n. sets_of_stages pool k n size difference (Some (difference + suc gap))) (let e : suc gap + suc count ≡ suc (gap + suc count) = omega arith in e)
      ∙ ap (λ b. if b then (stage_sets pool k size difference [] 0 ++ sets_of_stages pool k (gap + suc count) size (suc difference) (lowest (ahead (exchange_plan pool k size difference) [] 0))) else sets_of_stages pool k (gap + suc count) size (suc difference) (Some (difference + suc gap))) (lt-leb (difference + suc gap) difference (omega arith))
      ∙ ap (λ d. sets_of_stages pool k (gap + suc count) size (suc difference) (Some d)) moved
      ∙ sets-skip gap count (suc difference)
      ∙ ap (λ d. stage_sets pool k size d [] 0 ++ sets_of_stages pool k count size (suc d) (lowest (ahead (exchange_plan pool k size d) [] 0))) (sym moved)

  trials-skip : (gap count difference : ℕ) → trials_of_stages pool k (gap + suc count) size difference (Some (difference + gap)) ≡ trials (ahead (exchange_plan pool k size (difference + gap)) [] 0) + trials_of_stages pool k count size (suc (difference + gap)) (lowest (ahead (exchange_plan pool k size (difference + gap)) [] 0))
  unfolding trials_of_stages
  trials-skip zero count difference =
      let here : difference + 0 ≡ difference = omega arith in
      ap (λ n. trials_of_stages pool k n size difference (Some (difference + 0))) (let e : 0 + suc count ≡ suc count = omega arith in e)
      ∙ ap (λ b. if b then (trials (ahead (exchange_plan pool k size difference) [] 0) + trials_of_stages pool k count size (suc difference) (lowest (ahead (exchange_plan pool k size difference) [] 0))) else trials_of_stages pool k count size (suc difference) (Some (difference + 0))) (le-leb (difference + 0) difference (omega arith))
      ∙ ap (λ d. trials (ahead (exchange_plan pool k size d) [] 0) + trials_of_stages pool k count size (suc d) (lowest (ahead (exchange_plan pool k size d) [] 0))) (sym here)
  trials-skip (suc gap) count difference =
      let moved : difference + suc gap ≡ suc difference + gap = omega arith in
      ap (λ n. trials_of_stages pool k n size difference (Some (difference + suc gap))) (let e : suc gap + suc count ≡ suc (gap + suc count) = omega arith in e)
      ∙ ap (λ b. if b then (trials (ahead (exchange_plan pool k size difference) [] 0) + trials_of_stages pool k (gap + suc count) size (suc difference) (lowest (ahead (exchange_plan pool k size difference) [] 0))) else trials_of_stages pool k (gap + suc count) size (suc difference) (Some (difference + suc gap))) (lt-leb (difference + suc gap) difference (omega arith))
      ∙ ap (λ d. trials_of_stages pool k (gap + suc count) size (suc difference) (Some d)) moved
      ∙ trials-skip gap count (suc difference)
      ∙ ap (λ d. trials (ahead (exchange_plan pool k size d) [] 0) + trials_of_stages pool k count size (suc d) (lowest (ahead (exchange_plan pool k size d) [] 0))) (sym moved)

  -- the next stage is searched, whatever is known of those before it
  pub sets-low : (count difference m n : ℕ) → m ≤ difference → n ≤ difference → sets_of_stages pool k count size difference (Some m) ≡ sets_of_stages pool k count size difference (Some n)
  unfolding sets_of_stages
  sets-low zero difference m n p q = refl
  sets-low (suc count) difference m n p q =
      let first : List (List ℕ) = stage_sets pool k size difference [] 0 ++ sets_of_stages pool k count size (suc difference) (lowest (ahead (exchange_plan pool k size difference) [] 0)) in
      ap (λ b. if b then first else sets_of_stages pool k count size (suc difference) (Some m)) (le-leb m difference p)
      ∙ sym (ap (λ b. if b then first else sets_of_stages pool k count size (suc difference) (Some n)) (le-leb n difference q))

  trials-low : (count difference m n : ℕ) → m ≤ difference → n ≤ difference → trials_of_stages pool k count size difference (Some m) ≡ trials_of_stages pool k count size difference (Some n)
  unfolding trials_of_stages
  trials-low zero difference m n p q = refl
  trials-low (suc count) difference m n p q =
      let first : ℕ = trials (ahead (exchange_plan pool k size difference) [] 0) + trials_of_stages pool k count size (suc difference) (lowest (ahead (exchange_plan pool k size difference) [] 0)) in
      ap (λ b. if b then first else trials_of_stages pool k count size (suc difference) (Some m)) (le-leb m difference p)
      ∙ sym (ap (λ b. if b then first else trials_of_stages pool k count size (suc difference) (Some n)) (le-leb n difference q))

  -- without a next stage nothing comes
  sets-without : (count difference : ℕ) (next : Option ℕ) → ((n d : ℕ) → next ≡ Some n → n ≤ d → difference ≤ d → d < difference + count → ⊥) → sets_of_stages pool k count size difference next ≡ []
  unfolding sets_of_stages
  sets-without zero difference next none = refl
  sets-without (suc count) difference next none =
      elim (cases_Bool (is_next difference next)) [
        | inl is_it ↦ (let it = is_next-some difference next is_it in absurd (none it.0 difference it.1 it.2 (omega arith) (omega arith)))
        | inr is_not ↦
            ap (λ b. if b then (stage_sets pool k size difference [] 0 ++ sets_of_stages pool k count size (suc difference) (lowest (ahead (exchange_plan pool k size difference) [] 0))) else sets_of_stages pool k count size (suc difference) next) is_not
            ∙ sets-without count (suc difference) next (λ n d is to low high. none n d is to (omega arith) (omega arith))
      ]

  trials-without : (count difference : ℕ) (next : Option ℕ) → ((n d : ℕ) → next ≡ Some n → n ≤ d → difference ≤ d → d < difference + count → ⊥) → trials_of_stages pool k count size difference next ≡ 0
  unfolding trials_of_stages
  trials-without zero difference next none = refl
  trials-without (suc count) difference next none =
      elim (cases_Bool (is_next difference next)) [
        | inl is_it ↦ (let it = is_next-some difference next is_it in absurd (none it.0 difference it.1 it.2 (omega arith) (omega arith)))
        | inr is_not ↦
            ap (λ b. if b then (trials (ahead (exchange_plan pool k size difference) [] 0) + trials_of_stages pool k count size (suc difference) (lowest (ahead (exchange_plan pool k size difference) [] 0))) else trials_of_stages pool k count size (suc difference) next) is_not
            ∙ trials-without count (suc difference) next (λ n d is to low high. none n d is to (omega arith) (omega arith))
      ]

  -- the stages of a size begin with the first one
  pub sets-first : (count difference : ℕ) → sets_of_stages pool k (suc count) size difference (Some difference) ≡ stage_sets pool k size difference [] 0 ++ sets_of_stages pool k count size (suc difference) (lowest (ahead (exchange_plan pool k size difference) [] 0))
  unfolding sets_of_stages
  sets-first count difference =
      ap (λ b. if b then (stage_sets pool k size difference [] 0 ++ sets_of_stages pool k count size (suc difference) (lowest (ahead (exchange_plan pool k size difference) [] 0))) else sets_of_stages pool k count size (suc difference) (Some difference)) (le-leb difference difference (omega arith))

  pub trials-first : (count difference : ℕ) → trials_of_stages pool k (suc count) size difference (Some difference) ≡ trials (ahead (exchange_plan pool k size difference) [] 0) + trials_of_stages pool k count size (suc difference) (lowest (ahead (exchange_plan pool k size difference) [] 0))
  unfolding trials_of_stages
  trials-first count difference =
      ap (λ b. if b then (trials (ahead (exchange_plan pool k size difference) [] 0) + trials_of_stages pool k count size (suc difference) (lowest (ahead (exchange_plan pool k size difference) [] 0))) else trials_of_stages pool k count size (suc difference) (Some difference)) (le-leb difference difference (omega arith))

module _ (pool : List ℕ) (k : ℕ) (hint : List ℕ) (size difference : ℕ) (path : List ℕ) (place : ℕ) (beyond : Option ℕ) (spent : ahead (hinted hint (exchange_plan pool k size difference)) path place ≡ []) where
  none_here : stage_left pool k hint size difference path place ≡ []
  unfolding stage_left
  none_here = ap (λ events. map (set_of pool k size) (hits events)) spent

  no_trials : trials (ahead (hinted hint (exchange_plan pool k size difference)) path place) ≡ 0
  no_trials = ap trials spent

  next_is : lower beyond (lowest (ahead (hinted hint (exchange_plan pool k size difference)) path place)) ≡ beyond
  next_is = ap (λ events. lower beyond (lowest events)) spent ∙ lower-none beyond

  larger_sizes : List (List ℕ)
  larger_sizes = sets_of_sizes pool k (most_exchanged pool k - size) (suc size)

  sets-spent : sets_ahead pool k hint size difference path place beyond ≡ sets_of_stages pool k (greatest_difference pool k size - difference) size (suc difference) beyond ++ larger_sizes
  unfolding larger_sizes sets_ahead
  sets-spent =
      ap (λ here. here ++ (sets_of_stages pool k (greatest_difference pool k size - difference) size (suc difference) (lower beyond (lowest (ahead (hinted hint (exchange_plan pool k size difference)) path place))) ++ larger_sizes)) none_here
      ∙ ap (λ next. sets_of_stages pool k (greatest_difference pool k size - difference) size (suc difference) next ++ larger_sizes) next_is

  trials-spent : trials_ahead pool k hint size difference path place beyond ≡ trials_of_stages pool k (greatest_difference pool k size - difference) size (suc difference) beyond + trials_of_sizes pool k (most_exchanged pool k - size) (suc size)
  unfolding trials_ahead
  trials-spent =
      ap (λ n. n + (trials_of_stages pool k (greatest_difference pool k size - difference) size (suc difference) (lower beyond (lowest (ahead (hinted hint (exchange_plan pool k size difference)) path place))) + trials_of_sizes pool k (most_exchanged pool k - size) (suc size))) no_trials
      ∙ zero_plus _
      ∙ ap (λ next. trials_of_stages pool k (greatest_difference pool k size - difference) size (suc difference) next + trials_of_sizes pool k (most_exchanged pool k - size) (suc size)) next_is

  module _ (n : ℕ) (follows : following difference (greatest_difference pool k size) beyond ≡ Some n) where
    parts : (m : ℕ) × (beyond ≡ Some m) × (difference < n) × (n ≤ greatest_difference pool k size) × ((m ≡ n) ⊎ ((m ≤ suc difference) × (n ≡ suc difference)))
    parts = following-some difference (greatest_difference pool k size) n beyond follows

    above : suc difference + (n - suc difference) ≡ n
    above = omega (arith, parts.2)

    counts : greatest_difference pool k size - difference ≡ (n - suc difference) + suc (greatest_difference pool k size - n)
    counts = omega (arith, parts.2, parts.3)

    sets_at : (count : ℕ) → sets_of_stages pool k count size (suc difference) beyond ≡ sets_of_stages pool k count size (suc difference) (Some n)
    sets_at count =
        ap (sets_of_stages pool k count size (suc difference)) parts.1
        ∙ elim parts.4 [
          | inl same ↦ ap (λ m. sets_of_stages pool k count size (suc difference) (Some m)) same
          | inr low ↦ sets-low pool k size count (suc difference) parts.0 n low.0 (omega (arith, low.1))
        ]

    trials_at : (count : ℕ) → trials_of_stages pool k count size (suc difference) beyond ≡ trials_of_stages pool k count size (suc difference) (Some n)
    trials_at count =
        ap (trials_of_stages pool k count size (suc difference)) parts.1
        ∙ elim parts.4 [
          | inl same ↦ ap (λ m. trials_of_stages pool k count size (suc difference) (Some m)) same
          | inr low ↦ trials-low pool k size count (suc difference) parts.0 n low.0 (omega (arith, low.1))
        ]

    pub sets-next : sets_ahead pool k [] size n [] 0 None ≡ sets_ahead pool k hint size difference path place beyond
    unfolding larger_sizes stage_left stage_sets sets_ahead
    sets-next =
        sym (append_assoc (stage_sets pool k size n [] 0) (sets_of_stages pool k (greatest_difference pool k size - n) size (suc n) (lowest (ahead (exchange_plan pool k size n) [] 0))) larger_sizes)
        ∙ sym
        (sets-spent
        ∙ ap (λ sets. sets ++ larger_sizes) (sets_at (greatest_difference pool k size - difference))
        ∙ ap (λ count. sets_of_stages pool k count size (suc difference) (Some n) ++ larger_sizes) counts
        ∙ ap (λ d. sets_of_stages pool k ((n - suc difference) + suc (greatest_difference pool k size - n)) size (suc difference) (Some d) ++ larger_sizes) (sym above)
        ∙ ap (λ sets. sets ++ larger_sizes) (sets-skip pool k size (n - suc difference) (greatest_difference pool k size - n) (suc difference))
        ∙ ap (λ d. (stage_sets pool k size d [] 0 ++ sets_of_stages pool k (greatest_difference pool k size - n) size (suc d) (lowest (ahead (exchange_plan pool k size d) [] 0))) ++ larger_sizes) above)

    pub trials-next : trials_ahead pool k [] size n [] 0 None ≡ trials_ahead pool k hint size difference path place beyond
    unfolding trials_ahead
    trials-next =
        plus_assoc (trials (ahead (exchange_plan pool k size n) [] 0)) (trials_of_stages pool k (greatest_difference pool k size - n) size (suc n) (lowest (ahead (exchange_plan pool k size n) [] 0))) (trials_of_sizes pool k (most_exchanged pool k - size) (suc size))
        ∙ sym
        (trials-spent
        ∙ ap (λ t. t + trials_of_sizes pool k (most_exchanged pool k - size) (suc size)) (trials_at (greatest_difference pool k size - difference))
        ∙ ap (λ count. trials_of_stages pool k count size (suc difference) (Some n) + trials_of_sizes pool k (most_exchanged pool k - size) (suc size)) counts
        ∙ ap (λ d. trials_of_stages pool k ((n - suc difference) + suc (greatest_difference pool k size - n)) size (suc difference) (Some d) + trials_of_sizes pool k (most_exchanged pool k - size) (suc size)) (sym above)
        ∙ ap (λ t. t + trials_of_sizes pool k (most_exchanged pool k - size) (suc size)) (trials-skip pool k size (n - suc difference) (greatest_difference pool k size - n) (suc difference))
        ∙ ap (λ d. (trials (ahead (exchange_plan pool k size d) [] 0) + trials_of_stages pool k (greatest_difference pool k size - n) size (suc d) (lowest (ahead (exchange_plan pool k size d) [] 0))) + trials_of_sizes pool k (most_exchanged pool k - size) (suc size)) above)

  module _ (last : following difference (greatest_difference pool k size) beyond ≡ None) where
    sets_left : sets_ahead pool k hint size difference path place beyond ≡ sets_of_sizes pool k (most_exchanged pool k - size) (suc size)
    unfolding larger_sizes
    sets_left =
        sets-spent
        ∙ ap (λ sets. sets ++ larger_sizes) (sets-without pool k size (greatest_difference pool k size - difference) (suc difference) beyond (λ n d is to low high. following-none difference (greatest_difference pool k size) n d beyond last is to (omega arith) (omega arith)))

    trials_left : trials_ahead pool k hint size difference path place beyond ≡ trials_of_sizes pool k (most_exchanged pool k - size) (suc size)
    trials_left =
        trials-spent
        ∙ ap (λ t. t + trials_of_sizes pool k (most_exchanged pool k - size) (suc size)) (trials-without pool k size (greatest_difference pool k size - difference) (suc difference) beyond (λ n d is to low high. following-none difference (greatest_difference pool k size) n d beyond last is to (omega arith) (omega arith)))
        ∙ zero_plus _

    module _ (larger : size < most_exchanged pool k) where
      size_more : most_exchanged pool k - size ≡ suc (most_exchanged pool k - suc size)
      size_more = omega arith

      pub sets-larger : sets_ahead pool k [] (suc size) (least_difference pool k (suc size)) [] 0 None ≡ sets_ahead pool k hint size difference path place beyond
      unfolding sets_of_sizes stage_left stage_sets sets_ahead
      sets-larger =
          let L : ℕ = least_difference pool k (suc size) in
          let G : ℕ = greatest_difference pool k (suc size) in
          sym (append_assoc (stage_sets pool k (suc size) L [] 0) (sets_of_stages pool k (G - L) (suc size) (suc L) (lowest (ahead (exchange_plan pool k (suc size) L) [] 0))) (sets_of_sizes pool k (most_exchanged pool k - suc size) (suc (suc size))))
          ∙ ap (λ sets. sets ++ sets_of_sizes pool k (most_exchanged pool k - suc size) (suc (suc size))) (sym (sets-first pool k (suc size) (G - L) L))
          ∙ ap (λ count. sets_of_sizes pool k count (suc size)) (sym size_more)
          ∙ sym sets_left

      pub trials-larger : trials_ahead pool k [] (suc size) (least_difference pool k (suc size)) [] 0 None ≡ trials_ahead pool k hint size difference path place beyond
      unfolding trials_of_sizes trials_ahead
      trials-larger =
          let L : ℕ = least_difference pool k (suc size) in
          let G : ℕ = greatest_difference pool k (suc size) in
          plus_assoc (trials (ahead (exchange_plan pool k (suc size) L) [] 0)) (trials_of_stages pool k (G - L) (suc size) (suc L) (lowest (ahead (exchange_plan pool k (suc size) L) [] 0))) (trials_of_sizes pool k (most_exchanged pool k - suc size) (suc (suc size)))
          ∙ ap (λ t. t + trials_of_sizes pool k (most_exchanged pool k - suc size) (suc (suc size))) (sym (trials-first pool k (suc size) (G - L) L))
          ∙ ap (λ count. trials_of_sizes pool k count (suc size)) (sym size_more)
          ∙ sym trials_left

      stages_size_more : stages_of_sizes pool k (most_exchanged pool k - size) (suc size) ≡ suc (greatest_difference pool k (suc size) - least_difference pool k (suc size)) + stages_of_sizes pool k (most_exchanged pool k - suc size) (suc (suc size))
      unfolding stages_of_sizes
      stages_size_more = ap (λ count. stages_of_sizes pool k count (suc size)) size_more

      pub stages-larger : stages_ahead pool k (suc size) (least_difference pool k (suc size)) < stages_ahead pool k size difference
      unfolding stages_ahead
      stages-larger = omega (arith, stages_size_more)

    module _ (largest : most_exchanged pool k ≤ size) where
      pub sets-none : sets_ahead pool k hint size difference path place beyond ≡ []
      unfolding sets_of_sizes
      sets-none = sets_left ∙ ap (λ count. sets_of_sizes pool k count (suc size)) (let e : most_exchanged pool k - size ≡ 0 = omega arith in e)

      pub trials-none : trials_ahead pool k hint size difference path place beyond ≡ 0
      unfolding trials_of_sizes
      trials-none = trials_left ∙ ap (λ count. trials_of_sizes pool k count (suc size)) (let e : most_exchanged pool k - size ≡ 0 = omega arith in e)

module _ (pool : List ℕ) (k : ℕ) (hint : List ℕ) (size difference : ℕ) (path path' : List ℕ) (place place' : ℕ) (beyond beyond' : Option ℕ) (next : lower beyond (lowest (ahead (hinted hint (exchange_plan pool k size difference)) path place)) ≡ lower beyond' (lowest (ahead (hinted hint (exchange_plan pool k size difference)) path' place'))) where
  pub sets-by_hits : hits (ahead (hinted hint (exchange_plan pool k size difference)) path place) ≡ hits (ahead (hinted hint (exchange_plan pool k size difference)) path' place') → sets_ahead pool k hint size difference path place beyond ≡ sets_ahead pool k hint size difference path' place' beyond'
  unfolding stage_left sets_ahead
  sets-by_hits same =
      ap (λ paths. map (set_of pool k size) paths ++ (sets_of_stages pool k (greatest_difference pool k size - difference) size (suc difference) (lower beyond (lowest (ahead (hinted hint (exchange_plan pool k size difference)) path place))) ++ sets_of_sizes pool k (most_exchanged pool k - size) (suc size))) same
      ∙ ap (λ o. stage_left pool k hint size difference path' place' ++ (sets_of_stages pool k (greatest_difference pool k size - difference) size (suc difference) o ++ sets_of_sizes pool k (most_exchanged pool k - size) (suc size))) next

  pub sets-found : hits (ahead (hinted hint (exchange_plan pool k size difference)) path place) ≡ path' ∷ hits (ahead (hinted hint (exchange_plan pool k size difference)) path' place') → sets_ahead pool k hint size difference path place beyond ≡ set_of pool k size path' ∷ sets_ahead pool k hint size difference path' place' beyond'
  unfolding stage_left sets_ahead
  sets-found same =
      ap (λ paths. map (set_of pool k size) paths ++ (sets_of_stages pool k (greatest_difference pool k size - difference) size (suc difference) (lower beyond (lowest (ahead (hinted hint (exchange_plan pool k size difference)) path place))) ++ sets_of_sizes pool k (most_exchanged pool k - size) (suc size))) same
      ∙ ap (λ o. set_of pool k size path' ∷ (stage_left pool k hint size difference path' place' ++ (sets_of_stages pool k (greatest_difference pool k size - difference) size (suc difference) o ++ sets_of_sizes pool k (most_exchanged pool k - size) (suc size)))) next

  pub trials-after : trials_of_stages pool k (greatest_difference pool k size - difference) size (suc difference) (lower beyond (lowest (ahead (hinted hint (exchange_plan pool k size difference)) path place))) ≡ trials_of_stages pool k (greatest_difference pool k size - difference) size (suc difference) (lower beyond' (lowest (ahead (hinted hint (exchange_plan pool k size difference)) path' place')))
  trials-after = ap (trials_of_stages pool k (greatest_difference pool k size - difference) size (suc difference)) next

-- a stage that is entered anew
module _ (pool : List ℕ) (k : ℕ) (state : SearchState) (size difference : ℕ) (is_size : state.size ≡ size) (is_difference : state.difference ≡ difference) (no_hint : state.hint.items ≡ []) (no_path : state.descent.path ≡ []) (no_number : state.descent.number ≡ 0) (no_beyond : state.descent.beyond ≡ None) where
  pub sets-entered : sets_from pool k state ≡ sets_ahead pool k [] size difference [] 0 None
  sets-entered = cc

  pub trials-entered : trials_from pool k state ≡ trials_ahead pool k [] size difference [] 0 None
  trials-entered = cc
