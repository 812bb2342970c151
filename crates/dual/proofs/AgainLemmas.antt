-- What is kept of a check that was made before, and rows that are made anew.
use Rattle.std.proofs.Common.{◌≡◌, ◌≢◌, ℕ, ◌+◌, ◌*◌, ◌^◌, ◌<◌, ◌≤◌, Bool, true, false, ◌&&◌, cond, nat_eq, List, [], ◌∷◌, All, length, filter, map, take, get_or, sum_by, inl, inr, refl, sym, ap, subst, ◌∙◌, arith}
use Rattle.std.proofs.lemmas.Bool.{cases_Bool, eqb-true, eq-eqb, lt-ltb, true≢false}
use Rattle.std.proofs.lemmas.List.Elements.{All-nil, All-cons, All-head, All-tail, All-filter, All-more, All-weaker, filter_passes}
use Rattle.std.proofs.lemmas.List.Sums.{sum_by-cons}
use Rattle.dual.specs.declared.table.MarkedSet.{MarkedSet}
use Rattle.dual.specs.declared.table.CertificateTable.{CertificateTable}
use Rattle.dual.specs.Prelude.{AllBear, AreAsBefore, AreKept, CanBear, Certificate, Costs, FloorTable, HasSlacks, IsChecked, bears, certificate_in, has_mark, is_marked, potential_in, priced_by, slack, slack_in, toll}
use Rattle.dual.proofs.FloorLemmas.{other_row}

-- ---- a pair of two who are as before

-- in no set a player pays for none
pays_nothing : (sets : List MarkedSet) (u v : ℕ) → All (λ set. has_mark set u ≡ false) sets → sum_by (toll (u, v)) (map priced_by sets) ≡ 0
pays_nothing [] u v outside = refl
pays_nothing (set ∷ sets) u v outside =
    let here : toll (u, v) (priced_by set) ≡ 0 =
    ap (λ b. cond (b && has_mark set v) set.price 0) (All-head (λ s. has_mark s u ≡ false) set sets outside) in
    omega (
      arith,
      here,
      pays_nothing sets u v (All-tail (λ s. has_mark s u ≡ false) set sets outside),
      sum_by-cons (toll (u, v)) (priced_by set) (map priced_by sets),
    )

module _ (before now : Costs) (old new : CertificateTable) (floor : FloorTable) (players : List ℕ) (turned marks : List Bool) where
  pub still_kept : IsChecked before players (certificate_in old) floor → AreAsBefore turned before now → new.given ≡ old.given
      → All (λ v. v < floor.size) players
      → ((v : ℕ) → is_marked marks v ≡ false → is_marked turned v ≡ false)
      → ((v : ℕ) → is_marked marks v ≡ false → potential_in new v ≡ potential_in old v)
      → ((v : ℕ) → is_marked marks v ≡ false → All (λ set. has_mark set v ≡ false) new.sets.items)
      → ((v : ℕ) → is_marked marks v ≡ false → All (λ set. has_mark set v ≡ false) old.sets.items)
      → AreKept now (certificate_in new) players marks floor.size floor.slacks
  still_kept checked others given below turns potential sets sets_before = λ k d lt j e there first second met.
      let u : ℕ = get_or players k d in
      let v : ℕ = get_or players j e in
      let same = others u v (turns u first) (turns v second) met in
      let bear : bears now (certificate_in new) (u, v) ≡ bears before (certificate_in old) (u, v) =
      omega (arith, same.1, given, pays_nothing new.sets.items u v (sets u first), pays_nothing old.sets.items u v (sets_before u first)) in
      let fits = checked.pairs k d lt j e there same.0 in
      let told = checked.tells k d lt j e there same.0 in
      let slacks : slack before (certificate_in old) (u, v) ≡ slack now (certificate_in new) (u, v) =
      omega (arith, bear, potential u first, potential v second) in
      let place : get_or floor.slacks (u * floor.size + v) 0 ≡ slack_in floor (u, v) =
      sym (ap (λ b. cond b (get_or floor.slacks (u * floor.size + v) 0) 0) (lt-ltb v floor.size (below j e there))) in (
        (subst (λ n. n < 2 ^ 1024) (sym bear) (checked.below k d lt j e there same.0), omega (arith, fits, bear, potential u first, potential v second)),
        place ∙ told ∙ slacks,
      )

-- ---- rows that are made anew

-- what holds of all who pass a test holds of each if it passes
of_passed : (P : ℕ → Type 0) (p : ℕ → Bool) (xs : List ℕ) → All P (filter p xs) → All (λ x. p x ≡ true → P x) xs
of_passed P p [] h = All-nil (λ x. p x ≡ true → P x)
of_passed P p (x ∷ xs) h = elim (cases_Bool (p x)) [
  | inl passes ↦
      let here : All P (x ∷ filter p xs) = subst (λ b. All P (cond b (x ∷ filter p xs) (filter p xs))) passes h in
      All-cons (λ x. p x ≡ true → P x) x xs (λ _. All-head P x (filter p xs) here) (of_passed P p xs (All-tail P x (filter p xs) here))
  | inr fails ↦
      let here : All P (filter p xs) = subst (λ b. All P (cond b (x ∷ filter p xs) (filter p xs))) fails h in
      All-cons (λ x. p x ≡ true → P x) x xs (λ is. absurd (true≢false (sym is ∙ fails))) (of_passed P p xs here)
]

-- with whom the pairs of a player are asked about
abbrev pub mates : List ℕ → List Bool → ℕ → List ℕ
mates players marks a = cond (is_marked marks a) players (filter (is_marked marks) players)

pub mates_are : (players : List ℕ) (marks : List Bool) (a : ℕ) {read again : List Bool} {found anew chosen : List ℕ} → read ≡ marks
    → found ≡ filter (is_marked read) players → again ≡ marks → anew ≡ found → chosen ≡ cond (is_marked again a) players anew
    → chosen ≡ mates players marks a
mates_are players marks a {read} {again} {found} {anew} first is second whole e =
    let anew_is : anew ≡ filter (is_marked marks) players = whole ∙ is ∙ ap (λ m. filter (is_marked m) players) first in
    e ∙ ap (λ m. cond (is_marked m a) players anew) second ∙ ap (λ xs. cond (is_marked marks a) players xs) anew_is

module _ (players : List ℕ) (marks : List Bool) (P : ℕ → Type 0) (a : ℕ) where
  abbrev Among : Bool → Type 0
  Among b = All P (cond b players (filter (is_marked marks) players))

  pub all_mates : All P players → All P (mates players marks a)
  all_mates h = elim (cases_Bool (is_marked marks a)) [
    | inl passes ↦ subst Among (sym passes) h
    | inr fails ↦ subst Among (sym fails) (All-filter (is_marked marks) P players h)
  ]

  -- what holds of a player's mates holds of all if it is kept of the others
  of_mates : All P (mates players marks a) → (is_marked marks a ≡ false → All (λ v. is_marked marks v ≡ false → P v) players) → All P players
  of_mates h kept = elim (cases_Bool (is_marked marks a)) [
    | inl passes ↦ subst Among passes h
    | inr fails ↦
        let passed = of_passed P (is_marked marks) players (subst Among fails h) in
        λ k d lt. elim (cases_Bool (is_marked marks (get_or players k d))) [
          | inl with_mark ↦ passed k d lt with_mark
          | inr without ↦ kept fails k d lt without
        ]
  ]

-- no mate of a player without a mark is another one
no_mate : (players : List ℕ) (marks : List Bool) (a v : ℕ) → is_marked marks a ≡ false → is_marked marks v ≡ false → All (λ w. w ≢ v) (mates players marks a)
no_mate players marks a v first second =
    subst (Among players marks (λ w. w ≢ v) a) (sym first)
    (All-weaker (λ w. is_marked marks w ≡ true) (λ w. w ≢ v) (λ w has is. true≢false (sym has ∙ ap (is_marked marks) is ∙ second))
    (filter (is_marked marks) players) (filter_passes (is_marked marks) players))

module _ (costs : Costs) (certificate : Certificate) (size : ℕ) (players : List ℕ) (below : All (λ v. v < size) players) (marks : List Bool) where
  abbrev Row : List ℕ → ℕ → Type 0
  Row slacks u = HasSlacks costs certificate u players (u * size) slacks

  abbrev Bears : ℕ → Type 0
  Bears u = AllBear costs certificate (2 ^ 1024) u players

  module _ (i start : ℕ) (old new : List ℕ) (lt : i < length players) (begins : start ≡ get_or players i 0 * size)
      (others : (k : ℕ) → All (λ v. ¬ (start + v ≡ k)) (mates players marks (get_or players i 0)) → get_or new k 0 ≡ get_or old k 0)
      (kept : AreKept costs certificate players marks size old) where
    abbrev a : ℕ
    a = get_or players i 0

    -- places of other rows, and in the row those of players without a mark if its player has none, are as they were
    in_other_row : (u v : ℕ) → v < size → a ≢ u → get_or new (u * size + v) 0 ≡ get_or old (u * size + v) 0
    in_other_row u v fits ne =
        others (u * size + v)
        (All-weaker (λ w. w < size) (λ w. ¬ (start + w ≡ u * size + v))
        (λ w less is. other_row a u w v size less fits ne (ap (λ n. n + w) (sym begins) ∙ is)) (mates players marks a) (all_mates players marks (λ w. w < size) a below))

    in_row : (v : ℕ) → is_marked marks a ≡ false → is_marked marks v ≡ false → get_or new (a * size + v) 0 ≡ get_or old (a * size + v) 0
    in_row v first second =
        others (a * size + v)
        (All-weaker (λ w. w ≢ v) (λ w. ¬ (start + w ≡ a * size + v)) (λ w ne is. ne (omega (arith, is, begins))) (mates players marks a) (no_mate players marks a v first second))

    pub bears_whole : AllBear costs certificate (2 ^ 1024) a (mates players marks a) → Bears a
    bears_whole h = of_mates players marks (λ v. costs.meets a v ≡ true → CanBear costs certificate (2 ^ 1024) a v) a h
        (λ first j e there second met. (kept i 0 lt j e there first second met).0)

    row_whole : HasSlacks costs certificate a (mates players marks a) start new → Row new a
    row_whole h = of_mates players marks (λ v. costs.meets a v ≡ true → get_or new (a * size + v) 0 ≡ slack costs certificate (a, v)) a
        (subst (λ n. HasSlacks costs certificate a (mates players marks a) n new) begins h)
        (λ first j e there second met. in_row (get_or players j e) first second ∙ (kept i 0 lt j e there first second met).1)

    row_kept : Row new a → (u : ℕ) → Row old u → Row new u
    row_kept row u h = elim (cases_Bool (nat_eq a u)) [
      | inl here ↦ subst (Row new) (eqb-true a u here) row
      | inr other ↦ λ k d there met. in_other_row u (get_or players k d) (below k d there) (λ is. cc (eq-eqb a u is, other)) ∙ h k d there met
    ]

    pub rows_more : HasSlacks costs certificate a (mates players marks a) start new → All (Row old) (take i players) → All (Row new) (take (i + 1) players)
    rows_more h told =
        let row = row_whole h in
        All-more (Row new) players i 0 lt (All-weaker (Row old) (Row new) (row_kept row) (take i players) told) row

    pub kept_still : AreKept costs certificate players marks size new
    kept_still = λ k d here j e there first second met.
        let u : ℕ = get_or players k d in
        let v : ℕ = get_or players j e in
        let was = kept k d here j e there first second met in
        let same : get_or new (u * size + v) 0 ≡ get_or old (u * size + v) 0 =
        elim (cases_Bool (nat_eq a u)) [
          | inl is ↦
              let e : a ≡ u = eqb-true a u is in
              subst (λ n. get_or new (n * size + v) 0 ≡ get_or old (n * size + v) 0) e (in_row v (ap (is_marked marks) e ∙ first) second)
          | inr other ↦ in_other_row u v (below j e there) (λ is. cc (eq-eqb a u is, other))
        ] in
        (was.0, same ∙ was.1)
