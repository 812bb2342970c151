-- Two lists in one strict order that have the same members are one list.
use Rattle.std.proofs.Common.{◌≡◌, ◌⊎◌, inl, inr, Bool, true, false, cond, List, [], ◌∷◌, refl, sym, ap, ◌∙◌, subst, map, Option, Some, None}
use Rattle.std.specs.Cmp.{IsStrictWeakOrder}
use Rattle.std.specs.List.{AllByRecursion, IsDistinct, cons_option, filter_map}
use Rattle.std.proofs.lemmas.Bool.{true≢false}
use Rattle.trf16_report.specs.Prelude.{placed_by, ranked_by, NoneBefore, IsRankedBy}

-- one is a member of some
abbrev pub In : {T : Type 0} → T → List T → Type 0
In x [] = ⊥
In x (y ∷ ys) = (y ≡ x) ⊎ In x ys

-- one goes before each of some
abbrev pub Ahead : {T : Type 0} → (T → T → Bool) → T → List T → Type 0
Ahead before x [] = Unit {0}
Ahead before x (y ∷ ys) = (before x y ≡ true) × Ahead before x ys

-- each goes before all behind it
abbrev pub IsStrict : {T : Type 0} → (T → T → Bool) → List T → Type 0
IsStrict before [] = Unit {0}
IsStrict before (x ∷ xs) = Ahead before x xs × IsStrict before xs

ahead-in : {T : Type 0} (before : T → T → Bool) (x z : T) (ys : List T) → Ahead before x ys → In z ys → before x z ≡ true
ahead-in before x z [] ahead member = absurd member
ahead-in before x z (y ∷ ys) ahead (inl e) = subst (λ w. before x w ≡ true) e ahead.0
ahead-in before x z (y ∷ ys) ahead (inr member) = ahead-in before x z ys ahead.1 member

module _ {T : Type 0} (before : T → T → Bool) (order : IsStrictWeakOrder before) where
  -- nothing goes before itself
  not_itself : (x : T) → before x x ≡ true → ⊥
  not_itself x h = true≢false (sym h ∙ order.one_way x x h)

  first_same : (x y : T) (xs ys : List T) → Ahead before x xs → Ahead before y ys → In x (y ∷ ys) → In y (x ∷ xs) → x ≡ y
  first_same x y xs ys sx sy (inl e) back = sym e
  first_same x y xs ys sx sy (inr there) (inl e) = e
  first_same x y xs ys sx sy (inr there) (inr here) =
      absurd (true≢false (sym (ahead-in before x y xs sx here) ∙ order.one_way y x (ahead-in before y x ys sy there)))

  behind_first : (x y z : T) (xs ys : List T) → Ahead before x xs → x ≡ y → In z xs → In z (y ∷ ys) → In z ys
  behind_first x y z xs ys sx same member (inl e) = absurd (not_itself x (subst (λ w. before x w ≡ true) (sym (same ∙ e)) (ahead-in before x z xs sx member)))
  behind_first x y z xs ys sx same member (inr later) = later

  pub same_list : (xs ys : List T) → IsStrict before xs → IsStrict before ys → ((z : T) → In z xs → In z ys) → ((z : T) → In z ys → In z xs) → xs ≡ ys
  same_list [] [] sx sy into back = refl
  same_list [] (y ∷ ys) sx sy into back = absurd (back y (inl refl))
  same_list (x ∷ xs) [] sx sy into back = absurd (into x (inl refl))
  same_list (x ∷ xs) (y ∷ ys) sx sy into back =
      let same : x ≡ y = first_same x y xs ys sx.0 sy.0 (into x (inl refl)) (back y (inl refl)) in
      let rest : xs ≡ ys = same_list xs ys sx.1 sy.1 (λ z m. behind_first x y z xs ys sx.0 same m (into z (inr m)))
      (λ z m. behind_first y x z ys xs sy.0 (sym same) m (back z (inr m))) in
      ap (λ t. x ∷ t) rest ∙ ap (λ h. h ∷ ys) same

-- ---- members of lists that are made

pub made-in : {A B : Type 0} (h : A → Option B) (xs : List A) (x : A) (r : B) → In x xs → h x ≡ Some r → In r (filter_map h xs)
made-in h [] x r member e = absurd member
made-in {B = B} h (y ∷ ys) x r (inl same) e = subst (λ (o : Option B). In r (cons_option o (filter_map h ys))) (sym (ap h same ∙ e)) (inl refl)
made-in {B = B} h (y ∷ ys) x r (inr member) e = by (h y) (made-in h ys x r member e)
  where
    by : (o : Option B) → In r (filter_map h ys) → In r (cons_option o (filter_map h ys))
    by None later = later
    by (Some z) later = inr later

pub in-made : {A B : Type 0} (h : A → Option B) (xs : List A) (r : B) → In r (filter_map h xs) → (x : A) × In x xs × (h x ≡ Some r)
in-made h [] r member = absurd member
in-made {A = A} {B = B} h (y ∷ ys) r member = by (h y) refl member (λ m. in-made h ys r m)
  where
    by : (o : Option B) → h y ≡ o → In r (cons_option o (filter_map h ys)) → (In r (filter_map h ys) → (x : A) × In x ys × (h x ≡ Some r))
        → (x : A) × In x (y ∷ ys) × (h x ≡ Some r)
    by None e member later = let found = later member in (found.0, inr found.1, found.2)
    by (Some z) e (inl same) later = (y, inl refl, e ∙ ap Some same)
    by (Some z) e (inr member) later = let found = later member in (found.0, inr found.1, found.2)

pub map-in : {A B : Type 0} (f : A → B) (xs : List A) (x : A) → In x xs → In (f x) (map f xs)
map-in f [] x member = absurd member
map-in f (y ∷ ys) x (inl same) = inl (ap f same)
map-in f (y ∷ ys) x (inr member) = inr (map-in f ys x member)

pub in-map : {A B : Type 0} (f : A → B) (xs : List A) (r : B) → In r (map f xs) → (x : A) × In x xs × (f x ≡ r)
in-map f [] r member = absurd member
in-map f (y ∷ ys) r (inl same) = (y, inl refl, same)
in-map f (y ∷ ys) r (inr member) = let found = in-map f ys r member in (found.0, inr found.1, found.2)

placed-in : {T : Type 0} (before : T → T → Bool) (x z : T) (xs : List T) → (x ≡ z) ⊎ In z xs → In z (placed_by before x xs)
placed-in before x z [] (inl e) = inl e
placed-in before x z [] (inr member) = absurd member
placed-in before x z (y ∷ ys) m = by (before y x) m (λ n. placed-in before x z ys n)
  where
    by : (t : Bool) → (x ≡ z) ⊎ In z (y ∷ ys) → ((x ≡ z) ⊎ In z ys → In z (placed_by before x ys)) → In z (cond t (y ∷ placed_by before x ys) (x ∷ y ∷ ys))
    by true (inl e) later = inr (later (inl e))
    by true (inr (inl e)) later = inl e
    by true (inr (inr member)) later = inr (later (inr member))
    by false (inl e) later = inl e
    by false (inr member) later = inr member

in-placed : {T : Type 0} (before : T → T → Bool) (x z : T) (xs : List T) → In z (placed_by before x xs) → (x ≡ z) ⊎ In z xs
in-placed before x z [] (inl e) = inl e
in-placed before x z [] (inr member) = absurd member
in-placed before x z (y ∷ ys) m = by (before y x) m (λ n. in-placed before x z ys n)
  where
    deeper : (x ≡ z) ⊎ In z ys → (x ≡ z) ⊎ In z (y ∷ ys)
    deeper (inl e) = inl e
    deeper (inr member) = inr (inr member)

    by : (t : Bool) → In z (cond t (y ∷ placed_by before x ys) (x ∷ y ∷ ys)) → (In z (placed_by before x ys) → (x ≡ z) ⊎ In z ys) → (x ≡ z) ⊎ In z (y ∷ ys)
    by true (inl e) later = inr (inl e)
    by true (inr member) later = deeper (later member)
    by false (inl e) later = inl e
    by false (inr member) later = inr member

pub ranked-in : {T : Type 0} (before : T → T → Bool) (xs : List T) (z : T) → In z xs → In z (ranked_by before xs)
ranked-in before [] z member = absurd member
ranked-in before (x ∷ xs) z (inl e) = placed-in before x z (ranked_by before xs) (inl e)
ranked-in before (x ∷ xs) z (inr member) = placed-in before x z (ranked_by before xs) (inr (ranked-in before xs z member))

pub in-ranked : {T : Type 0} (before : T → T → Bool) (xs : List T) (z : T) → In z (ranked_by before xs) → In z xs
in-ranked before [] z member = absurd member
in-ranked before (x ∷ xs) z member = by (in-placed before x z (ranked_by before xs) member) (λ m. in-ranked before xs z m)
  where
    by : (x ≡ z) ⊎ In z (ranked_by before xs) → (In z (ranked_by before xs) → In z xs) → In z (x ∷ xs)
    by (inl e) later = inl e
    by (inr m) later = inr (later m)

-- ---- what is ranked, and has no two that are the same, is in strict order

module _ {T : Type 0} (before same : T → T → Bool) (total : (x y : T) → before y x ≡ false → same x y ≡ false → before x y ≡ true) where
  ahead_from : (x : T) (rest : List T) → NoneBefore before x rest → AllByRecursion (λ y. same x y ≡ false) rest → Ahead before x rest
  ahead_from x [] none other = tt
  ahead_from x (y ∷ ys) none other = (total x y none.0 other.0, ahead_from x ys none.1 other.1)

  pub strict_from : (xs : List T) → IsRankedBy before xs → IsDistinct same xs → IsStrict before xs
  unfolding IsDistinct
  strict_from [] ranks distinct = tt
  strict_from (x ∷ xs) ranks distinct = (ahead_from x xs ranks.0 distinct.0, strict_from xs ranks.1 distinct.1)
