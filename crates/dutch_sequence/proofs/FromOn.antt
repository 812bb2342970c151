-- The choices from a given one on: in an ascending list those that are not before it.
use Rattle.std.proofs.Common.{◌≡◌, ℕ, zero, suc, Bool, true, false, not, eqb, cond, List, [], ◌∷◌, ◌++◌, map, length, refl, sym, ◌∙◌, ap, subst, inl, inr, if◌then◌else◌}
use Rattle.std.specs.List.{filter}
use Rattle.std.proofs.lemmas.Bool.{cases_Bool, eq-eqb, eqb-true, and_parts, and_from, true≢false, not_from_true, not_from_false}
use Rattle.dutch_sequence.specs.Prelude.{is_same, from_on, IsIn, Plan}
use Rattle.dutch_sequence.proofs.HalfWalks.{Admitted}
use Rattle.dutch_sequence.proofs.Hinted.{Reaches}
use Rattle.dutch_sequence.proofs.Orders.{is_before-irreflexive, is_before-asymmetric, is_before-total, member_has}
use Rattle.dutch_sequence.proofs.ByKeys.{is_before, Ascends}

pub is_same-refl : (xs : List ℕ) → is_same xs xs ≡ true
is_same-refl [] = refl
is_same-refl (x ∷ xs) = and_from (eqb x x) (is_same xs xs) (eq-eqb x x refl) (is_same-refl xs)

pub is_same-true : (xs ys : List ℕ) → is_same xs ys ≡ true → xs ≡ ys
is_same-true [] [] same = refl
is_same-true [] (y ∷ ys) same = absurd (true≢false (sym same))
is_same-true (x ∷ xs) [] same = absurd (true≢false (sym same))
is_same-true (x ∷ xs) (y ∷ ys) same =
    let parts = and_parts (eqb x y) (is_same xs ys) same in
    ap (λ z. z ∷ xs) (eqb-true x y parts.0) ∙ ap (λ zs. y ∷ zs) (is_same-true xs ys parts.1)

-- a choice that is not before another by a key
abbrev pub is_late : (List ℕ → List ℕ) → List ℕ → List ℕ → Bool
is_late key choice other = not (is_before (key other) (key choice))

pub filter-each : {X : Type 0} (p : X → Bool) (xs : List X) → ((x : X) → IsIn x xs → p x ≡ true) → filter p xs ≡ xs
filter-each p [] each = refl
filter-each p (x ∷ xs) each =
    ap (λ b. cond b (x ∷ filter p xs) (filter p xs)) (each x (inl refl)) ∙ ap (λ rest. x ∷ rest) (filter-each p xs (λ y m. each y (inr m)))

pub elsewhere : (c x : List ℕ) (xs : List (List ℕ)) → is_same x c ≡ false → IsIn c (x ∷ xs) → IsIn c xs
elsewhere c x xs apart (inl same) = absurd (true≢false (sym (ap (is_same x) same ∙ is_same-refl x) ∙ apart))
elsewhere c x xs apart (inr m) = m

pub from_on-filter : (key : List ℕ → List ℕ) (c : List ℕ) (xs : List (List ℕ)) → Ascends key xs → IsIn c xs → from_on c xs ≡ filter (is_late key c) xs
from_on-filter key c [] ascends m = absurd m
from_on-filter key c (x ∷ xs) ascends m =
    elim (cases_Bool (is_same x c)) [
      | inl same ↦
          let is : x ≡ c = is_same-true x c same in
          ap (λ b. if b then x ∷ xs else from_on c xs) same
          ∙ sym
          (filter-each (is_late key c) (x ∷ xs)
          (λ y n. elim n [
            | inl first ↦ not_from_false (is_before (key y) (key c)) (ap (λ z. is_before (key z) (key c)) (first ∙ is) ∙ is_before-irreflexive (key c))
            | inr later ↦
                not_from_false (is_before (key y) (key c))
                (is_before-asymmetric (key c) (key y) (subst (λ z. is_before (key z) (key y) ≡ true) is (member_has (λ z. is_before (key x) (key z) ≡ true) xs ascends.0 y later)))
          ]))
      | inr apart ↦
          let there : IsIn c xs = elsewhere c x xs apart m in
          let before : is_before (key x) (key c) ≡ true = member_has (λ z. is_before (key x) (key z) ≡ true) xs ascends.0 c there in
          ap (λ b. if b then x ∷ xs else from_on c xs) apart
          ∙ from_on-filter key c xs ascends.1 there
          ∙ ap (λ b. cond b (x ∷ filter (is_late key c) xs) (filter (is_late key c) xs)) (sym (not_from_true (is_before (key x) (key c)) before))
    ]

-- where a map keeps the order of paths, those that are not before one become the choices that are not before its own
pub map-late : (key f : List ℕ → List ℕ) (hint : List ℕ) (xs : List (List ℕ)) → ((p : List ℕ) → IsIn p xs → is_before p hint ≡ is_before (key (f p)) (key (f hint))) → map f (filter (λ path. not (is_before path hint)) xs) ≡ filter (is_late key (f hint)) (map f xs)
map-late key f hint [] same = refl
map-late key f hint (x ∷ xs) same =
    let rest = map-late key f hint xs (λ p m. same p (inr m)) in
    ap (λ b. map f (cond (not b) (x ∷ filter (λ path. not (is_before path hint)) xs) (filter (λ path. not (is_before path hint)) xs))) (same x (inl refl))
    ∙ map-kept f (not (is_before (key (f x)) (key (f hint)))) x (filter (λ path. not (is_before path hint)) xs)
    ∙ ap (λ ys. cond (is_late key (f hint) (f x)) (f x ∷ ys) ys) rest
  where
    map-kept : (f : List ℕ → List ℕ) (b : Bool) (x : List ℕ) (ys : List (List ℕ)) → map f (cond b (x ∷ ys) ys) ≡ cond b (f x ∷ map f ys) (map f ys)
    map-kept f true x ys = refl
    map-kept f false x ys = refl

-- a map that keeps the order one way keeps it both ways
pub order-same : (key f : List ℕ → List ℕ) (xs : List (List ℕ)) → ((p q : List ℕ) → IsIn p xs → IsIn q xs → is_before p q ≡ true → is_before (key (f p)) (key (f q)) ≡ true) → (p q : List ℕ) → IsIn p xs → IsIn q xs → is_before p q ≡ is_before (key (f p)) (key (f q))
order-same key f xs keeps p q m n =
    elim (is_before-total p q) [
      | inl same ↦
          ap (λ z. is_before z q) same ∙ is_before-irreflexive q
          ∙ sym (ap (λ z. is_before (key (f z)) (key (f q))) same ∙ is_before-irreflexive (key (f q)))
      | inr (inl first) ↦ first ∙ sym (keeps p q m n first)
      | inr (inr second) ↦
          is_before-asymmetric q p second ∙ sym (is_before-asymmetric (key (f q)) (key (f p)) (keeps q p n m second))
    ]

-- a path that a search admits has the length of its places, and reaches the start of each
pub admitted-length : (plan : Plan) (open_places : ℕ) (beginning path : List ℕ) → Admitted plan open_places beginning path → length path ≡ open_places
admitted-length plan zero beginning path admitted = ap length admitted
admitted-length plan (suc open_places) beginning [] admitted = absurd admitted
admitted-length plan (suc open_places) beginning (x ∷ path) admitted = ap suc (admitted-length plan open_places (beginning ++ x ∷ []) path admitted.3)

pub admitted-reaches : (plan : Plan) (open_places : ℕ) (beginning path : List ℕ) → Admitted plan open_places beginning path → Reaches plan beginning path
admitted-reaches plan zero beginning path admitted = subst (Reaches plan beginning) (sym admitted) tt
admitted-reaches plan (suc open_places) beginning [] admitted = absurd admitted
admitted-reaches plan (suc open_places) beginning (x ∷ path) admitted = (admitted.0, admitted-reaches plan open_places (beginning ++ x ∷ []) path admitted.3)
