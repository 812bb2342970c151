-- What a search finds are the paths that it admits, in ascending order.
use Rattle.std.proofs.Common.{◌≡◌, ℕ, zero, suc, ◌+◌, ◌-◌, ◌<◌, ◌≤◌, Bool, true, false, cond, List, [], ◌∷◌, ◌++◌, refl, sym, ◌∙◌, ap, append_assoc, arith, subst, inl, inr}
use Rattle.std.specs.List.{flat_map}
use Rattle.std.proofs.lemmas.List.{append-nil}
use Rattle.std.proofs.lemmas.Bool.{cases_eq}
use Rattle.dutch_sequence.specs.Prelude.{numbers_from, Plan, IsIn}
use Rattle.dutch_sequence.proofs.HalfWalks.{Admitted}
use Rattle.dutch_sequence.proofs.Found.{found, found-zero, found-suc}
use Rattle.dutch_sequence.proofs.Orders.{IsIn-flat_map, flat_map-IsIn, Ascends-append, is_before-lower, is_before-equal}
use Rattle.dutch_sequence.proofs.ByKeys.{is_before, Ascends}

pub numbers-in : (x first count : ℕ) → IsIn x (numbers_from first count) → (first ≤ x) × (x < first + count)
numbers-in x first zero m = absurd m
numbers-in x first (suc count) (inl same) = (omega arith, omega arith)
numbers-in x first (suc count) (inr m) = let rest = numbers-in x (suc first) count m in (omega arith, omega arith)

pub in-numbers : (x first count : ℕ) → first ≤ x → x < first + count → IsIn x (numbers_from first count)
in-numbers x first zero from below = absurd (omega arith)
in-numbers x first (suc count) from below =
    elim (cases_eq x first) [
      | inl same ↦ inl same
      | inr other ↦ inr (in-numbers x (suc first) count (let h : first < x = omega (arith, other) in omega arith) (omega arith))
    ]

in-cond : (b : Bool) (c : List ℕ) (paths : List (List ℕ)) → IsIn c (cond b paths []) → (b ≡ true) × IsIn c paths
in-cond true c paths m = (refl, m)
in-cond false c paths m = absurd m

cond-in : (b : Bool) (c : List ℕ) (paths : List (List ℕ)) → b ≡ true → IsIn c paths → IsIn c (cond b paths [])
cond-in b c paths e m = subst (λ b. IsIn c (cond b paths [])) (sym e) m

-- what is found goes on from its beginning, as the search admits
pub found-admitted : (plan : Plan) (open_places : ℕ) (beginning c : List ℕ) → IsIn c (found plan open_places beginning) → (path : List ℕ) × (c ≡ beginning ++ path) × Admitted plan open_places beginning path
found-admitted plan zero beginning c m =
    elim (subst (IsIn c) (found-zero plan beginning) m) [
      | inl same ↦ ([], same ∙ sym (append-nil beginning), refl)
      | inr none ↦ absurd none
    ]
found-admitted plan (suc open_places) beginning c m =
    let at = IsIn-flat_map (λ tried. cond (plan.fits beginning tried) (found plan open_places (beginning ++ tried ∷ [])) []) c (numbers_from (plan.start beginning) (plan.stop beginning - plan.start beginning)) (subst (IsIn c) (found-suc plan open_places beginning) m) in
    let range = numbers-in at.0 (plan.start beginning) (plan.stop beginning - plan.start beginning) at.1 in
    let fit = in-cond (plan.fits beginning at.0) c (found plan open_places (beginning ++ at.0 ∷ [])) at.2 in
    let rest = found-admitted plan open_places (beginning ++ at.0 ∷ []) c fit.1 in
    (at.0 ∷ rest.0, rest.1 ∙ append_assoc beginning (at.0 ∷ []) rest.0, (range.0, omega arith, fit.0, rest.2))

pub admitted-found : (plan : Plan) (open_places : ℕ) (beginning path : List ℕ) → Admitted plan open_places beginning path → IsIn (beginning ++ path) (found plan open_places beginning)
admitted-found plan zero beginning path admitted =
    subst (λ c. IsIn c (found plan zero beginning)) (sym (ap (λ xs. beginning ++ xs) admitted ∙ append-nil beginning)) (subst (IsIn beginning) (sym (found-zero plan beginning)) (inl refl))
admitted-found plan (suc open_places) beginning [] admitted = absurd admitted
admitted-found plan (suc open_places) beginning (x ∷ path) admitted =
    subst (IsIn (beginning ++ x ∷ path)) (sym (found-suc plan open_places beginning))
    (flat_map-IsIn (λ tried. cond (plan.fits beginning tried) (found plan open_places (beginning ++ tried ∷ [])) []) (beginning ++ x ∷ path) x (numbers_from (plan.start beginning) (plan.stop beginning - plan.start beginning))
    (in-numbers x (plan.start beginning) (plan.stop beginning - plan.start beginning) admitted.0 (omega arith))
    (cond-in (plan.fits beginning x) (beginning ++ x ∷ path) (found plan open_places (beginning ++ x ∷ [])) admitted.2
    (subst (λ c. IsIn c (found plan open_places (beginning ++ x ∷ []))) (append_assoc beginning (x ∷ []) path) (admitted-found plan open_places (beginning ++ x ∷ []) path admitted.3))))

-- a common beginning decides nothing
pub is_before-beginning : (beginning xs ys : List ℕ) → is_before (beginning ++ xs) (beginning ++ ys) ≡ is_before xs ys
is_before-beginning [] xs ys = refl
is_before-beginning (x ∷ beginning) xs ys = is_before-equal x (beginning ++ xs) (beginning ++ ys) ∙ is_before-beginning beginning xs ys

Ascends-cond : (b : Bool) (paths : List (List ℕ)) → Ascends (λ path. path) paths → Ascends (λ path. path) (cond b paths [])
Ascends-cond true paths p = p
Ascends-cond false paths p = tt

-- the paths with each of some rising numbers next ascend, if those with one do
ascends_from : (plan : Plan) (open_places : ℕ) (beginning : List ℕ) → ((tried : ℕ) → Ascends (λ path. path) (found plan open_places (beginning ++ tried ∷ []))) → (first count : ℕ) → Ascends (λ path. path) (flat_map (λ tried. cond (plan.fits beginning tried) (found plan open_places (beginning ++ tried ∷ [])) []) (numbers_from first count))
ascends_from plan open_places beginning each first zero = tt
ascends_from plan open_places beginning each first (suc count) =
    Ascends-append (λ path. path) (cond (plan.fits beginning first) (found plan open_places (beginning ++ first ∷ [])) [])
    (flat_map (λ tried. cond (plan.fits beginning tried) (found plan open_places (beginning ++ tried ∷ [])) []) (numbers_from (suc first) count))
    (Ascends-cond (plan.fits beginning first) (found plan open_places (beginning ++ first ∷ [])) (each first))
    (ascends_from plan open_places beginning each (suc first) count)
    (λ a b m n.
    let here = found-admitted plan open_places (beginning ++ first ∷ []) a (in-cond (plan.fits beginning first) a (found plan open_places (beginning ++ first ∷ [])) m).1 in
    let later = IsIn-flat_map (λ tried. cond (plan.fits beginning tried) (found plan open_places (beginning ++ tried ∷ [])) []) b (numbers_from (suc first) count) n in
    let there = found-admitted plan open_places (beginning ++ later.0 ∷ []) b (in-cond (plan.fits beginning later.0) b (found plan open_places (beginning ++ later.0 ∷ [])) later.2).1 in
    let above : first < later.0 = omega (arith, (numbers-in later.0 (suc first) count later.1).0) in
    subst (λ z. is_before z b ≡ true) (sym (here.1 ∙ append_assoc beginning (first ∷ []) here.0))
    (subst (λ z. is_before (beginning ++ first ∷ here.0) z ≡ true) (sym (there.1 ∙ append_assoc beginning (later.0 ∷ []) there.0))
    (is_before-beginning beginning (first ∷ here.0) (later.0 ∷ there.0) ∙ is_before-lower first later.0 here.0 there.0 above)))

pub found-ascends : (plan : Plan) (open_places : ℕ) (beginning : List ℕ) → Ascends (λ path. path) (found plan open_places beginning)
found-ascends plan zero beginning = subst (Ascends (λ path. path)) (sym (found-zero plan beginning)) (tt, tt)
found-ascends plan (suc open_places) beginning =
    subst (Ascends (λ path. path)) (sym (found-suc plan open_places beginning))
    (ascends_from plan open_places beginning (λ tried. found-ascends plan open_places (beginning ++ tried ∷ [])) (plan.start beginning) (plan.stop beginning - plan.start beginning))
