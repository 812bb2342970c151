-- What a search leaves out: all below a beginning goes on from it, so it is pruned if all that begins so is.
use Rattle.std.proofs.Common.{◌≡◌, ℕ, zero, suc, ◌-◌, Bool, true, false, cond, List, [], ◌∷◌, ◌++◌, length, Option, refl, sym, ◌∙◌, ap, append_assoc, arith, subst}
use Rattle.std.specs.List.{flat_map, AllByRecursion}
use Rattle.std.proofs.lemmas.List.{append-nil}
use Rattle.dutch_sequence.specs.Prelude.{numbers_from, GoesOn, IsIn, IsPast, Passes, Plan, Event, hits, entry, below, after, ahead, IsSpent}
use Rattle.dutch_sequence.specs.Trials.{Tried}
use Rattle.dutch_sequence.proofs.Found.{hits-append}
use Rattle.dutch_sequence.proofs.Skipping.{all-append, all-of, all-members}
use Rattle.dutch_sequence.proofs.FoundPaths.{numbers-in}

-- and of what follows from it
pub all-each : {T : Type 0} (P Q : T → Type 0) → ((x : T) → P x → Q x) → (xs : List T) → AllByRecursion P xs → AllByRecursion Q xs
all-each P Q each [] all = tt
all-each P Q each (x ∷ xs) all = (each x all.0, all-each P Q each xs all.1)

-- what goes on from a longer path goes on from it
goes-on-shorter : (path : List ℕ) (number : ℕ) (c : List ℕ) → GoesOn (path ++ number ∷ []) c → GoesOn path c
goes-on-shorter path number c on = record { rest = number ∷ on.rest; is = on.is ∙ append_assoc path (number ∷ []) on.rest }

module _ (P : List ℕ → Type 0) where
  -- what holds of all paths that a trial brings, if the number fits
  brought-cond : (beyond : Option ℕ) (fits : Bool) (events : List Event) → AllByRecursion P (hits events) → AllByRecursion P (hits (Tried beyond ∷ cond fits events []))
  brought-cond beyond true events all = all
  brought-cond beyond false events all = tt

  -- and of all that the trials of some numbers bring
  brought-each : (brings : ℕ → List Event) (numbers : List ℕ) → AllByRecursion (λ tried. AllByRecursion P (hits (brings tried))) numbers → AllByRecursion P (hits (flat_map brings numbers))
  brought-each brings [] each = tt
  brought-each brings (x ∷ numbers) each =
      subst (AllByRecursion P) (sym (hits-append (brings x) (flat_map brings numbers)))
      (all-append P (hits (brings x)) (hits (flat_map brings numbers)) each.0 (brought-each brings numbers each.1))

-- each whole path below a path goes on from it
pub below-beginning : (plan : Plan) (open_places : ℕ) (path : List ℕ) (number : ℕ) → AllByRecursion (GoesOn path) (hits (below plan open_places path number))
unfolding below
below-beginning plan zero path zero = (record { rest = []; is = sym (append-nil path) }, tt)
below-beginning plan zero path (suc number) = tt
below-beginning plan (suc open_places) path number =
    let brings : ℕ → List Event = λ tried. Tried (plan.beyond path tried) ∷ cond (plan.fits path tried) (below plan open_places (path ++ tried ∷ []) (entry plan open_places (path ++ tried ∷ []))) [] in
    brought-each (GoesOn path) brings (numbers_from number (plan.stop path - number))
    (all-of (λ tried. AllByRecursion (GoesOn path) (hits (brings tried))) (numbers_from number (plan.stop path - number))
    (λ tried.
    brought-cond (GoesOn path) (plan.beyond path tried) (plan.fits path tried) (below plan open_places (path ++ tried ∷ []) (entry plan open_places (path ++ tried ∷ [])))
    (all-each (GoesOn (path ++ tried ∷ [])) (GoesOn path) (goes-on-shorter path tried) (hits (below plan open_places (path ++ tried ∷ []) (entry plan open_places (path ++ tried ∷ []))))
    (below-beginning plan open_places (path ++ tried ∷ []) (entry plan open_places (path ++ tried ∷ []))))))

-- ahead of a path is what is below it, and then what is ahead once nothing is left below it
ahead-left : (plan : Plan) (path : List ℕ) (number end : ℕ) → IsSpent plan path end → ahead plan path number ≡ below plan (plan.places - length path) path number ++ ahead plan path end
unfolding ahead
ahead-left plan path number end spent =
    ap (λ none. below plan (plan.places - length path) path number ++ (none ++ after plan plan.places [] path)) (sym spent)

-- so where all that begins so is pruned, what is below a path may be left out
pub pruned-left : (plan : Plan) (Pruned : List ℕ → Type 0) (path : List ℕ) (number end : ℕ) → IsSpent plan path end → ((c : List ℕ) → GoesOn path c → Pruned c) → Passes Pruned (hits (ahead plan path number)) (hits (ahead plan path end))
pruned-left plan Pruned path number end spent pruned = (
  hits (below plan (plan.places - length path) path number),
  ap hits (ahead-left plan path number end spent) ∙ hits-append (below plan (plan.places - length path) path number) (ahead plan path end),
  all-each (GoesOn path) Pruned pruned (hits (below plan (plan.places - length path) path number)) (below-beginning plan (plan.places - length path) path number),
)

-- what is below a beginning from the next number on is past each path that has the number there
past-below : (plan : Plan) (open_places : ℕ) (beginning : List ℕ) (number : ℕ) (rest path : List ℕ) → path ≡ beginning ++ number ∷ rest → AllByRecursion (IsPast plan path) (hits (below plan (suc open_places) beginning (suc number)))
unfolding below
past-below plan open_places beginning number rest path is =
    let count : ℕ = plan.stop beginning - suc number in
    let brings : ℕ → List Event = λ tried. Tried (plan.beyond beginning tried) ∷ cond (plan.fits beginning tried) (below plan open_places (beginning ++ tried ∷ []) (entry plan open_places (beginning ++ tried ∷ []))) [] in
    let each : (tried : ℕ) → IsIn tried (numbers_from (suc number) count) → AllByRecursion (IsPast plan path) (hits (brings tried)) =
    λ tried m.
    let range = numbers-in tried (suc number) count m in
    let longer = below plan open_places (beginning ++ tried ∷ []) (entry plan open_places (beginning ++ tried ∷ [])) in
    brought-cond (IsPast plan path) (plan.beyond beginning tried) (plan.fits beginning tried) longer
    (all-each (GoesOn (beginning ++ tried ∷ [])) (IsPast plan path)
    (λ c on. record {
      front = beginning;
      number = number;
      rest = rest;
      next = tried;
      others = on.rest;
      here = is;
      there = on.is ∙ append_assoc beginning (tried ∷ []) on.rest;
      above = omega (arith, range.0);
      tried = omega (arith, range.0, range.1);
    })
    (hits longer) (below-beginning plan open_places (beginning ++ tried ∷ []) (entry plan open_places (beginning ++ tried ∷ [])))) in
    brought-each (IsPast plan path) brings (numbers_from (suc number) count)
    (all-members (λ tried. AllByRecursion (IsPast plan path) (hits (brings tried))) (numbers_from (suc number) count) each)

past-after : (plan : Plan) (open_places : ℕ) (beginning rest path : List ℕ) → path ≡ beginning ++ rest → AllByRecursion (IsPast plan path) (hits (after plan open_places beginning rest))
unfolding after
past-after plan zero beginning rest path is = tt
past-after plan (suc open_places) beginning [] path is = tt
past-after plan (suc open_places) beginning (number ∷ rest) path is =
    let later = after plan open_places (beginning ++ number ∷ []) rest in
    let here = below plan (suc open_places) beginning (suc number) in
    subst (AllByRecursion (IsPast plan path)) (sym (hits-append later here))
    (all-append (IsPast plan path) (hits later) (hits here)
    (past-after plan open_places (beginning ++ number ∷ []) rest path (is ∙ sym (append_assoc beginning (number ∷ []) rest)))
    (past-below plan open_places beginning number rest path is))

-- so where nothing is left below a path, all that is ahead is past it
pub past-left : (plan : Plan) (path : List ℕ) (end : ℕ) → IsSpent plan path end → AllByRecursion (IsPast plan path) (hits (ahead plan path end))
unfolding ahead
past-left plan path end spent =
    subst (λ none. AllByRecursion (IsPast plan path) (hits (none ++ after plan plan.places [] path))) (sym spent)
    (past-after plan plan.places [] path path refl)
