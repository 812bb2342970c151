-- What a search finds below a path, and how many trials it makes there.
use Rattle.std.proofs.Common.{◌≡◌, ℕ, zero, suc, ◌+◌, ◌-◌, ◌*◌, Bool, true, false, cond, List, [], ◌∷◌, ◌++◌, length, refl, sym, ◌∙◌, ap, arith, length-append, Option}
use Rattle.std.specs.List.{flat_map}
use Rattle.std.proofs.lemmas.List.{append-nil}
use Rattle.dutch_sequence.specs.Prelude.{numbers_from, Plan, Event, hits, trials, entry, below, after, ahead}
use Rattle.dutch_sequence.specs.Trials.{Tried, Hit}
use Rattle.dutch_sequence.proofs.Lists.{flat_map-same}
use Rattle.dutch_sequence.proofs.Moves.{after-nil}

pub hits-append : (xs ys : List Event) → hits (xs ++ ys) ≡ hits xs ++ hits ys
hits-append [] ys = refl
hits-append (Tried beyond ∷ xs) ys = hits-append xs ys
hits-append (Hit path ∷ xs) ys = ap (λ rest. path ∷ rest) (hits-append xs ys)

pub trials-append : (xs ys : List Event) → trials (xs ++ ys) ≡ trials xs + trials ys
trials-append [] ys = omega arith
trials-append (Tried beyond ∷ xs) ys = omega (arith, trials-append xs ys)
trials-append (Hit path ∷ xs) ys = trials-append xs ys

pub hits-flat_map : (f : ℕ → List Event) (xs : List ℕ) → hits (flat_map f xs) ≡ flat_map (λ x. hits (f x)) xs
hits-flat_map f [] = refl
hits-flat_map f (x ∷ xs) = hits-append (f x) (flat_map f xs) ∙ ap (λ rest. hits (f x) ++ rest) (hits-flat_map f xs)

-- the whole paths that a search finds below a path with so many open places
abbrev pub found : Plan → ℕ → List ℕ → List (List ℕ)
found plan open_places path = hits (below plan open_places path (entry plan open_places path))

hits-cond : (beyond : Option ℕ) (b : Bool) (events : List Event) → hits (Tried beyond ∷ cond b events []) ≡ cond b (hits events) []
hits-cond beyond true events = refl
hits-cond beyond false events = refl

-- what the trial of one number brings
tried_at : Plan → ℕ → List ℕ → ℕ → List Event
tried_at plan open_places path tried =
    Tried (plan.beyond path tried) ∷ cond (plan.fits path tried) (below plan open_places (path ++ tried ∷ []) (entry plan open_places (path ++ tried ∷ []))) []

-- the whole paths below a path are those below each number that fits
pub found-suc : (plan : Plan) (open_places : ℕ) (path : List ℕ) → found plan (suc open_places) path ≡ flat_map (λ tried. cond (plan.fits path tried) (found plan open_places (path ++ tried ∷ [])) []) (numbers_from (plan.start path) (plan.stop path - plan.start path))
unfolding below tried_at
found-suc plan open_places path =
    hits-flat_map (tried_at plan open_places path) (numbers_from (plan.start path) (plan.stop path - plan.start path))
    ∙ flat_map-same (λ tried. hits (tried_at plan open_places path tried)) (λ tried. cond (plan.fits path tried) (found plan open_places (path ++ tried ∷ [])) []) (numbers_from (plan.start path) (plan.stop path - plan.start path))
    (λ tried. hits-cond (plan.beyond path tried) (plan.fits path tried) (below plan open_places (path ++ tried ∷ []) (entry plan open_places (path ++ tried ∷ []))))

pub found-zero : (plan : Plan) (path : List ℕ) → found plan zero path ≡ path ∷ []
unfolding below
found-zero plan path = refl

-- a new search has all before it
pub ahead-new : (plan : Plan) → ahead plan [] (entry plan plan.places []) ≡ below plan plan.places [] (entry plan plan.places [])
unfolding ahead
ahead-new plan =
    let all_open : plan.places - length {A = ℕ} [] ≡ plan.places = omega arith in
    ap (λ left. below plan left [] (entry plan plan.places []) ++ after plan plan.places [] []) all_open
    ∙ ap (λ events. below plan plan.places [] (entry plan plan.places []) ++ events) (after-nil plan plan.places [])
    ∙ append-nil (below plan plan.places [] (entry plan plan.places []))

deeper-one : (beyond : Option ℕ) (width : ℕ) (fits : Bool) (deep flat : List Event) (paths : List (List ℕ)) → trials deep ≡ trials flat + width * length paths → trials (Tried beyond ∷ cond fits deep []) ≡ trials (Tried beyond ∷ cond fits flat []) + width * length (cond fits paths [])
deeper-one beyond width true deep flat paths same = omega (arith, same)
deeper-one beyond width false deep flat paths same = omega arith

spread : (w a b : ℕ) → w * a + w * b ≡ w * (a + b)
spread w a b = omega arith

added_up : (w deep_x deep flat_x flat paths_x paths all_deep all_flat all_paths : ℕ) → all_deep ≡ deep_x + deep → all_flat ≡ flat_x + flat → all_paths ≡ paths_x + paths → deep_x ≡ flat_x + w * paths_x → deep ≡ flat + w * paths → all_deep ≡ all_flat + w * all_paths
added_up w deep_x deep flat_x flat paths_x paths all_deep all_flat all_paths d f p one rest =
    let sum : all_deep ≡ all_flat + w * (paths_x + paths) = omega arith in
    sum ∙ ap (λ n. all_flat + w * n) (sym p)

deeper-sum : (plan : Plan) (width open_places : ℕ) (path : List ℕ) → ((tried : ℕ) → trials (below plan (suc open_places) (path ++ tried ∷ []) (entry plan (suc open_places) (path ++ tried ∷ []))) ≡ trials (below plan open_places (path ++ tried ∷ []) (entry plan open_places (path ++ tried ∷ []))) + width * length (found plan open_places (path ++ tried ∷ []))) → (numbers : List ℕ) → trials (flat_map (tried_at plan (suc open_places) path) numbers) ≡ trials (flat_map (tried_at plan open_places path) numbers) + width * length (flat_map (λ tried. cond (plan.fits path tried) (found plan open_places (path ++ tried ∷ [])) []) numbers)
unfolding tried_at
deeper-sum plan width open_places path each [] = omega arith
deeper-sum plan width open_places path each (x ∷ numbers) =
    added_up width _ _ _ _ _ _ _ _ _
    (trials-append (tried_at plan (suc open_places) path x) (flat_map (tried_at plan (suc open_places) path) numbers))
    (trials-append (tried_at plan open_places path x) (flat_map (tried_at plan open_places path) numbers))
    (length-append (cond (plan.fits path x) (found plan open_places (path ++ x ∷ [])) []) (flat_map (λ tried. cond (plan.fits path tried) (found plan open_places (path ++ tried ∷ [])) []) numbers))
    (deeper-one (plan.beyond path x) width (plan.fits path x) (below plan (suc open_places) (path ++ x ∷ []) (entry plan (suc open_places) (path ++ x ∷ []))) (below plan open_places (path ++ x ∷ []) (entry plan open_places (path ++ x ∷ []))) (found plan open_places (path ++ x ∷ [])) (each x))
    (deeper-sum plan width open_places path each numbers)

-- where each place has the same numbers to try, one place more costs a trial of each of them for each path found
module _ (plan : Plan) (width : ℕ) (starts : (path : List ℕ) → plan.start path ≡ 0) (stops : (path : List ℕ) → plan.stop path ≡ width) where
  below-all : (open_places : ℕ) (path : List ℕ) → below plan (suc open_places) path (entry plan (suc open_places) path) ≡ flat_map (tried_at plan open_places path) (numbers_from 0 width)
  unfolding below tried_at
  below-all open_places path =
      ap (λ n. flat_map (tried_at plan open_places path) (numbers_from n (plan.stop path - n))) (starts path)
      ∙ ap (λ n. flat_map (tried_at plan open_places path) (numbers_from 0 n)) (omega (arith, stops path))

  found-all : (open_places : ℕ) (path : List ℕ) → found plan (suc open_places) path ≡ flat_map (λ tried. cond (plan.fits path tried) (found plan open_places (path ++ tried ∷ [])) []) (numbers_from 0 width)
  found-all open_places path =
      found-suc plan open_places path
      ∙ ap (λ n. flat_map (λ tried. cond (plan.fits path tried) (found plan open_places (path ++ tried ∷ [])) []) (numbers_from n (plan.stop path - n))) (starts path)
      ∙ ap (λ n. flat_map (λ tried. cond (plan.fits path tried) (found plan open_places (path ++ tried ∷ [])) []) (numbers_from 0 n)) (omega (arith, stops path))

  trials-flat : (path : List ℕ) (first count : ℕ) → trials (flat_map (tried_at plan 0 path) (numbers_from first count)) ≡ count
  unfolding tried_at below
  trials-flat path first zero = refl
  trials-flat path first (suc count) =
      elim (plan.fits path first) as (λ fit. trials (Tried (plan.beyond path first) ∷ (cond fit (Hit (path ++ first ∷ []) ∷ []) [] ++ flat_map (tried_at plan 0 path) (numbers_from (suc first) count))) ≡ suc count) [
        | true ↦ omega (arith, trials-flat path (suc first) count)
        | false ↦ omega (arith, trials-flat path (suc first) count)
      ]

  trials-deeper : (open_places : ℕ) (path : List ℕ) → trials (below plan (suc open_places) path (entry plan (suc open_places) path)) ≡ trials (below plan open_places path (entry plan open_places path)) + width * length (found plan open_places path)
  unfolding below
  trials-deeper zero path =
      let all : trials (below plan 1 path (entry plan 1 path)) ≡ width = ap trials (below-all 0 path) ∙ trials-flat path 0 width in
      omega (arith, all)
  trials-deeper (suc open_places) path =
      ap trials (below-all (suc open_places) path)
      ∙ deeper-sum plan width open_places path (λ tried. trials-deeper open_places (path ++ tried ∷ [])) (numbers_from 0 width)
      ∙ ap (λ events. trials events + width * length (flat_map (λ tried. cond (plan.fits path tried) (found plan open_places (path ++ tried ∷ [])) []) (numbers_from 0 width))) (sym (below-all open_places path))
      ∙ ap (λ paths. trials (below plan (suc open_places) path (entry plan (suc open_places) path)) + width * length paths) (sym (found-all open_places path))

  -- the paths that are too short, by their number of places
  abbrev pub short_paths : ℕ → List ℕ → List (List ℕ)
  short_paths zero path = []
  short_paths (suc open_places) path = short_paths open_places path ++ found plan open_places path

  -- a search makes a trial of each number for each path that is too short
  pub trials-short : (open_places : ℕ) (path : List ℕ) → trials (below plan open_places path (entry plan open_places path)) ≡ width * length (short_paths open_places path)
  unfolding below
  trials-short zero path = omega arith
  trials-short (suc open_places) path =
      trials-deeper open_places path
      ∙ ap (λ t. t + width * length (found plan open_places path)) (trials-short open_places path)
      ∙ spread width (length (short_paths open_places path)) (length (found plan open_places path))
      ∙ ap (λ n. width * n) (sym (length-append (short_paths open_places path) (found plan open_places path)))
