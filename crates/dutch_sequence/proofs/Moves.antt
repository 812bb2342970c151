-- What is ahead of a search after each of its moves.
use Rattle.std.proofs.Common.{◌≡◌, ℕ, zero, suc, ◌+◌, ◌-◌, ◌<◌, ◌≤◌, true, false, cond, List, [], ◌∷◌, ◌++◌, length, refl, sym, ◌∙◌, ap, append_assoc, arith, length-append, subst, take, drop, Option, Some, None}
use Rattle.std.specs.List.{flat_map, AllByRecursion}
use Rattle.std.proofs.lemmas.List.{append-nil}
use Rattle.dutch_sequence.specs.Prelude.{numbers_from, Plan, Event, entry, below, after, ahead, trials, lower, lowest, Walked}
use Rattle.dutch_sequence.specs.Trials.{Tried, Hit}

-- nothing follows the empty path
pub after-nil : (plan : Plan) (open_places : ℕ) (beginning : List ℕ) → after plan open_places beginning [] ≡ []
unfolding after
after-nil plan zero beginning = refl
after-nil plan (suc open_places) beginning = refl

numbers_from-step : (number stop : ℕ) → number < stop → numbers_from number (stop - number) ≡ number ∷ numbers_from (suc number) (stop - suc number)
numbers_from-step number stop h =
    let e : stop - number ≡ suc (stop - suc number) = omega arith in ap (numbers_from number) e

numbers_from-none : (number stop : ℕ) → stop ≤ number → numbers_from number (stop - number) ≡ []
numbers_from-none number stop h =
    let e : stop - number ≡ 0 = omega arith in ap (numbers_from number) e

-- what the trial of one number brings
brings : Plan → ℕ → List ℕ → ℕ → List Event
brings plan open_places path tried =
    Tried (plan.beyond path tried) ∷ cond (plan.fits path tried) (below plan open_places (path ++ tried ∷ []) (entry plan open_places (path ++ tried ∷ []))) []

below-step : (plan : Plan) (open_places : ℕ) (path : List ℕ) (number : ℕ) → number < plan.stop path → below plan (suc open_places) path number ≡ brings plan open_places path number ++ below plan (suc open_places) path (suc number)
unfolding below brings
below-step plan open_places path number h = ap (flat_map (brings plan open_places path)) (numbers_from-step number (plan.stop path) h)

pub below-none : (plan : Plan) (open_places : ℕ) (path : List ℕ) (number : ℕ) → plan.stop path ≤ number → below plan (suc open_places) path number ≡ []
unfolding below brings
below-none plan open_places path number h = ap (flat_map (brings plan open_places path)) (numbers_from-none number (plan.stop path) h)

all_open : (open_places : ℕ) → suc open_places - length {A = ℕ} [] ≡ suc open_places
all_open open_places = omega arith

pub after-push : (plan : Plan) (open_places : ℕ) (beginning path : List ℕ) (number : ℕ) → length path < open_places → after plan open_places beginning (path ++ number ∷ []) ≡ below plan (open_places - length path) (beginning ++ path) (suc number) ++ after plan open_places beginning path
unfolding after
after-push plan zero beginning path number h = absurd (omega arith)
after-push plan (suc open_places) beginning [] number h =
    ap (λ events. events ++ below plan (suc open_places) beginning (suc number)) (after-nil plan open_places (beginning ++ number ∷ []))
    ∙ sym
    (append-nil (below plan (suc open_places - length {A = ℕ} []) (beginning ++ []) (suc number))
    ∙ ap (λ path. below plan (suc open_places - length {A = ℕ} []) path (suc number)) (append-nil beginning)
    ∙ ap (λ left. below plan left beginning (suc number)) (all_open open_places))
after-push plan (suc open_places) beginning (first ∷ path) number h =
    let shorter : length path < open_places = omega arith in
    let same : suc open_places - length (first ∷ path) ≡ open_places - length path = omega arith in
    ap (λ events. events ++ below plan (suc open_places) beginning (suc first)) (after-push plan open_places (beginning ++ first ∷ []) path number shorter)
    ∙ append_assoc
    (below plan (open_places - length path) ((beginning ++ first ∷ []) ++ path) (suc number))
    (after plan open_places (beginning ++ first ∷ []) path)
    (below plan (suc open_places) beginning (suc first))
    ∙ ap
    (λ path'. below plan (open_places - length path) path' (suc number) ++ after plan (suc open_places) beginning (first ∷ path))
    (append_assoc beginning (first ∷ []) path)
    ∙ ap
    (λ left. below plan left (beginning ++ first ∷ path) (suc number) ++ after plan (suc open_places) beginning (first ∷ path))
    (sym same)

module _ (plan : Plan) (path : List ℕ) (opened : length path < plan.places) where
  one_open : plan.places - length path ≡ suc (plan.places - suc (length path))
  one_open = omega arith

  ahead-step : (number : ℕ) → number < plan.stop path → ahead plan path number ≡ brings plan (plan.places - suc (length path)) path number ++ ahead plan path (suc number)
  unfolding ahead
  ahead-step number tried =
      ap (λ left. below plan left path number ++ after plan plan.places [] path) one_open
      ∙ ap (λ events. events ++ after plan plan.places [] path) (below-step plan (plan.places - suc (length path)) path number tried)
      ∙ append_assoc
      (brings plan (plan.places - suc (length path)) path number)
      (below plan (suc (plan.places - suc (length path))) path (suc number))
      (after plan plan.places [] path)
      ∙ ap
      (λ left. brings plan (plan.places - suc (length path)) path number ++ (below plan left path (suc number) ++ after plan plan.places [] path))
      (sym one_open)

  -- a number that does not fit is passed
  pub ahead-pass : (number : ℕ) → number < plan.stop path → plan.fits path number ≡ false → ahead plan path number ≡ Tried (plan.beyond path number) ∷ ahead plan path (number + 1)
  unfolding brings
  ahead-pass number tried barred =
      ahead-step number tried
      ∙ ap
      (λ fit. (Tried (plan.beyond path number) ∷ cond fit (below plan (plan.places - suc (length path)) (path ++ number ∷ []) (entry plan (plan.places - suc (length path)) (path ++ number ∷ []))) []) ++ ahead plan path (suc number))
      barred
      ∙ ap (λ next. Tried (plan.beyond path number) ∷ ahead plan path next) (omega arith)

  -- a place that is still tried has a trial ahead
  pub trials-positive : (number : ℕ) → number < plan.stop path → 0 < trials (ahead plan path number)
  unfolding brings
  trials-positive number tried = omega (arith, ap trials (ahead-step number tried))

  ahead-push : (number next : ℕ) → ahead plan (path ++ number ∷ []) next ≡ below plan (plan.places - suc (length path)) (path ++ number ∷ []) next ++ ahead plan path (suc number)
  unfolding ahead
  ahead-push number next =
      let longer : plan.places - length (path ++ number ∷ []) ≡ plan.places - suc (length path) = omega (arith, length-append path (number ∷ [])) in
      ap (λ left. below plan left (path ++ number ∷ []) next ++ after plan plan.places [] (path ++ number ∷ [])) longer
      ∙ ap (λ events. below plan (plan.places - suc (length path)) (path ++ number ∷ []) next ++ events) (after-push plan plan.places [] path number opened)

  -- a number that fits is taken
  pub ahead-take : (number : ℕ) → number < plan.stop path → plan.fits path number ≡ true → ahead plan path number ≡ Tried (plan.beyond path number) ∷ ahead plan (path ++ number ∷ []) (entry plan (plan.places - suc (length path)) (path ++ number ∷ []))
  unfolding brings
  ahead-take number tried fit =
      ahead-step number tried
      ∙ ap
      (λ fits'. (Tried (plan.beyond path number) ∷ cond fits' (below plan (plan.places - suc (length path)) (path ++ number ∷ []) (entry plan (plan.places - suc (length path)) (path ++ number ∷ []))) []) ++ ahead plan path (suc number))
      fit
      ∙ ap (λ events. Tried (plan.beyond path number) ∷ events) (sym (ahead-push number (entry plan (plan.places - suc (length path)) (path ++ number ∷ []))))

  -- the same, at the path and the number that the code has then
  pub ahead-taken : (number : ℕ) (longer : List ℕ) (next : ℕ) → number < plan.stop path → plan.fits path number ≡ true → longer ≡ path ++ number ∷ [] → next ≡ entry plan (plan.places - length longer) longer → ahead plan path number ≡ Tried (plan.beyond path number) ∷ ahead plan longer next
  ahead-taken number longer next tried fit is_longer is_next =
      let left : plan.places - suc (length path) ≡ plan.places - length longer = omega (arith, length-append path (number ∷ []), ap length is_longer) in
      ahead-take number tried fit
      ∙ ap (λ path'. Tried (plan.beyond path number) ∷ ahead plan path' (entry plan (plan.places - suc (length path)) path')) (sym is_longer)
      ∙ ap (λ open_places. Tried (plan.beyond path number) ∷ ahead plan longer (entry plan open_places longer)) left
      ∙ ap (λ number'. Tried (plan.beyond path number) ∷ ahead plan longer number') (sym is_next)

  -- where nothing is left below a path, its last number is passed
  pub ahead-back : (number next : ℕ) → below plan (plan.places - suc (length path)) (path ++ number ∷ []) next ≡ [] → ahead plan (path ++ number ∷ []) next ≡ ahead plan path (number + 1)
  ahead-back number next none =
      ahead-push number next
      ∙ ap (λ events. events ++ ahead plan path (suc number)) none
      ∙ ap (ahead plan path) (omega arith)

-- a whole path is found once
pub ahead-found : (plan : Plan) (path : List ℕ) → length path ≡ plan.places → ahead plan path 0 ≡ Hit path ∷ ahead plan path 1
unfolding ahead below
ahead-found plan path whole =
    let none : plan.places - length path ≡ 0 = omega arith in
    ap (λ left. below plan left path 0 ++ after plan plan.places [] path) none
    ∙ ap (λ left. Hit path ∷ (below plan left path 1 ++ after plan plan.places [] path)) (sym none)

pub spent-place : (plan : Plan) (path : List ℕ) (number : ℕ) → length path < plan.places → plan.stop path ≤ number → below plan (plan.places - length path) path number ≡ []
spent-place plan path number opened passed =
    let one : plan.places - length path ≡ suc (plan.places - suc (length path)) = omega arith in
    ap (λ left. below plan left path number) one ∙ below-none plan (plan.places - suc (length path)) path number passed

pub spent-whole : (plan : Plan) (path : List ℕ) (number : ℕ) → length path ≡ plan.places → 0 < number → below plan (plan.places - length path) path number ≡ []
unfolding below
spent-whole plan path zero whole later = absurd (omega arith)
spent-whole plan path (suc number) whole later =
    let none : plan.places - length path ≡ 0 = omega arith in
    ap (λ left. below plan left path (suc number)) none

-- the end of a search
pub ahead-end : (plan : Plan) (number : ℕ) → below plan (plan.places - length {A = ℕ} []) [] number ≡ [] → ahead plan [] number ≡ []
unfolding ahead
ahead-end plan number none =
    ap (λ events. events ++ after plan plan.places [] []) none ∙ after-nil plan plan.places []

-- the same, at the path that the code has
pub ahead-gone_back : (plan : Plan) (path shorter : List ℕ) (number next : ℕ) → path ≡ shorter ++ number ∷ [] → length path ≤ plan.places → below plan (plan.places - length path) path next ≡ [] → ahead plan shorter (number + 1) ≡ ahead plan path next
ahead-gone_back plan path shorter number next is_longer few none =
    let P : List ℕ → Type 0 = λ path'. length path' ≤ plan.places → below plan (plan.places - length path') path' next ≡ [] → ahead plan shorter (number + 1) ≡ ahead plan path' next in
    let at_longer : P (shorter ++ number ∷ []) = λ few' none'.
    let opened : length shorter < plan.places = omega (arith, length-append shorter (number ∷ [])) in
    let left : plan.places - length (shorter ++ number ∷ []) ≡ plan.places - suc (length shorter) = omega (arith, length-append shorter (number ∷ [])) in
    sym (ahead-back plan shorter opened number next (ap (λ open_places. below plan open_places (shorter ++ number ∷ []) next) (sym left) ∙ none')) in
    subst P (sym is_longer) at_longer few none

pub ahead-ended : (plan : Plan) (path after_pop : List ℕ) (number : ℕ) → after_pop ≡ path → length path ≡ 0 → below plan (plan.places - length path) path number ≡ [] → ahead plan after_pop number ≡ []
ahead-ended plan [] after_pop number same empty none =
    ap (λ path. ahead plan path number) same ∙ ahead-end plan number none
ahead-ended plan (first ∷ path) after_pop number same empty none = absurd (omega arith)

-- a whole path that was not handed out yet
pub ahead-whole : (plan : Plan) (path : List ℕ) (number : ℕ) → length path ≡ plan.places → number ≡ 0 → ahead plan path number ≡ Hit path ∷ ahead plan path 1
ahead-whole plan path number whole fresh = ap (ahead plan path) fresh ∙ ahead-found plan path whole

-- a path that goes on, and one that loses its last number
pub Walked-push : (plan : Plan) (beginning path : List ℕ) (number : ℕ) → Walked plan beginning path → number < plan.stop (beginning ++ path) → plan.fits (beginning ++ path) number ≡ true → Walked plan beginning (path ++ number ∷ [])
Walked-push plan beginning [] number walked low fit = (
  subst (λ path. number < plan.stop path) (append-nil beginning) low,
  subst (λ path. plan.fits path number ≡ true) (append-nil beginning) fit,
  tt,
)
Walked-push plan beginning (first ∷ path) number walked low fit = (
  walked.0,
  walked.1,
  Walked-push plan (beginning ++ first ∷ []) path number walked.2
      (subst (λ path'. number < plan.stop path') (sym (append_assoc beginning (first ∷ []) path)) low)
      (subst (λ path'. plan.fits path' number ≡ true) (sym (append_assoc beginning (first ∷ []) path)) fit),
)

pub Walked-pop : (plan : Plan) (beginning path : List ℕ) (number : ℕ) → Walked plan beginning (path ++ number ∷ []) → Walked plan beginning path × (number < plan.stop (beginning ++ path))
Walked-pop plan beginning [] number walked = (tt, subst (λ path. number < plan.stop path) (sym (append-nil beginning)) walked.0)
Walked-pop plan beginning (first ∷ path) number walked =
    let rest = Walked-pop plan (beginning ++ first ∷ []) path number walked.2 in
    ((walked.0, walked.1, rest.0), subst (λ path'. number < plan.stop path') (append_assoc beginning (first ∷ []) path) rest.1)

-- the same, at the paths that the code has
pub Walked-longer : (plan : Plan) (path longer : List ℕ) (number : ℕ) → longer ≡ path ++ number ∷ [] → Walked plan [] path → number < plan.stop path → plan.fits path number ≡ true → Walked plan [] longer
Walked-longer plan path longer number is_longer walked low fit =
    subst (Walked plan []) (sym is_longer) (Walked-push plan [] path number walked low fit)

pub Walked-shorter : (plan : Plan) (path shorter : List ℕ) (number : ℕ) → path ≡ shorter ++ number ∷ [] → Walked plan [] path → Walked plan [] shorter × (number < plan.stop shorter)
Walked-shorter plan path shorter number is_longer walked = Walked-pop plan [] shorter number (subst (Walked plan []) is_longer walked)

-- the numbers of a path are below what bounds each place
pub Walked-below : (plan : Plan) (bound : ℕ) → ((path : List ℕ) → plan.stop path ≤ bound) → (beginning path : List ℕ) → Walked plan beginning path → AllByRecursion (λ number. number < bound) path
Walked-below plan bound stops beginning [] walked = tt
Walked-below plan bound stops beginning (number ∷ path) walked =
    (omega (arith, stops beginning), Walked-below plan bound stops (beginning ++ number ∷ []) path walked.2)

-- a part of a path
pub AllByRecursion-drop : (P : ℕ → Type 0) (n : ℕ) (xs : List ℕ) → AllByRecursion P xs → AllByRecursion P (drop n xs)
AllByRecursion-drop P zero xs all = all
AllByRecursion-drop P (suc n) [] all = tt
AllByRecursion-drop P (suc n) (x ∷ xs) all = AllByRecursion-drop P n xs all.1

pub AllByRecursion-take : (P : ℕ → Type 0) (n : ℕ) (xs : List ℕ) → AllByRecursion P xs → AllByRecursion P (take n xs)
AllByRecursion-take P zero xs all = tt
AllByRecursion-take P (suc n) [] all = tt
AllByRecursion-take P (suc n) (x ∷ xs) all = (all.0, AllByRecursion-take P n xs all.1)

-- a search with no places is done without a trial
pub trials-nothing : (plan : Plan) → plan.places ≡ 0 → trials (ahead plan [] 0) ≡ 0
trials-nothing plan none =
    let whole : length {A = ℕ} [] ≡ plan.places = omega arith in
    ap trials (ahead-found plan [] whole)
    ∙ ap trials (ahead-end plan 1 (spent-whole plan [] 1 whole (omega arith)))

-- the lowest of three
pub lower-assoc : (a b c : Option ℕ) → lower (lower a b) c ≡ lower a (lower b c)
lower-assoc None b c = refl
lower-assoc (Some x) None c = refl
lower-assoc (Some x) (Some y) None = refl
lower-assoc (Some x) (Some y) (Some z) = ap Some (omega arith)

-- the same place has the same ahead
pub ahead-same : (plan : Plan) (path path' : List ℕ) (number number' : ℕ) → path ≡ path' → number ≡ number' → ahead plan path number ≡ ahead plan path' number'
ahead-same plan path path' number number' same_path same_number =
    ap (λ path. ahead plan path number) same_path ∙ ap (ahead plan path') same_number

-- what lies beyond all trials is the same after one of them
pub beyond-tried : (old new tried : Option ℕ) (before later : List Event) → new ≡ lower old tried → before ≡ Tried tried ∷ later → lower new (lowest later) ≡ lower old (lowest before)
beyond-tried old new tried before later noted same =
    ap (λ b. lower b (lowest later)) noted ∙ lower-assoc old tried (lowest later) ∙ ap (λ events. lower old (lowest events)) (sym same)

pub beyond-same : (old new : Option ℕ) (before later : List Event) → new ≡ old → later ≡ before → lower new (lowest later) ≡ lower old (lowest before)
beyond-same old new before later kept same = ap (λ b. lower b (lowest later)) kept ∙ ap (λ events. lower old (lowest events)) same

-- below 0 is nothing
pub lower-zero : (o : Option ℕ) → lower (Some 0) o ≡ Some 0
lower-zero None = refl
lower-zero (Some x) = ap Some (omega arith)
