-- What a target and the incumbent tell of candidates: the choice among those that are near a target is the choice of all, and a pruned
-- candidate changes nothing.
use Rattle.std.proofs.Common.{◌≡◌, Bool, true, false, not, ◌&&◌, ◌||◌, List, [], ◌∷◌, ◌++◌, filter, Option, Some, None, IfSome, refl, sym, ap, ◌∙◌, arith}
use Rattle.std.specs.List.{list_any, AllByRecursion}
use Rattle.std.specs.Option.{MatchOption}
use Rattle.std.proofs.lemmas.Bool.{true≢false, not-true, not-false, or_right}
use Rattle.dutch_arrangements.specs.Prelude.{Passes, Arrangement}
use Rattle.dutch_arrangements.specs.declared.bracket.Shape.{Shape}
use Rattle.dutch_listing.proofs.Passing.{passes-each}
use Rattle.dutch_choice.specs.declared.finder.Best.{Best}
use Rattle.dutch_candidates.specs.declared.wish.Wish.{Wish}
use Rattle.dutch_bracket.specs.Prelude.{Context, can_be_chosen_here, candidates_here, eligible_here, quality_here, Quality, is_better, quality_in, candidates_of, eligible, first_unbeaten, best, best_with}
use Rattle.dutch_candidates.specs.Wishes.{is_wished}
use Rattle.dutch_choice.specs.Prelude.{IsBest, is_better_here, best_wished}
use Rattle.dutch_passes.specs.Prelude.{incumbent_lists, wins, IsIncumbent, beats, loses, is_near, is_pruned, is_open, is_sought, best_yet, best_near}
use Rattle.dutch_choice.proofs.ChoiceLemmas.{IsOrder, order_of}
use Rattle.dutch_passes.proofs.IncumbentLemmas.{behind_target, behind_either, behind_incumbent, incumbent_at_end, kept_by, passed_by, wins_over}
use Rattle.dutch_bracket.proofs.QualityOrder.{irreflexive, transitive, total}
use Rattle.dutch_choice.proofs.BestLemmas.{order_in}
use Rattle.dutch_completion.proofs.EligibleLemmas.{eligible_is}

-- where each near one is better than each far one, the first unbeaten near one is the first unbeaten of all
module _ {X : Type 0} (better : X → X → Bool) (order : IsOrder better) (near : X → Bool)
    (split : (x y : X) → near x ≡ true → near y ≡ false → better x y ≡ true) where
  -- a near one is beaten by near ones alone
  beaten_near : (x : X) (ys : List X) → near x ≡ true → list_any (λ d. better d x) (filter near ys) ≡ list_any (λ d. better d x) ys
  beaten_near x [] h = refl
  beaten_near x (y ∷ ys) h = grind (arith, beaten_near x ys h, split x y, order.transitive x y x, order.irreflexive x)

  -- and a far one by each near one
  beaten_far : (x : X) (ys : List X) → near x ≡ false → list_any near ys ≡ true → list_any (λ d. better d x) ys ≡ true
  beaten_far x [] h some = some
  beaten_far x (y ∷ ys) h some = grind (arith, beaten_far x ys h, split y x)

  first_near : (all ys : List X) (c : X) → list_any near all ≡ true → first_unbeaten better (filter near all) (filter near ys) ≡ Some c → first_unbeaten better all ys ≡ Some c
  first_near all [] c some found = found
  first_near all (y ∷ ys) c some found = grind (arith, first_near all ys c some, beaten_near y all, beaten_far y all)

  some_near : (others ys : List X) (c : X) → first_unbeaten better others (filter near ys) ≡ Some c → list_any near ys ≡ true
  some_near others [] c found = let bad : None ≡ Some c = found in absurd (cc)
  some_near others (y ∷ ys) c found = grind (arith, some_near others ys c)

  -- what is chosen of the near ones is chosen of all
  pub best_of_near : (ys : List X) (c : X) → best better (filter near ys) ≡ Some c → best better ys ≡ Some c
  best_of_near ys c found = first_near ys ys c (some_near (filter near ys) ys c found) found

filter_both : {X : Type 0} (p q : X → Bool) (xs : List X) → filter (λ y. p y && q y) xs ≡ filter q (filter p xs)
filter_both p q [] = refl
filter_both p q (x ∷ xs) = grind (arith, filter_both p q xs)

filter_always : {X : Type 0} (p : X → Bool) (xs : List X) → filter (λ y. p y && true) xs ≡ filter p xs
filter_always p [] = refl
filter_always p (x ∷ xs) = grind (arith, filter_always p xs)

-- pruned is who does not grant the wish, who loses, who loses if it can be chosen and grants the wish, and who cannot be chosen
pub unwished_is_pruned : (fit wished lost : Bool) → wished ≡ false → (not (fit && wished) || lost) ≡ true
unwished_is_pruned fit wished lost h = grind arith

pub loser_is_pruned : (fit wished lost : Bool) → lost ≡ true → (not (fit && wished) || lost) ≡ true
loser_is_pruned fit wished lost h = grind arith

pub loser_if_open_is_pruned : (fit wished lost : Bool) → ((fit && wished) ≡ true → lost ≡ true) → (not (fit && wished) || lost) ≡ true
loser_if_open_is_pruned fit wished lost h = grind arith

unfit_is_pruned : (fit wished lost : Bool) → fit ≡ false → (not (fit && wished) || lost) ≡ true
unfit_is_pruned fit wished lost h = grind arith

quality_order : IsOrder is_better
quality_order = order_of (λ (q : Quality). q) is_better irreflexive transitive total

module _ (context : Context) where
  near_before_far : (target : Option Quality) (x y : Arrangement) → is_near context target x ≡ true → is_near context target y ≡ false
      → is_better_here context x y ≡ true
  near_before_far None x y near far = absurd (true≢false far)
  near_before_far (Some target) x y near far =
      quality_order.between target (quality_here context x) (quality_here context y) (not-false _ far) (not-true _ near)

  -- what is chosen of those that a target is not better than is chosen of all
  an_target_serves : (target : Option Quality) (fits : Arrangement → Bool) (xs : List Arrangement) (c : Arrangement)
      → best (is_better_here context) (filter (λ x. fits x && is_near context target x) xs) ≡ Some c
      → best (is_better_here context) (filter fits xs) ≡ Some c
  an_target_serves target fits xs c found =
      best_of_near (is_better_here context) (order_in context) (is_near context target) (near_before_far target) (filter fits xs) c
      (ap (best (is_better_here context)) (sym (filter_both fits (is_near context target) xs)) ∙ found)

  module _ (wish : Option Wish) where
    -- those that can be chosen and grant the wish
    open_ones : (shape : Shape) → filter (is_open context wish) (candidates_here context shape) ≡ filter (is_wished wish) (eligible_here context shape)
    open_ones shape =
        filter_both (can_be_chosen_here context) (is_wished wish) (candidates_here context shape)
        ∙ ap (filter (is_wished wish)) (sym (eligible_is context.facts context.reached context.lower shape))

    -- where a pass with a target ends with a candidate, it is the best of all
    pub a_pass_serves : (target : Option Quality) (shape : Shape) (c : Arrangement) → best_near context wish target shape ≡ Some c
        → best_wished context wish shape ≡ Some c
    unfolding best_near best_yet best_wished candidates_of eligible
    a_pass_serves target shape c found =
        ap (best (is_better_here context)) (sym (open_ones shape))
        ∙ an_target_serves target (is_open context wish) (candidates_here context shape) c found

    pub pass_ends : (target : Option Quality) (shape : Shape) (found : Option Best)
        → MatchOption found (best_near context wish target shape ≡ None) (IsBest context (best_near context wish target shape))
        → IfSome found (IsBest context (best_wished context wish shape))
    pass_ends target shape (Some b) h = (a_pass_serves target shape b.candidate.lists h.0, h.1)
    pass_ends target shape None h = tt

    -- without a target a pass finds the best
    pub without_target : (shape : Shape) → best_near context wish None shape ≡ best_wished context wish shape
    unfolding best_near candidates_of best_wished eligible best_yet
    without_target shape =
        ap (best (is_better_here context)) (filter_always (is_open context wish) (candidates_here context shape) ∙ open_ones shape)

    same_wins : (incumbent : Option Best) (d : Arrangement) → IsIncumbent context incumbent → wins (quality_here context d) incumbent ≡ wins_over (is_better_here context) (incumbent_lists incumbent) d
    same_wins None d h = refl
    same_wins (Some best) d h = ap (is_better (quality_here context d)) h.1

    -- a candidate that is pruned is passed
    pruned_passed : (target : Option Quality) (incumbent : Option Best) (d : Arrangement) (rest : List Arrangement) → IsIncumbent context incumbent → is_pruned context wish target incumbent d ≡ true
        → best_yet context wish target incumbent (d ∷ rest) ≡ best_yet context wish target incumbent rest
    unfolding best_yet
    pruned_passed target incumbent d rest h pruned =
        passed_by (is_better_here context) (order_in context) (is_open context wish) (λ c. beats target (quality_here context c)) (incumbent_lists incumbent) d rest
        (wins (quality_here context d) incumbent) (same_wins incumbent d h) pruned

    -- so is one whose quality loses
    pub loser_passed : (target : Option Quality) (incumbent : Option Best) (quality : Quality) (d : Arrangement) (rest : List Arrangement) → IsIncumbent context incumbent
        → quality ≡ quality_here context d → loses target incumbent quality ≡ true → best_yet context wish target incumbent rest ≡ best_yet context wish target incumbent (d ∷ rest)
    loser_passed target incumbent quality d rest h e lost =
        sym (pruned_passed target incumbent d rest h (or_right (not (is_open context wish d)) _ (ap (loses target incumbent) (sym e) ∙ lost)))

    -- one that does not grant the wish
    pub unwished_passed : (target : Option Quality) (incumbent : Option Best) (d : Arrangement) (rest : List Arrangement) → IsIncumbent context incumbent → is_wished wish d ≡ false
        → best_yet context wish target incumbent rest ≡ best_yet context wish target incumbent (d ∷ rest)
    unwished_passed target incumbent d rest h unwished = sym (pruned_passed target incumbent d rest h (unwished_is_pruned _ _ _ unwished))

    -- and one that cannot be chosen
    pub unfit_passed : (target : Option Quality) (incumbent : Option Best) (d : Arrangement) (rest : List Arrangement) → IsIncumbent context incumbent → can_be_chosen_here context d ≡ false
        → best_yet context wish target incumbent rest ≡ best_yet context wish target incumbent (d ∷ rest)
    unfit_passed target incumbent d rest h unfit =
        sym (pruned_passed target incumbent d rest h (unfit_is_pruned _ _ _ unfit))

    -- one that does not lose, grants the wish and can be chosen becomes the incumbent
    pub winner_kept : (target : Option Quality) (incumbent : Option Best) (best : Best) (lists : Arrangement) (coming : List Arrangement) → IsIncumbent context incumbent
        → best.candidate.lists ≡ lists → quality_in best.quality ≡ quality_here context lists → loses target incumbent (quality_in best.quality) ≡ false
        → is_open context wish lists ≡ true → best_yet context wish target (Some best) coming ≡ best_yet context wish target incumbent (lists ∷ coming)
    unfolding best_yet
    winner_kept target incumbent best lists coming h same e won fit =
        ap (λ (c : Arrangement). best_with (is_better_here context) (is_sought context wish target) (Some c) coming) same
        ∙ kept_by (is_better_here context) (order_in context) (is_open context wish) (λ c. beats target (quality_here context c)) (incumbent_lists incumbent) lists coming
        (wins (quality_here context lists) incumbent) (same_wins incumbent lists h) fit (ap (loses target incumbent) (sym e) ∙ won)

    -- behind the last one the incumbent is chosen
    pub best_last : (target : Option Quality) (incumbent : Option Best) (all : Option Arrangement) → all ≡ best_yet context wish target incumbent [] → all ≡ incumbent_lists incumbent
    unfolding best_yet
    best_last target incumbent all h =
        h ∙ incumbent_at_end (is_better_here context) (order_in context) (is_open context wish) (λ c. beats target (quality_here context c)) (incumbent_lists incumbent)

    pruned_front_passed : (target : Option Quality) (incumbent : Option Best) (skipped rest : List Arrangement) → IsIncumbent context incumbent
        → AllByRecursion (λ a. is_pruned context wish target incumbent a ≡ true) skipped → best_yet context wish target incumbent (skipped ++ rest) ≡ best_yet context wish target incumbent rest
    pruned_front_passed target incumbent [] rest h pruned = refl
    pruned_front_passed target incumbent (d ∷ skipped) rest h pruned =
        pruned_passed target incumbent d (skipped ++ rest) h pruned.0 ∙ pruned_front_passed target incumbent skipped rest h pruned.1

    -- what a listing skips changes nothing
    pub skipped_same : (target : Option Quality) (incumbent : Option Best) (before after : List Arrangement) → IsIncumbent context incumbent
        → Passes (λ a. is_pruned context wish target incumbent a ≡ true) before after → best_yet context wish target incumbent before ≡ best_yet context wish target incumbent after
    skipped_same target incumbent before after h (skipped, same, pruned) = ap (best_yet context wish target incumbent) same ∙ pruned_front_passed target incumbent skipped after h pruned

    -- so does what cannot be chosen
    pub unfit_skipped : (target : Option Quality) (before after : List Arrangement) → Passes (λ a. can_be_chosen_here context a ≡ false) before after
        → best_yet context wish target None before ≡ best_yet context wish target None after
    unfit_skipped target before after passes =
        skipped_same target None before after tt
        (passes-each (λ a. can_be_chosen_here context a ≡ false) (λ a. is_pruned context wish target None a ≡ true) before after (λ a unfit. unfit_is_pruned _ _ _ unfit) passes)

  -- what is handed out in the end
  pub handed : (incumbent : Option Best) (all : Option Arrangement) → IsIncumbent context incumbent → all ≡ incumbent_lists incumbent → MatchOption incumbent (all ≡ None) (IsBest context all)
  handed (Some best) all h e = (e, h)
  handed None all h e = e

-- a quality loses where a floor does that it is not better than
pub floor_loses : (target : Option Quality) (incumbent : Option Best) (floor q : Quality) → is_better q floor ≡ false → loses target incumbent floor ≡ true → loses target incumbent q ≡ true
floor_loses None None floor q low lost = lost
floor_loses None (Some best) floor q low lost = behind_incumbent is_better quality_order (quality_in best.quality) floor q low lost
floor_loses (Some target) None floor q low lost = behind_target is_better quality_order target floor q low lost
floor_loses (Some target) (Some best) floor q low lost = behind_either is_better quality_order target (quality_in best.quality) floor q low lost
