-- What a pass draws, what it prunes, and what it ends with (C.04.3 B.8).
use Rattle.std.specs.Prelude.{◌≡◌, List, ◌∷◌, Option, None, Bool, true}
use Rattle.std.specs.Option.{MatchOption}
use Rattle.dutch_arrangements.specs.Prelude.{Arrangement, down, Candidate, IsIn, Listing, Passes}
use Rattle.dutch_candidates.specs.declared.greatest.Lister.{Lister}
use Rattle.dutch_candidates.specs.declared.narrowed.NarrowedRule.{NarrowedRule}
use Rattle.dutch_bracket.specs.Prelude.{Context, candidates_here, quality_here, IsOfBracket}
use Rattle.dutch_choice.specs.declared.finder.Best.{Best}
use Rattle.dutch_choice.specs.declared.start.Start.{Start}
use Rattle.dutch_choice.specs.Prelude.{IsBest, IsLent, ListsHere, best_wished}
use Rattle.dutch_passes.specs.declared.pass.Pass.{Pass}
use Rattle.dutch_passes.specs.declared.pass.PassSoFar.{PassSoFar}
use Rattle.dutch_passes.specs.Incumbent.{IsIncumbent}
use Rattle.dutch_passes.specs.Targets.{target_in, best_near, best_yet, is_pruned, loses, is_open}
use Rattle.dutch_passes.specs.Remembered.{LooksBelow, Remembered}

-- a listing is of the bracket of a pass, by its rules as they are narrowed to what is wished [own]
abbrev pub ListsFor : Pass → Listing NarrowedRule → Type 0
ListsFor pass listing = ListsHere pass.shaped.context.now pass.wish listing

-- a lister is lent to a pass: it is of its bracket and of what is wished, and stands where it is said to stand [own]
abbrev pub IsLentFor : Pass → Start → Lister NarrowedRule → Type 0
IsLentFor pass start lister = IsLent pass.shaped.context.now pass.wish pass.shaped.shape start lister

-- a look-ahead is that of the bracket of a pass [own]
abbrev pub LooksFor : Pass → Option Remembered → Type 0
LooksFor pass look = LooksBelow pass.shaped.context.now look

-- a candidate is one of a bracket
abbrev pub IsHere : Context → Candidate → Type 0
IsHere context candidate = IsOfBracket context.facts context.reached candidate

-- the quality of a candidate loses in a pass, beside its incumbent
abbrev pub Loses : PassSoFar → Arrangement → Type 0
Loses so_far a = loses (target_in so_far.pass.now.target) so_far.incumbent.now (quality_here so_far.pass.now.shaped.context.now a) ≡ true

-- the same of a candidate that can be chosen and grants what is wished
abbrev pub LosesIfOpen : PassSoFar → Arrangement → Type 0
LosesIfOpen so_far a = is_open so_far.pass.now.shaped.context.now so_far.pass.now.wish a ≡ true → Loses so_far a

-- a candidate is pruned by a pass, beside its incumbent
abbrev pub is_pruned_by : PassSoFar → Arrangement → Bool
is_pruned_by so_far = is_pruned so_far.pass.now.shaped.context.now so_far.pass.now.wish (target_in so_far.pass.now.target) so_far.incumbent.now

-- a list of candidates goes on as another one does, once some of its beginning is skipped, each of which the pass prunes [own]
abbrev pub PassesPruned : PassSoFar → List Arrangement → List Arrangement → Type 0
PassesPruned so_far before after = Passes (λ a. is_pruned_by so_far a ≡ true) before after

-- a lister draws the next candidate, once some are skipped that are pruned [own]
abbrev pub Draws : PassSoFar → Lister NarrowedRule → Lister NarrowedRule → Type 0
Draws so_far old new = PassesPruned so_far old.listing.coming (new.drawn.lists ∷ new.listing.coming)
    × (new.drawn.down ≡ down old.listing.frame new.drawn.lists)

-- what a pass chooses of what it keeps and of the candidates to come
abbrev pub best_of_pass : Pass → Option Best → List Arrangement → Option Arrangement
best_of_pass pass incumbent coming = best_yet pass.shaped.context.now pass.wish (target_in pass.target) incumbent coming

-- once a candidate was looked at, the incumbent then makes the choice that was to come before
abbrev pub IsChosenNext : Pass → Option Best → Option Best → Arrangement → Type 0
IsChosenNext pass before after candidate = (coming : List Arrangement) → best_of_pass pass after coming ≡ best_of_pass pass before (candidate ∷ coming)

-- what a pass chooses of all
abbrev pub near_of : Pass → Option Arrangement
near_of pass = best_near pass.shaped.context.now pass.wish (target_in pass.target) pass.shaped.shape

-- a pass looks through a listing: what it chooses of all is what it chooses of its incumbent and of those to come
pub record LooksThrough (pass : Pass) (incumbent : Option Best) (listing : Listing NarrowedRule) : Type 0 where
  pub chosen : near_of pass ≡ best_of_pass pass incumbent listing.coming
  pub incumbent_is : IsIncumbent pass.shaped.context.now incumbent
  pub inside : (lists : Arrangement) → IsIn lists listing.coming → IsIn lists (candidates_here pass.shaped.context.now pass.shaped.shape)
  pub shape_is : listing.shape ≡ pass.shaped.shape

-- what the passes end with, whatever the target is: of the candidates that grant what is wished, and that can be chosen, the first that none is
-- better than
abbrev pub wished_of : Pass → Option Arrangement
wished_of pass = best_wished pass.shaped.context.now pass.wish pass.shaped.shape

-- it is found; nothing is found only if there is no such candidate [own]
abbrev pub IsEnd : Pass → Option Best → Type 0
IsEnd pass found = MatchOption found (wished_of pass ≡ None) (IsBest pass.shaped.context.now (wished_of pass))

-- a pass goes on in the same bracket, with the same shape and the same wish
pub record SeeksTheSame (old new : Pass) : Type 0 where
  pub context : new.shaped.context.now ≡ old.shaped.context.now
  pub shape : new.shaped.shape ≡ old.shaped.shape
  pub wish : new.wish ≡ old.wish
