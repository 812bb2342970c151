use Rattle.std.proofs.Common.{◌≡◌, ℕ, Bool, true, List, subst, sym}
use Rattle.std.specs.List.{AllByRecursion}
use Rattle.dutch_arrangements.specs.Prelude.{Arrangement, Frame, candidates, IsIn, AreCandidates, Passes}
use Rattle.dutch_arrangements.specs.declared.bracket.Shape.{Shape}
use Rattle.dutch_sequence.proofs.Skipping.{passes-weaker}
use Rattle.dutch_listing.proofs.Nexts.{step-each}
use Rattle.dutch_listing.proofs.candidates.Candidates.put_next_within.Goals as goal

-- the candidates of a listing are those that a bound knows, so those that are skipped are pruned to the bound
pruned-passed : (meets own_meets : ℕ → ℕ → Bool) (may_be_left own_left : ℕ → Bool) (frame own_frame : Frame) (shape own_shape : Shape) → meets ≡ own_meets → may_be_left ≡ own_left → frame ≡ own_frame → shape ≡ own_shape
    → (IsPruned : Arrangement → Type 0) (before after : List Arrangement) → AreCandidates own_meets own_left own_frame own_shape before
    → Passes (λ a. IsIn a (candidates meets may_be_left frame shape) → IsPruned a) before after → Passes IsPruned before after
unfolding AreCandidates
pruned-passed meets own_meets may_be_left own_left frame own_frame shape own_shape e0 e1 e2 e3 IsPruned before after known passed =
    let all = candidates meets may_be_left frame shape in
    let same : all ≡ candidates own_meets own_left own_frame own_shape = cc in
    passes-weaker (λ a. IsIn a all → IsPruned a) IsPruned (λ a. IsIn a all) before after (λ a m pruned. pruned m)
    (subst (λ own. AllByRecursion (λ a. IsIn a own) before) (sym same) known) passed

pub returns-clause-answer : goal.returns-clause-answer
returns-clause-answer g c =
    let pruned = pruned-passed _ _ _ _ _ _ _ _ c.requires.meets c.requires.may_be_left c.requires.frame c.requires.shape (λ a. g.B.Bound.is_pruned c.args.within.now.bound.now a ≡ true) in
    step-each _ _ _ _ _ _
    (λ _ given. (pruned _ _ c.go_on.ensures.candidates given.0, given.1, given.2))
    (λ given. (pruned _ _ c.go_on.ensures.candidates given.0, given.1, given.2))
    (λ given. (pruned _ _ c.go_on.ensures.candidates given.0, given.1, given.2))
    c.go_on.result c.go_on.ensures.answer
