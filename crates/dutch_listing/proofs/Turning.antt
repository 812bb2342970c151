-- One turn of a level: it draws from its block, or goes on to the next one.
use Rattle.std.proofs.Common.{◌≡◌, ◌∙◌, ℕ, List, [], ◌∷◌, ◌++◌, Option, Bor, Some, None, Bool, true, false, if◌then◌else◌, is_some, option_copied, ap, sym, subst, refl, inl, inr}
use Rattle.std.specs.List.{AllByRecursion}
use Rattle.std.proofs.lemmas.Bool.{cases_Bool}
use Rattle.dutch_arrangements.specs.Prelude.{Arrangement, if_own, is_same, joined, Passes}
use Rattle.dutch_sequence.proofs.Skipping.{passes-before, passes-between, passes-same}

-- what is to come in a block, and in the blocks behind it
module _ (Pruned : Arrangement → Type 0) (blocks : Option Arrangement → List (List Arrangement)) (own : Option Arrangement) where
  -- the block has one, or the call was stopped in it
  pub block-drawn : (before after : List Arrangement) (later : Option Arrangement) → later ≡ own → Passes Pruned before after → Passes Pruned (before ++ joined (blocks own)) (after ++ joined (blocks later))
  block-drawn before after later is passes =
      passes-same Pruned (before ++ joined (blocks own)) (after ++ joined (blocks own)) (after ++ joined (blocks later))
      (passes-before Pruned before after (joined (blocks own)) passes) (ap (λ other. after ++ joined (blocks other)) (sym is))

  module _ (before : List Arrangement) (over : Passes Pruned before []) (kept : Option Arrangement) (is_kept : kept ≡ own) where
    -- the next block begins, or there is none
    pub begins-turn : (next : List (List Arrangement)) → Passes (AllByRecursion Pruned) (blocks kept) next → Passes Pruned (before ++ joined (blocks own)) (joined next)
    begins-turn next passes =
        passes-between Pruned before (blocks own) next over
        (subst (λ other. Passes (AllByRecursion Pruned) (blocks other) next) is_kept passes)

    -- the call was stopped between two blocks
    pub stops-turn : (none : List Arrangement) (later : Option Arrangement → List (List Arrangement)) (last : Option Arrangement) → none ≡ [] → last ≡ kept → Passes (AllByRecursion Pruned) (blocks kept) (later kept) → Passes Pruned (before ++ joined (blocks own)) (none ++ joined (later last))
    stops-turn none later last is_none is_last passes =
        passes-same Pruned (before ++ joined (blocks own)) (joined (later kept)) (none ++ joined (later last)) (begins-turn (later kept) passes)
        (ap (λ other. joined (later other)) (sym is_last) ∙ ap (λ xs. xs ++ joined (later last)) (sym is_none))

-- a cursor that is lent is there if it is there
pub lent-some : {T : Type 0} (lent : Option (Bor T)) (own : Option T) → option_copied lent ≡ own → is_some lent ≡ is_some own
lent-some None own is = ap is_some is
lent-some (Some x) own is = ap is_some is

-- a cursor is kept where a choice is its own
pub kept-own : (part : Arrangement → List ℕ) (own kept : Option Arrangement) (choice : List ℕ) (is_own : Bool) → is_own ≡ is_some (if_own part own choice) → kept ≡ (if is_own then own else None) → kept ≡ if_own part own choice
kept-own part None kept choice is_own is kept_is = kept_is ∙ ap (λ b. if b then None else None) is
kept-own part (Some own) kept choice is_own is kept_is =
    elim (cases_Bool (is_same choice (part own))) [
      | inl same ↦
          kept_is ∙ ap (λ b. if b then Some own else None) (is ∙ ap (λ b. is_some (if b then Some own else None)) same)
          ∙ sym (ap (λ b. if b then Some own else None) same)
      | inr other ↦
          kept_is ∙ ap (λ b. if b then Some own else None) (is ∙ ap (λ b. is_some (if b then Some own else None)) other)
          ∙ sym (ap (λ b. if b then Some own else None) other)
    ]
