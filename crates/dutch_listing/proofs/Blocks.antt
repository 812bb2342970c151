-- One turn of a level that goes through its blocks: the choice that comes is the cursor's own, or any other.
use Rattle.std.proofs.Common.{◌≡◌, ℕ, Bool, true, false, if◌then◌else◌, List, [], ◌∷◌, ◌++◌, refl, map, sym, subst, inl, inr, append-nil, is_some, option_copied, Bor, Option, Some, None, ap, ◌∙◌}
use Rattle.std.specs.List.{AllByRecursion}
use Rattle.dutch_arrangements.specs.Prelude.{Arrangement, IsPassedTuple, left_of, is_same, Of, arranged, blocks_from, if_own, in_s1r, in_s2, s1r_blocks, exchanges, GoesOn, Passes}
use Rattle.dutch_arrangements.specs.declared.prefix.Filling.TheVariants.{S2r}
use Rattle.std.proofs.lemmas.Bool.{cases_Bool, true≢false}
use Rattle.dutch_sequence.proofs.FromOn.{is_same-true}
use Rattle.dutch_sequence.proofs.Skipping.{all-joined, passes-map, passes-none}

-- the next choice is taken: its block stands before whole ones
pub block-comes : (part : Arrangement → List ℕ) (block : Option Arrangement → List ℕ → List Arrangement) (own : Option Arrangement) (choice : List ℕ) (coming later : List (List ℕ)) → coming ≡ choice ∷ later → blocks_from part block own coming ≡ block (if_own part own choice) choice ∷ map (block None) later
block-comes part block None choice coming later comes = ap (map (block None)) comes
block-comes part block (Some own) choice coming later comes = ap (blocks_from part block (Some own)) comes

-- where no choice is left, no block is
pub no-blocks : (part : Arrangement → List ℕ) (block : Option Arrangement → List ℕ → List Arrangement) (own : Option Arrangement) → blocks_from part block own [] ≡ []
no-blocks part block None = refl
no-blocks part block (Some own) = refl

-- what holds of a cursor holds of it where a choice is its own, and it has that choice
own-holds : (part : Arrangement → List ℕ) (P : Arrangement → Type 0) (own : Option Arrangement) (choice : List ℕ) → Of P own → Of (λ a. P a × (part a ≡ choice)) (if_own part own choice)
own-holds part P None choice holds = tt {0}
own-holds part P (Some own) choice holds =
    elim (cases_Bool (is_same choice (part own))) [
      | inl same ↦ subst (λ b. Of (λ a. P a × (part a ≡ choice)) (if b then Some own else None)) (sym same) (holds, sym (is_same-true choice (part own) same))
      | inr other ↦ subst (λ b. Of (λ a. P a × (part a ≡ choice)) (if b then Some own else None)) (sym other) (tt {0})
    ]

pub of-both : (P Q : Arrangement → Type 0) (own : Option Arrangement) → ((a : Arrangement) → P a → Q a) → Of P own → Of Q own
of-both P Q None from holds = tt {0}
of-both P Q (Some own) from holds = from own holds

-- what follows of a cursor that is taken where a choice is its own
pub taken : (part : Arrangement → List ℕ) (P Q : Arrangement → Type 0) (own result : Option Arrangement) (choice : List ℕ) → result ≡ if_own part own choice → Of P own → ((a : Arrangement) → P a → part a ≡ choice → Q a) → Of Q result
taken part P Q own result choice is holds from =
    subst (Of Q) (sym is) (of-both (λ a. P a × (part a ≡ choice)) Q (if_own part own choice) (λ a both. from a both.0 both.1) (own-holds part P own choice holds))

-- what holds of each that a map makes
all-made : {S T : Type 0} (P : T → Type 0) (f : S → T) (xs : List S) → ((x : S) → P (f x)) → AllByRecursion P (map f xs)
all-made P f [] each = tt {0}
all-made P f (x ∷ xs) each = (each x, all-made P f xs each)

-- what holds of each block
all-blocks : (P : List Arrangement → Type 0) (part : Arrangement → List ℕ) (block : Option Arrangement → List ℕ → List Arrangement) → ((own : Option Arrangement) (choice : List ℕ) → P (block own choice)) → (own : Option Arrangement) (choices : List (List ℕ)) → AllByRecursion P (blocks_from part block own choices)
all-blocks P part block each None choices = all-made P (block None) choices (each None)
all-blocks P part block each (Some own) [] = tt {0}
all-blocks P part block each (Some own) (choice ∷ choices) = (each (if_own part (Some own) choice) choice, all-made P (block None) choices (each None))

-- where each arrangement with an S1 and an S2 is pruned
module _ (Pruned : Arrangement → Type 0) (s1 s2 : List ℕ) (each : (a : Arrangement) → s1 ≡ a.s1 → s2 ≡ a.s2 → Pruned a) where
  pruned-arranged : (s1r : List ℕ) (lists : List (List ℕ)) → AllByRecursion Pruned (map (arranged s1 s2 s1r) lists)
  pruned-arranged s1r lists = all-made Pruned (arranged s1 s2 s1r) lists (λ s2r. each (arranged s1 s2 s1r s2r) refl refl)

  -- the blocks for S1R are pruned
  pub pruned-s1r-blocks : (meets : ℕ → ℕ → Bool) (remainder : List ℕ) (own : Option Arrangement) (sets : List (List ℕ)) → AllByRecursion (AllByRecursion Pruned) (s1r_blocks meets s1 s2 remainder own sets)
  unfolding in_s1r
  pruned-s1r-blocks meets remainder own sets =
      all-blocks (AllByRecursion Pruned) (λ a. a.s1r) (in_s1r meets s1 s2 remainder) (λ own s1r. pruned-arranged s1r _) own sets

  -- and so is all that is in them
  pub pruned-in-s2 : (meets : ℕ → ℕ → Bool) (k : ℕ) (residents : List ℕ) → AllByRecursion Pruned (in_s2 meets k s1 residents None s2)
  unfolding in_s2
  pruned-in-s2 meets k residents =
      all-joined Pruned _ (pruned-s1r-blocks meets (left_of residents s2) None (exchanges (left_of residents s2) k))

-- a list begins with itself
pub goes-whole : (front list : List ℕ) → front ≡ list → GoesOn front list
goes-whole front list same = record { rest = []; is = sym same ∙ sym (append-nil front) }

-- where S1, S2 and S1R are chosen, arrangements are skipped as their S2R are
pub passes-arranged : (Pruned : Arrangement → Type 0) (s1 s2 s1r chosen_s1 chosen_s2 chosen_s1r none : List ℕ) (very_next : Bool) → chosen_s1 ≡ s1 → chosen_s2 ≡ s2 → chosen_s1r ≡ s1r → (xs ys : List (List ℕ)) → Passes (IsPassedTuple Pruned (record { filling = S2r; lists = arranged chosen_s1 chosen_s2 chosen_s1r none }) very_next) xs ys → Passes Pruned (map (arranged s1 s2 s1r) xs) (map (arranged s1 s2 s1r) ys)
passes-arranged Pruned s1 s2 s1r chosen_s1 chosen_s2 chosen_s1r none very_next at_s1 at_s2 at_s1r xs ys =
    passes-map (IsPassedTuple Pruned (record { filling = S2r; lists = arranged chosen_s1 chosen_s2 chosen_s1r none }) very_next) Pruned (arranged s1 s2 s1r) xs ys
    (λ s2r passed. passed.1 (arranged s1 s2 s1r s2r) (at_s1, at_s2, at_s1r, goes-whole s2r s2r refl))

-- four lists that are copied
pub same-lists : (a b : Arrangement) → a.s1 ≡ b.s1 → a.s2 ≡ b.s2 → a.s1r ≡ b.s1r → a.s2r ≡ b.s2r → a ≡ b
same-lists a b s1 s2 s1r s2r =
    ap (λ list. arranged list a.s2 a.s1r a.s2r) s1
    ∙ ap (λ list. arranged b.s1 list a.s1r a.s2r) s2
    ∙ ap (λ list. arranged b.s1 b.s2 list a.s2r) s1r
    ∙ ap (λ list. arranged b.s1 b.s2 b.s1r list) s2r

-- once S1 and S2 are chosen, all is pruned where each arrangement that begins so is
pub pruned-behind-s2 : (Pruned : Arrangement → Type 0) (s1 chosen_s1 s2 : List ℕ) → chosen_s1 ≡ s1 → ((a : Arrangement) → (chosen_s1 ≡ a.s1) × GoesOn s2 a.s2 → Pruned a) → (meets : ℕ → ℕ → Bool) (k : ℕ) (residents : List ℕ) → AllByRecursion Pruned (in_s2 meets k s1 residents None s2)
pruned-behind-s2 Pruned s1 chosen_s1 s2 at_s1 each =
    pruned-in-s2 Pruned s1 s2 (λ a is_s1 is_s2. each a (at_s1 ∙ is_s1, goes-whole s2 a.s2 is_s2))

-- and so once S1R is
pub pruned-behind-s1r : (Pruned : Arrangement → Type 0) (s1 chosen_s1 s2 chosen_s2 s1r : List ℕ) → chosen_s1 ≡ s1 → chosen_s2 ≡ s2 → ((a : Arrangement) → (chosen_s1 ≡ a.s1) × GoesOn chosen_s2 a.s2 → s1r ≡ a.s1r → Pruned a) → (meets : ℕ → ℕ → Bool) (remainder : List ℕ) → AllByRecursion Pruned (in_s1r meets s1 s2 remainder None s1r)
unfolding in_s1r
pruned-behind-s1r Pruned s1 chosen_s1 s2 chosen_s2 s1r at_s1 at_s2 each meets remainder =
    all-made Pruned (arranged s1 s2 s1r) _ (λ s2r. each (arranged s1 s2 s1r s2r) (at_s1, goes-whole chosen_s2 s2 at_s2) refl)

-- choices of which pruned ones may be passed over, but none while a cursor is left: the next one, the end, or a stop
module _ (Pruned : Arrangement → Type 0) (part : Arrangement → List ℕ) (block : Option Arrangement → List ℕ → List Arrangement) (IsPruned : List ℕ → Type 0) (each : (choice : List ℕ) → IsPruned choice → AllByRecursion Pruned (block None choice)) (very : Bool) where
  abbrev IsPassed : List ℕ → Type 0
  IsPassed choice = (very ≡ false) × IsPruned choice

  passes-choices : (xs ys : List (List ℕ)) → Passes IsPassed xs ys → Passes (AllByRecursion Pruned) (map (block None) xs) (map (block None) ys)
  passes-choices xs ys passes = passes-map IsPassed (AllByRecursion Pruned) (block None) xs ys (λ choice passed. each choice passed.1) passes

  none-in : very ≡ true → (front : List (List ℕ)) → AllByRecursion IsPassed front → front ≡ []
  none-in is [] passed = refl
  none-in is (choice ∷ front) passed = absurd (true≢false (sym is ∙ passed.0.0))

  none-passed-over : very ≡ true → (xs ys : List (List ℕ)) → Passes IsPassed xs ys → xs ≡ ys
  none-passed-over is xs ys (front, same, passed) = same ∙ ap (λ list. list ++ ys) (none-in is front passed)

  pub comes : (own : Option Arrangement) → very ≡ is_some own → (xs ys : List (List ℕ)) (choice : List ℕ) → Passes IsPassed xs (choice ∷ ys) → Passes (AllByRecursion Pruned) (blocks_from part block own xs) (block (if_own part own choice) choice ∷ map (block None) ys)
  comes None is xs ys choice passes = passes-choices xs (choice ∷ ys) passes
  comes (Some own) is xs ys choice passes =
      passes-none (AllByRecursion Pruned) _ _ (block-comes part block (Some own) choice xs ys (none-passed-over is xs (choice ∷ ys) passes))

  pub ends : (own : Option Arrangement) → very ≡ is_some own → (xs : List (List ℕ)) → Passes IsPassed xs [] → Passes (AllByRecursion Pruned) (blocks_from part block own xs) []
  ends None is xs passes = passes-choices xs [] passes
  ends (Some own) is xs passes =
      passes-none (AllByRecursion Pruned) _ _ (ap (blocks_from part block (Some own)) (none-passed-over is xs [] passes))

  pub stops : (own : Option Arrangement) → very ≡ is_some own → (xs ys : List (List ℕ)) → Passes IsPassed xs ys → Passes (AllByRecursion Pruned) (blocks_from part block own xs) (blocks_from part block own ys)
  stops None is xs ys passes = passes-choices xs ys passes
  stops (Some own) is xs ys passes =
      passes-none (AllByRecursion Pruned) _ _ (ap (blocks_from part block (Some own)) (none-passed-over is xs ys passes))
