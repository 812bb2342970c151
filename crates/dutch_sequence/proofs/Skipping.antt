-- Lists that go on once some of their beginning is skipped.
use Rattle.std.proofs.Common.{◌≡◌, ◌≤◌, Bool, true, false, cond, List, [], ◌∷◌, ◌++◌, map, length, length-append, Result, Ok, Err, refl, sym, ◌∙◌, ap, subst, append_assoc, append-nil, arith, inl, inr}
use Rattle.std.specs.List.{AllByRecursion, filter}
use Rattle.std.specs.Result.{IsErr}
use Rattle.std.proofs.lemmas.List.Elements.{filter-append}
use Rattle.dutch_sequence.specs.Prelude.{IsIn, joined, MatchDrawn, MatchProgress, Passes}
use Rattle.dutch_sequence.specs.declared.steps.Progress.{Progress}
use Rattle.dutch_sequence.specs.declared.steps.Stopped.{Stopped}

-- what holds of each in two lists holds of each in both
pub all-append : {T : Type 0} (P : T → Type 0) (xs ys : List T) → AllByRecursion P xs → AllByRecursion P ys → AllByRecursion P (xs ++ ys)
all-append P [] ys front rest = rest
all-append P (x ∷ xs) ys front rest = (front.0, all-append P xs ys front.1 rest)

-- and of each of those behind some
pub all-behind : {T : Type 0} (P : T → Type 0) (xs ys : List T) → AllByRecursion P (xs ++ ys) → AllByRecursion P ys
all-behind P [] ys all = all
all-behind P (x ∷ xs) ys all = all-behind P xs ys all.1

-- what holds of all holds of each
pub all-of : {T : Type 0} (P : T → Type 0) (xs : List T) → ((x : T) → P x) → AllByRecursion P xs
all-of P [] each = tt {0}
all-of P (x ∷ xs) each = (each x, all-of P xs each)

-- what holds of each member
pub all-members : {T : Type 0} (P : T → Type 0) (xs : List T) → ((x : T) → IsIn x xs → P x) → AllByRecursion P xs
all-members P [] each = tt {0}
all-members P (x ∷ xs) each = (each x (inl refl), all-members P xs (λ y m. each y (inr m)))

-- through a map
pub all-map : {S T : Type 0} (P : S → Type 0) (Q : T → Type 0) (f : S → T) (xs : List S) → ((x : S) → P x → Q (f x)) → AllByRecursion P xs → AllByRecursion Q (map f xs)
all-map P Q f [] from all = tt {0}
all-map P Q f (x ∷ xs) from all = (from x all.0, all-map P Q f xs from all.1)

-- in blocks one after another
pub all-joined : {T : Type 0} (P : T → Type 0) (blocks : List (List T)) → AllByRecursion (AllByRecursion P) blocks → AllByRecursion P (joined blocks)
all-joined P [] all = tt {0}
all-joined P (block ∷ blocks) all = all-append P block (joined blocks) all.0 (all-joined P blocks all.1)

-- of those that pass a test
pub all-filter : {T : Type 0} (P : T → Type 0) (p : T → Bool) (xs : List T) → AllByRecursion P xs → AllByRecursion P (filter p xs)
all-filter P p [] all = tt {0}
all-filter P p (x ∷ xs) all =
    elim (p x) as (λ b. AllByRecursion P (cond b (x ∷ filter p xs) (filter p xs))) [
      | true ↦ (all.0, all-filter P p xs all.1)
      | false ↦ all-filter P p xs all.1
    ]

joined-append : {T : Type 0} (xs ys : List (List T)) → joined (xs ++ ys) ≡ joined xs ++ joined ys
joined-append [] ys = refl
joined-append (block ∷ xs) ys =
    ap (λ rest. block ++ rest) (joined-append xs ys) ∙ sym (append_assoc block (joined xs) (joined ys))

map-appended : {S T : Type 0} (f : S → T) (xs ys : List S) → map f (xs ++ ys) ≡ map f xs ++ map f ys
map-appended f [] ys = refl
map-appended f (x ∷ xs) ys = ap (λ rest. f x ∷ rest) (map-appended f xs ys)

module _ {T : Type 0} (Pruned : T → Type 0) where
  -- nothing is skipped
  pub passes-none : (xs ys : List T) → xs ≡ ys → Passes Pruned xs ys
  passes-none xs ys same = ([], same, tt {0})

  -- all are skipped
  pub passes-all : (xs : List T) → AllByRecursion Pruned xs → Passes Pruned xs []
  passes-all xs all = (xs, sym (append-nil xs), all)

  -- what skips and then skips more
  pub passes-more : (xs ys zs : List T) → Passes Pruned xs ys → Passes Pruned ys zs → Passes Pruned xs zs
  passes-more xs ys zs (front, same, pruned) (front', same', pruned') = (
    front ++ front',
    same ∙ ap (λ rest. front ++ rest) same' ∙ sym (append_assoc front front' zs),
    all-append Pruned front front' pruned pruned',
  )

  -- what is left may be named otherwise
  pub passes-same : (xs ys zs : List T) → Passes Pruned xs ys → ys ≡ zs → Passes Pruned xs zs
  passes-same xs ys zs passes same = passes-more xs ys zs passes (passes-none ys zs same)

  -- what stands behind is no matter
  pub passes-before : (xs ys more : List T) → Passes Pruned xs ys → Passes Pruned (xs ++ more) (ys ++ more)
  passes-before xs ys more (front, same, pruned) =
      (front, ap (λ list. list ++ more) same ∙ append_assoc front ys more, pruned)

  -- whole blocks that are skipped
  pub passes-blocks : (xs ys : List (List T)) → Passes (AllByRecursion Pruned) xs ys → Passes Pruned (joined xs) (joined ys)
  passes-blocks xs ys (front, same, pruned) =
      (joined front, ap joined same ∙ joined-append front ys, all-joined Pruned front pruned)

  -- from a block of which all is pruned to the next ones
  pub passes-between : (block : List T) (blocks others : List (List T)) → Passes Pruned block [] → Passes (AllByRecursion Pruned) blocks others → Passes Pruned (block ++ joined blocks) (joined others)
  passes-between block blocks others ended passes =
      passes-more (block ++ joined blocks) (joined blocks) (joined others) (passes-before block [] (joined blocks) ended) (passes-blocks blocks others passes)

  -- through a test
  pub passes-filter : (p : T → Bool) (xs ys : List T) → Passes Pruned xs ys → Passes Pruned (filter p xs) (filter p ys)
  passes-filter p xs ys (front, same, pruned) =
      (filter p front, ap (filter p) same ∙ filter-append p front ys, all-filter Pruned p front pruned)

  -- what holds of each to come holds of each that is left
  pub passes-keeps : (P : T → Type 0) (xs ys : List T) → Passes Pruned xs ys → AllByRecursion P xs → AllByRecursion P ys
  passes-keeps P xs ys (front, same, pruned) all = all-behind P front ys (subst (AllByRecursion P) same all)

  -- no more are left than were to come
  pub passes-fewer : (xs ys : List T) → Passes Pruned xs ys → length ys ≤ length xs
  passes-fewer xs ys (front, same, pruned) = omega (arith, ap length same, length-append front ys)

-- through a map
pub passes-map : {S T : Type 0} (P : S → Type 0) (Q : T → Type 0) (f : S → T) (xs ys : List S) → ((x : S) → P x → Q (f x)) → Passes P xs ys → Passes Q (map f xs) (map f ys)
passes-map P Q f xs ys from (front, same, pruned) =
    (map f front, ap (map f) same ∙ map-appended f front ys, all-map P Q f front from pruned)

all-both : {T : Type 0} (P Q R : T → Type 0) (front ys : List T) → ((x : T) → R x → P x → Q x) → AllByRecursion R (front ++ ys) → AllByRecursion P front → AllByRecursion Q front
all-both P Q R [] ys from all pruned = tt {0}
all-both P Q R (x ∷ front) ys from all pruned = (from x all.0 pruned.0, all-both P Q R front ys from all.1 pruned.1)

-- where a fact follows for those to come
pub passes-weaker : {T : Type 0} (P Q R : T → Type 0) (xs ys : List T) → ((x : T) → R x → P x → Q x) → AllByRecursion R xs → Passes P xs ys → Passes Q xs ys
passes-weaker P Q R xs ys from all (front, same, pruned) =
    (front, same, all-both P Q R front ys from (subst (AllByRecursion R) same all) pruned)

-- where nothing is pruned, nothing is skipped
none-passed-in : {T : Type 0} (front : List T) → AllByRecursion (λ _. ⊥) front → front ≡ []
none-passed-in [] pruned = refl
none-passed-in (x ∷ front) pruned = absurd pruned.0

pub none-passed : {T : Type 0} (xs ys : List T) → Passes (λ _. ⊥) xs ys → xs ≡ ys
none-passed xs ys (front, same, pruned) = same ∙ ap (λ list. list ++ ys) (none-passed-in front pruned)

-- a filter passes over the first of a list, or keeps it
pub filter-keeps : {T : Type 0} (p : T → Bool) (x : T) (xs : List T) → p x ≡ true → filter p (x ∷ xs) ≡ x ∷ filter p xs
filter-keeps p x xs passes = ap (λ b. cond b (x ∷ filter p xs) (filter p xs)) passes

pub filter-drops : {T : Type 0} (p : T → Bool) (x : T) (xs : List T) → p x ≡ false → filter p (x ∷ xs) ≡ filter p xs
filter-drops p x xs fails = ap (λ b. cond b (x ∷ filter p xs) (filter p xs)) fails

-- what is known of a call that was not stopped, once it is known what it answered
pub drawn : {was is : Bool} (F N S : Type 0) → was ≡ is → MatchDrawn {E = Stopped} (Ok was) F N S → MatchDrawn {E = Stopped} (Ok is) F N S
drawn F N S same = subst (λ answer. MatchDrawn {E = Stopped} (Ok answer) F N S) same

-- and of one that was
pub drawn-stopped : (F N S : Type 0) (answer : Result Bool Stopped) → IsErr answer → S → MatchDrawn answer F N S
drawn-stopped F N S (Err e) is given = given
drawn-stopped F N S (Ok answer) is given = cc

-- and the same of a search that stands still at each beginning
pub came : {was is : Progress} (B W O S : Type 0) → was ≡ is → MatchProgress {E = Stopped} (Ok was) B W O S → MatchProgress {E = Stopped} (Ok is) B W O S
came B W O S same = subst (λ answer. MatchProgress {E = Stopped} (Ok answer) B W O S) same

pub came-stopped : (B W O S : Type 0) (answer : Result Progress Stopped) → IsErr answer → S → MatchProgress answer B W O S
came-stopped B W O S (Err e) is given = given
came-stopped B W O S (Ok answer) is given = cc
