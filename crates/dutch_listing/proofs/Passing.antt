-- What is passed over: less where less is pruned, and what begins as a choice that was left.
use Rattle.std.proofs.Common.{◌≡◌, ℕ, Bool, false, List, ◌++◌, ◌∙◌, ap, append_assoc, subst}
use Rattle.std.specs.List.{AllByRecursion}
use Rattle.dutch_arrangements.specs.Prelude.{Arrangement, Beginning, Begins, BeginsAt, ExchangeClass, GoesOn, IsExchange, IsPassedSet, IsPassedTuple, Passes, filled, with_list}
use Rattle.dutch_arrangements.specs.declared.prefix.Filling.{Filling}
use Rattle.dutch_arrangements.specs.declared.prefix.Filling.TheVariants.{ChoosingS1, S2, S2r}
use Rattle.dutch_sequence.proofs.LeftOut.{all-each}

-- where a fact follows from another one
pub passes-each : {T : Type 0} (P Q : T → Type 0) (xs ys : List T) → ((x : T) → P x → Q x) → Passes P xs ys → Passes Q xs ys
passes-each P Q xs ys from (front, same, pruned) = (front, same, all-each P Q from front pruned)

pub blocks-each : {T : Type 0} (P Q : T → Type 0) (xs ys : List (List T)) → ((x : T) → P x → Q x) → Passes (AllByRecursion P) xs ys → Passes (AllByRecursion Q) xs ys
blocks-each P Q xs ys from = passes-each (AllByRecursion P) (AllByRecursion Q) xs ys (λ block. all-each P Q from block)

goes-on-more : (front list xs : List ℕ) → GoesOn front list → GoesOn list xs → GoesOn front xs
goes-on-more front list xs on more = record {
  rest = on.rest ++ more.rest;
  is = more.is ∙ ap (λ l. l ++ more.rest) on.is ∙ append_assoc front on.rest more.rest;
}

-- what begins with a longer list begins with the shorter one
begins-shorter : (filling : Filling) (lists : Arrangement) (front list : List ℕ) → GoesOn front list → (a : Arrangement) → BeginsAt filling (filled filling lists list) a → BeginsAt filling (filled filling lists front) a
begins-shorter ChoosingS1 lists front list on a begins = begins
begins-shorter S2 lists front list on a begins = (begins.0, goes-on-more front list a.s2 on begins.1)
begins-shorter S2r lists front list on a begins = (begins.0, begins.1, begins.2, goes-on-more front list a.s2r on begins.3)

-- the tuples of a beginning that is left
pub tuples-left : (Pruned : Arrangement → Type 0) (chosen : Beginning) (very_next : Bool) → very_next ≡ false → (front : List ℕ) → ((a : Arrangement) → Begins (with_list chosen front) a → Pruned a) → (xs ys : List (List ℕ)) → Passes (GoesOn front) xs ys → Passes (IsPassedTuple Pruned chosen very_next) xs ys
tuples-left Pruned chosen very_next asks front pruned xs ys =
    passes-each (GoesOn front) (IsPassedTuple Pruned chosen very_next) xs ys
    (λ tuple on. (asks, λ a begins. pruned a (begins-shorter chosen.filling chosen.lists front tuple on a begins)))

-- and the sets
pub sets-left : (Pruned : Arrangement → Type 0) (chosen : Beginning) (very_next : Bool) → very_next ≡ false → (exchange : ExchangeClass) → ((a : Arrangement) → Begins chosen a → IsExchange exchange a.s1r → Pruned a) → (xs ys : List (List ℕ)) → Passes (IsExchange exchange) xs ys → Passes (IsPassedSet Pruned chosen very_next) xs ys
sets-left Pruned chosen very_next asks exchange pruned xs ys =
    passes-each (IsExchange exchange) (IsPassedSet Pruned chosen very_next) xs ys
    (λ s1r is. (asks, λ a begins same. pruned a begins (subst (IsExchange exchange) same is)))
