-- A list that goes on as another one, which goes on as a third one, goes on as the third: what is skipped on the way is pruned.
use Rattle.std.proofs.Common.{List, ◌++◌, sym, ap, ◌∙◌}
use Rattle.std.proofs.lemmas.List.{append_assoc}
use Rattle.dutch_arrangements.specs.Prelude.{Passes}
use Rattle.dutch_bracket.proofs.AllLemmas.{all_join}

pub passes_twice : {T : Type 0} (Pruned : T → Type 0) (xs ys zs : List T) → Passes Pruned xs ys → Passes Pruned ys zs → Passes Pruned xs zs
passes_twice Pruned xs ys zs (skipped, same, pruned) (more, same', pruned') =
    (skipped ++ more, same ∙ ap (λ rest. skipped ++ rest) same' ∙ sym (append_assoc skipped more zs), all_join Pruned skipped more pruned pruned')
