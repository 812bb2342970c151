-- The pair at a place of S1 and S2, or of S1R and S2R.
use Rattle.std.proofs.Common.{◌∙◌, ◌<◌, ap, subst, sym, length, get_or, arith}
use Rattle.dutch_arrangements.specs.Prelude.{Arrangement}
use Rattle.dutch_bracket.specs.Prelude.{HasFewPairs}
use Rattle.dutch_floors.specs.KnownPairs.{number_pairs}
use Rattle.dutch_floors.proofs.SumLemmas.{nth_first, nth_second, pairs_count}
use Rattle.dutch_floors.proofs.known_pairs.pair_at.Goals as goal

pub offset_bounds-lists-inside-place-else-place-moved_down : goal.offset_bounds-lists-inside-place-else-place-moved_down
offset_bounds-lists-inside-place-else-place-moved_down c = omega (arith, c.requires.within, pairs_count c.args.lists.now c.requires.few, c.requires.few.few)

pub offset_bounds-lists-inside-place-else-place-moved_down-2 : goal.offset_bounds-lists-inside-place-else-place-moved_down-2
offset_bounds-lists-inside-place-else-place-moved_down-2 c = omega (arith, c.requires.within, pairs_count c.args.lists.now c.requires.few, c.requires.few.few)

pub bounds-lists-inside-place-else-place-moved_down : goal.bounds-lists-inside-place-else-place-moved_down
bounds-lists-inside-place-else-place-moved_down c =
    let few = subst HasFewPairs (sym c.lists.view_is) c.requires.few in
    let within = subst (λ (b : Arrangement). c.args.place < length (number_pairs b)) (sym c.lists.view_is) c.requires.within in
    omega (arith, within, pairs_count _ few, few.residents, c.if-place-moved_down.false)

pub bounds-lists-inside-place-else-place-moved_down-2 : goal.bounds-lists-inside-place-else-place-moved_down-2
bounds-lists-inside-place-else-place-moved_down-2 c =
    let few = subst HasFewPairs (sym c.lists.view_is) c.requires.few in
    let within = subst (λ (b : Arrangement). c.args.place < length (number_pairs b)) (sym c.lists.view_is) c.requires.within in
    omega (arith, within, pairs_count _ few, c.if-place-moved_down.false)

pub returns-then-place-moved_down : goal.returns-then-place-moved_down
returns-then-place-moved_down c =
    nth_first _ c.args.place (subst HasFewPairs (sym c.lists.view_is) c.requires.few) c.if-place-moved_down.true
    ∙ ap (λ (b : Arrangement). get_or (number_pairs b) c.args.place (0, 0)) c.lists.view_is

pub returns-else-place-moved_down : goal.returns-else-place-moved_down
returns-else-place-moved_down c =
    nth_second _ c.args.place (subst HasFewPairs (sym c.lists.view_is) c.requires.few) (omega (arith, c.if-place-moved_down.false))
    (subst (λ (b : Arrangement). c.args.place < length (number_pairs b)) (sym c.lists.view_is) c.requires.within)
    ∙ ap (λ (b : Arrangement). get_or (number_pairs b) c.args.place (0, 0)) c.lists.view_is
