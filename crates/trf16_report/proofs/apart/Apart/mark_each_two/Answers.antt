use Rattle.std.proofs.Common.{◌≡◌, ℕ, ◌+◌, ◌*◌, ◌<◌, Bool, true, false, ◌||◌, ◌&&◌, ◌==◌, List, length, take, slice_index_or, refl, ap, sym, ◌∙◌, arith}
use Rattle.std.proofs.lemmas.List.{with_items_is}
use Rattle.std.proofs.lemmas.List.Folds.{list_any_more}
use Rattle.trf16_report.specs.Prelude.{are_marked, is_place}
use Rattle.trf16_report.proofs.apart.Apart.mark_each_two.Goals as goal

-- what is marked by one row more
joined : (before front here named : Bool) → ((before || (front && named)) || (here && named)) ≡ (before || ((front || here) && named))
joined true front here named = refl
joined false true here true = refl
joined false true true false = refl
joined false true false false = refl
joined false false here named = refl

row_marked : (new old named : List Bool) (places : List ℕ) (n k m i : ℕ) (before : Bool) → i < length places
    → slice_index_or new (n * k + m) false ≡ (slice_index_or old (n * k + m) false || ((slice_index_or places i 0 == k) && slice_index_or named m false))
    → slice_index_or old (n * k + m) false ≡ (before || (is_place (take i places) k && slice_index_or named m false))
    → slice_index_or new (n * k + m) false ≡ (before || (is_place (take (i + 1) places) k && slice_index_or named m false))
row_marked new old named places n k m i before lt here was =
    let here_too = slice_index_or places i 0 == k in
    let marked = slice_index_or named m false in
    here ∙ ap (λ b. b || (here_too && marked)) was ∙ joined before (is_place (take i places) k) here_too marked
    ∙ ap (λ b. before || (b && marked)) (sym (list_any_more (λ place. place == k) places i 0 lt))

pub loop-place-preserved : goal.loop-place-preserved
loop-place-preserved c = (
  λ k m lt.
      let places = c.args.named.now.places.items in
      let i = c.loop-place.place-index in
      let same = c.loop-place.invariant.1 in
      let size : length c.deref.result.now ≡ c.loop-place.self.count = c.deref.ensures.len ∙ c.requires.count ∙ sym same in
      let items = with_items_is c.loop-place.self.marks c.mark_row.new.marks (c.mark_row.ensures.len ∙ c.deref_mut.ensures.len) in
      ap (λ (marks : List Bool). slice_index_or marks (c.loop-place.self.count * k + m) false) items
      ∙ row_marked c.mark_row.new.marks c.loop-place.self.marks.items c.args.named.now.marks.items places c.loop-place.self.count k m i (are_marked c.args.self.now k m)
      (rw (← c.deref-place-items.ensures.value) c.loop-place-test.true)
      (rw (← size, ← c.deref_mut.ensures.value, ← c.deref.ensures.value, ← c.deref-place-items.ensures.value)
      (c.mark_row.ensures.marked k m (omega (arith, lt, size, same))))
      (c.loop-place.invariant.0 k m lt),
  c.loop-place.invariant.1,
  c.loop-place.invariant.2,
)
