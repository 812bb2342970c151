-- One set more has a mark for each vertex too.
use Rattle.std.proofs.Common.{◌≡◌, ◌++◌, ◌∷◌, [], List, All, length, sym, ◌∙◌, ap, subst}
use Rattle.std.proofs.lemmas.List.Elements.{All-push}
use Rattle.dual.specs.declared.table.MarkedSet.{MarkedSet}
use Rattle.cheapest.proofs.forest.Forest.priced_sets.Goals as goal
use Rattle.cheapest.proofs.forest.Forest.priced_sets.Goals.{then-has_price+in_ok-set+in_ok-push, else-has_price}

pub loop-blossom-preserved : goal.loop-blossom-preserved
loop-blossom-preserved g c =
    let Has : MarkedSet → Type 0 = λ set. length set.marks.items ≡ c.args.size in
    let old = c.loop-blossom.invariant in
    let before : List MarkedSet = c.loop-blossom.sets.items in
    elim c.if-has_price.branch [
      | then-has_price+in_ok-set+in_ok-push w ↦
          let pushed : List MarkedSet = before ++ (w.in_ok-set.set ∷ []) in
          let is = ◌∙◌ {c = pushed} (ap (λ v. v.items) w.sets-is) w.in_ok-push.ensures.items in
          subst (All Has) (sym {b = pushed} is) (All-push Has before w.in_ok-set.set old w.in_ok-set.ensures)
      | else-has_price w ↦ subst (All Has) (sym {b = before} (ap (λ v. v.items) w.sets-is)) old
    ]
