-- One number more is told of; at last players of one class weigh the same.
use Rattle.std.proofs.Common.{◌≡◌, ◌+◌, ◌∙◌, List, [], ◌∷◌, ◌++◌, ℕ, length, ap, sym, subst, arith}
use Rattle.std.proofs.lemmas.List.{length-append}
use Rattle.dutch_weight_floors.specs.Prelude.{Scoped, TellAlike, WeighAlike, size_by}
use Rattle.dutch_weight_floors.proofs.AlikeNumbers.{by_class, one_alike_more}
use Rattle.dutch_weight_floors.proofs.scoped.Scoped.classes.Goals as goal

pub loop-above-preserved : goal.loop-above-preserved
loop-above-preserved c =
    let s : Scoped = c.args.self.now in
    let list : List ℕ = c.loop-above.classes.items in
    let class : ℕ = c.alike.result in
    let room = c.loop-above.invariant.room in
    let longer : length (list ++ class ∷ []) ≡ length list + 1 = length-append list (class ∷ []) in
    let one = one_alike_more s list class c.loop-above.invariant.told (subst (λ (n : ℕ). WeighAlike s n class) (sym room) c.alike.ensures) in
    let items = c.in_ok-push-2.ensures.items in
    record {
      told = subst (λ (l : List ℕ). TellAlike s l (length l)) (sym items) (subst (TellAlike s (list ++ class ∷ [])) (sym longer) one);
      room = ap length items ∙ (longer ∙ ap (λ (n : ℕ). n + 1) room);
      within = omega (arith, c.loop-above-test.true, c.size-count.ensures.value);
    }

pub returns : goal.returns
returns c =
    let s : Scoped = c.args.self.now in
    let list : List ℕ = c.loop-above.classes.items in
    let count : length list ≡ size_by s.reach s.weighing + 1 =
    omega (arith, c.loop-above.invariant.room, c.loop-above.invariant.within, c.loop-above-test.false, c.size-count.ensures.value) in
    by_class s (c.weighs_by_class.ensures.nothing c.if-not-weighs_by_class.false) (c.weighs_by_class.ensures.reach c.if-not-weighs_by_class.false) list count
    c.loop-above.invariant.told
