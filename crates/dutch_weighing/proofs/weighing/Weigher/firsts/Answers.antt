-- One number more is told of.
use Rattle.std.proofs.Common.{◌≡◌, ◌+◌, ◌∙◌, List, [], ◌∷◌, ◌++◌, ℕ, length, ap, sym, subst, arith}
use Rattle.std.proofs.lemmas.List.{length-append}
use Rattle.dutch_weighing.specs.Classes.{IsFirstFor, TellsFirstsUpto}
use Rattle.dutch_weighing.specs.Prelude.{Weighing}
use Rattle.dutch_weighing.proofs.WeighingLemmas.{one_first_more}
use Rattle.dutch_weighing.proofs.weighing.Weigher.firsts.Goals as goal

pub loop-above-preserved : goal.loop-above-preserved
loop-above-preserved c =
    let w = c.args.self.now in
    let front : List ℕ = c.loop-above.firsts.items in
    let first : ℕ = c.first_for.result in
    let room = c.loop-above.invariant.room in
    let longer : length (front ++ first ∷ []) ≡ length front + 1 = length-append front (first ∷ []) in
    let one = one_first_more w front first c.loop-above.invariant.told (subst (λ (n : ℕ). IsFirstFor w (n + 1) first) (sym room) c.first_for.ensures) in
    let items = c.in_ok-push.ensures.items in
    record {
      told =
          subst (λ (list : List ℕ). TellsFirstsUpto w list (length list)) (sym items) (subst (TellsFirstsUpto w (front ++ first ∷ [])) (sym longer) one);
      room = ap length items ∙ (longer ∙ ap (λ (n : ℕ). n + 1) room);
      within = omega (arith, c.loop-above-test.true, c.len-count.ensures.value, ap (λ (v : Weighing). length v.reached.seats) c.self.view_is);
    }
