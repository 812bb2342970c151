use Rattle.std.proofs.Common.{◌≡◌, ◌∙◌, ap, sym, subst}
use Rattle.dutch_arrangements.specs.Prelude.{Arrangement, Beginning, Begins, with_list}
use Rattle.dutch_listing.proofs.Passing.{tuples-left}
use Rattle.dutch_sequence.proofs.Skipping.{came, passes-more, passes-same}
use Rattle.dutch_sequence.proofs.Spending.{spends-more}
use Rattle.dutch_listing.proofs.past.choose_tuple.Goals as goal

pub loop-cuts-preserved-then-cuts : goal.loop-cuts-preserved-then-cuts
loop-cuts-preserved-then-cuts g c =
    let was = c.loop-cuts.invariant in
    let chosen = c.args.chosen.now in
    let Pruned = g.C.Cuts.Pruned c.args.cuts.now in
    let stands = came _ _ _ _ c.in-Beginning.is c.in_ok-advance.ensures.answer in
    let front = c.advance.new.self.beginning in
    let prefix : c.with.result ≡ with_list chosen.lists front = c.with.ensures ∙ ap (with_list chosen.lists) (c.deref.ensures.0 ∙ stands.1) in
    let told = subst (λ (beginning : Beginning). (a : Arrangement) → Begins beginning a → Pruned a) prefix (λ a begins. was.keeps a (c.cuts.ensures.told c.if-cuts.true a begins)) in
    record {
      passes = passes-more _ _ _ _ (passes-same _ _ _ _ was.passes (sym stands.0))
          (tuples-left Pruned chosen.lists chosen.very_next c.if-not-chosen.true front told _ _ c.leave.ensures.passes);
      ready = c.cuts.ensures.ready;
      keeps = λ a pruned. was.keeps a (c.cuts.ensures.keeps a pruned);
      spends = spends-more was.spends c.advance.ensures.spends;
    }
