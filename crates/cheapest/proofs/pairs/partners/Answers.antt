-- Each vertex's answer keeps the list a copy of the pairs, and a whole copy is a matching.
use Rattle.std.proofs.Common.{arith}
use Rattle.matching.proofs.PairLemmas.{one_more, whole}
use Rattle.cheapest.proofs.pairs.partners.Goals as goal

pub loop-a-preserved : goal.loop-a-preserved
loop-a-preserved g c =
    let kept = c.loop-a.invariant in
    record {
      places = omega (arith, c.in_ok-push.ensures.len);
      size = kept.size;
      wanted = kept.wanted;
      copies = one_more _ _ _ c.push.new.self.items c.partner.result _ kept.places c.in_ok-push.ensures.items (rw c.deref.ensures.value at c.partner.ensures) kept.copies;
    }

pub returns : goal.returns
returns g c =
    let kept = c.loop-a.invariant in
    whole _ _ _ _ (omega arith) (omega arith) kept.copies
