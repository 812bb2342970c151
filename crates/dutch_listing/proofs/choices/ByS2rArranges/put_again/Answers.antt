use Rattle.std.proofs.Common.{sym}
use Rattle.dutch_arrangements.specs.Prelude.{arranged}
use Rattle.dutch_listing.proofs.Blocks.{same-lists}
use Rattle.dutch_listing.proofs.choices.ByS2rArranges.put_again.Goals as goal

pub returns : goal.returns
returns g c =
    let own = c.self.inside in
    rw (← c.self.view_is) (same-lists (arranged c.refill.new.list.items c.refill-2.new.list.items c.refill-3.new.list.items c.refill-4.new.list.items)
    (arranged own.s1.items own.s2.items own.s1r.items own.others.s2r.latest.items)
    c.refill.ensures c.refill-2.ensures c.refill-3.ensures c.refill-4.ensures)
