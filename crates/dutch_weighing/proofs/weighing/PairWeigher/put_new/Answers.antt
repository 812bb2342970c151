-- The place that is written is that of the pair.
use Rattle.std.proofs.Common.{◌≡◌, ℕ, ◌^◌, ◌∙◌, length, ap}
use Rattle.dutch_weighing.specs.Prelude.{place_of, pair_weight, place_in, Weighing}
use Rattle.dutch_weighing.specs.WeightTables.{pair}
use Rattle.dutch_weighing.proofs.WeighingLemmas.{at_least, told_pair}
use Rattle.dutch_weighing.proofs.weighing.PairWeigher.put_new.Goals as goal

pub returns-clause-told : goal.returns-clause-told
returns-clause-told c =
    let w = c.args.self.now.weigher.now in
    let a = c.args.pair.0 in
    let b = c.args.pair.1 in
    let len : c.len.result ≡ length w.reached.seats = c.len.ensures.value ∙ ap (λ (v : Weighing). length v.reached.seats) c.weigher.view_is in
    let at : c.place_of.result ≡ place_in w a b = c.place_of.ensures.value ∙ ap (λ (k : ℕ). place_of k a b) len in
    λ _. told_pair w c.args.table.now c.put.new.self a b c.place_of.result c.in-Some.weight c.may_meet-meets.result c.requires.first c.requires.second
    c.requires.room at c.in_ok-put.ensures.weight c.in_ok-put.ensures.meets c.in-Some.ensures.1 c.may_meet-meets.ensures c.requires.told

pub returns-in_default-clause-heavy : goal.returns-in_default-clause-heavy
returns-in_default-clause-heavy c =
    λ _. pair c.args.pair.0 c.args.pair.1 c.requires.first c.requires.second
    (at_least (pair_weight c.args.self.now.weigher.now c.args.pair.0 c.args.pair.1) (2 ^ 1024) c.in_default.ensures)
