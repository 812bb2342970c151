-- What the first two of the classes weigh stands in the table, and is what the pair weighs.
use Rattle.std.proofs.Common.{◌≡◌, ℕ, ◌∙◌, length, ap, get_or}
use Rattle.dutch_weighing.specs.Prelude.{Weighing, place_in, place_of}
use Rattle.dutch_weighing.proofs.WeighingLemmas.{stands_before, told_pair}
use Rattle.dutch_weighing.proofs.weighing.PairWeigher.put_alike.Goals as goal

pub returns-clause-told : goal.returns-clause-told
returns-clause-told c =
    let w = c.args.self.now.weigher.now in
    let (a, b) = c.args.pair in
    let (f, g) = c.args.firsts in
    let table = c.args.table.now in
    let len : c.len-count.result ≡ length w.reached.seats = c.len-count.ensures.value ∙ ap (λ (v : Weighing). length v.reached.seats) c.weigher.view_is in
    let at : c.place_of.result ≡ place_in w a b = c.place_of.ensures.value ∙ ap (λ (k : ℕ). place_of k a b) len in
    let from : c.place_of-from.result ≡ place_in w f g = c.place_of-from.ensures.value ∙ ap (λ (k : ℕ). place_of k f g) len in
    let weighs = ap (λ (i : ℕ). get_or table.weights i 0) from
    ∙ stands_before w table a b f g c.requires.first c.requires.second c.requires.first_alike c.requires.second_alike c.requires.others c.requires.told in
    told_pair w table c.repeat.new.self a b c.place_of.result (get_or table.weights c.place_of-from.result 0) c.may_meet.result c.requires.first c.requires.second
    c.requires.room at c.repeat.ensures.weight c.repeat.ensures.meets weighs c.may_meet.ensures c.requires.told
