-- What is known behind a beginning is a floor.
use Rattle.std.proofs.Common.{◌≡◌, ◌∙◌, ◌≤◌, ap, sym, subst, filter, length}
use Rattle.dutch_bracket.specs.Prelude.{all_pairs, fixed, fixed_lists, is_uneven, next_in, quality_in}
use Rattle.dutch_floors.specs.FloorOf.{floor_with, more_by, psd_over, s1_of}
use Rattle.dutch_floors.specs.Behind.{Basis}
use Rattle.dutch_floors.specs.KnownPairs.{AreKnown, by_seat, number_pairs}
use Rattle.dutch_floors.specs.Missed.{AreMissed}
use Rattle.dutch_floors.specs.Outlooks.{best_next_for}
use Rattle.dutch_floors.specs.declared.known_pairs.KnownPairs.{KnownPairs}
use Rattle.dutch_floors.proofs.FloorLemmas.{floor_at, pairs_by_seat}
use Rattle.dutch_floors.proofs.FloorOfBeginning.{none_beats}
use Rattle.dutch_floors.proofs.floor.Floors.floor.Goals as goal

pub returns-clause-floor : goal.returns-clause-floor
returns-clause-floor c = λ _.
    let basis = c.args.self.now in
    let seats = basis.reached.seats in
    let b = c.args.asked.now.prefix.now in
    let lists = c.fixed_lists-lists.ensures in
    let more = c.more_by-more.result in
    let sums = c.sums_with-sums.result in
    let filled = quality_in c.fill_first.new.room.quality in
    let few : more ≤ more_by b.filling basis (fixed_lists b) = subst (λ ls. more ≤ more_by b.filling basis ls) lists c.more_by-more.ensures.value in
    let those : by_seat seats c.more_by-more.new.notes.known.pairs.items ≡ all_pairs seats (fixed_lists b) =
    ap (by_seat seats) (ap (λ (k : KnownPairs). k.pairs.items) c.more_by-more.ensures.known ∙ c.go_to.ensures.pairs ∙ ap number_pairs lists)
    ∙ pairs_by_seat seats (fixed_lists b) in
    let are : AreMissed basis more (all_pairs seats (fixed_lists b)) sums = subst (λ ps. AreMissed basis more ps sums) those c.sums_with-sums.ensures in
    let psd : filled.psd ≡ psd_over basis (s1_of basis b) (fixed basis.facts basis.reached (fixed_lists b)) =
    c.fill_first.ensures.psd ∙ (λ i. psd_over basis (c.s1.ensures i) (fixed basis.facts basis.reached (lists i))) in
    let next : next_in filled ≡ best_next_for basis.facts basis.reached basis.shape basis.outlook (s1_of basis b) =
    c.fill_first.ensures.next ∙ ap (best_next_for basis.facts basis.reached basis.shape basis.outlook) c.s1.ensures in
    none_beats basis b (quality_in c.fill_counted.new.room.quality) more c.is_known.ensures.of c.is_known.ensures.outlook
    (sym c.is_known.ensures.known ∙ c.if-not-is_known.false) few
    (c.fill_counted.ensures more (subst (λ ls. AreMissed basis more (all_pairs seats ls) sums) (sym lists) are)
    ∙ ap (floor_with basis more filled) lists ∙ floor_at basis (s1_of basis b) more (fixed_lists b) filled psd next)

pub fill_counted-requires-clause-uneven : goal.fill_counted-requires-clause-uneven
fill_counted-requires-clause-uneven c =
    let basis = c.args.self.now in
    let seats = basis.reached.seats in
    let those : by_seat seats c.more_by-more.new.notes.known.pairs.items ≡ all_pairs seats (fixed_lists c.args.asked.now.prefix.now) =
    ap (by_seat seats) (ap (λ (k : KnownPairs). k.pairs.items) c.more_by-more.ensures.known ∙ c.go_to.ensures.pairs ∙ ap number_pairs c.fixed_lists-lists.ensures)
    ∙ pairs_by_seat seats (fixed_lists c.args.asked.now.prefix.now) in
    c.sums_with-sums.ensures.uneven
    ∙ ap (λ ps. length (filter (is_uneven basis.facts) ps)) (those ∙ sym (ap (all_pairs seats) c.fixed_lists-lists.ensures))

pub go_to-requires-clause-known : goal.go_to-requires-clause-known
go_to-requires-clause-known c = subst (λ (basis : Basis). AreKnown basis c.args.notes.now.known) (sym c.self.view_is) c.requires.known

pub more_by-more-requires-clause-known : goal.more_by-more-requires-clause-known
more_by-more-requires-clause-known c = subst (λ (basis : Basis). AreKnown basis c.go_to.new.self) c.self.view_is c.go_to.ensures.known

pub sums_with-sums-requires-clause-known : goal.sums_with-sums-requires-clause-known
sums_with-sums-requires-clause-known c =
    subst (AreKnown c.args.self.now) (sym c.more_by-more.ensures.known) (subst (λ (basis : Basis). AreKnown basis c.go_to.new.self) c.self.view_is c.go_to.ensures.known)

pub returns-clause-known : goal.returns-clause-known
returns-clause-known c =
    subst (AreKnown c.args.self.now) (sym c.more_by-more.ensures.known) (subst (λ (basis : Basis). AreKnown basis c.go_to.new.self) c.self.view_is c.go_to.ensures.known)
