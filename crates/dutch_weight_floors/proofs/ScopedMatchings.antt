-- Where the players of an arrangement stand in a scope that covers it: two of a pair may be one there, and a downfloater may be left over
-- (C.04.3 B.3, B.6, B.7). So the pairs of a candidate that grants what is wished are a matching by the costs of the scope.
use Rattle.std.proofs.Common.{◌≡◌, ℕ, suc, ◌+◌, ◌<◌, ◌≤◌, Bool, true, false, not, cond, ◌&&◌, ◌||◌, nat_lt, List, [], ◌∷◌, Option, length, inl, inr, refl, sym, ap, ◌∙◌, arith}
use Rattle.std.specs.List.{AllByRecursion, zip}
use Rattle.std.proofs.lemmas.Bool.{cases_Bool, true≢false}
use Rattle.std.proofs.lemmas.Bool.Decides.{nat_tests}
use Rattle.dual.specs.Prelude.{Costs, IsMatching}
use Rattle.dutch_arrangements.specs.declared.bracket.Shape.{Shape}
use Rattle.dutch_arrangements.specs.declared.prefix.Filling.{Filling}
use Rattle.dutch_arrangements.specs.declared.prefix.Filling.TheVariants.{ChoosingS1, S2, S2r}
use Rattle.dutch_arrangements.specs.Prelude.{Arrangement, Fits, Frame, arrangements, down, left_of, paired, players_of, remainder_pairs, residents_of, is_member, IsIn, Begins, BeginsAt, Beginning}
use Rattle.dutch_sequence.proofs.Counts.{member-four}
use Rattle.dutch_sequence.proofs.Orders.{in-member, member-in, IsIn-filter, all_members, member_has}
use Rattle.dutch_sequence.proofs.HalfWalks.{Climbs}
use Rattle.dutch_player.specs.Prelude.{Facts}
use Rattle.dutch_weight_floors.specs.declared.scoped.Reach.TheVariants.{Bracket}
use Rattle.dutch_candidates.specs.declared.wish.Wish.{Wish}
use Rattle.dutch_weight_floors.specs.declared.scope.Standing.{Standing}
use Rattle.dutch_weight_floors.specs.declared.scope.Standing.TheVariants.{Any, Outside, First, Resident, FirstResident, OtherResident}
use Rattle.dutch_weight_floors.specs.Prelude.{Order, costs_in, Covers, CoversBy, Scope, is_joined, may_stay, moved_down_standing, resident_standing}
use Rattle.dutch_bracket.specs.Prelude.{IsOf, Reached, frame_of, numbers_meet, candidates_of, number_pairs}
use Rattle.dutch_candidates.specs.Wishes.{fits_as_left, fits_as_pair, is_wished}
use Rattle.dutch_weighing.specs.Prelude.{Scale, numbers, weighing}
use Rattle.dutch_bracket.proofs.AllLemmas.{all_join}
use Rattle.dutch_bracket.proofs.ArrangementParts.{lists_of, parts_of, subset_members, tuple_members}
use Rattle.dutch_weighing.proofs.CandidateMatchings.{candidate_is_matching, each}
use Rattle.dutch_bracket.proofs.LegalPairs.{legal_of}
use Rattle.dutch_candidates.proofs.PairedOut.{one_by_one}
use Rattle.dutch_candidates.proofs.WishFits.{left_fits, pairs_fit}

-- ---- where the members of the four lists stand, as far as a scope tells

abbrev first_standing : Filling → Standing
first_standing ChoosingS1 = Any
first_standing S2 = First
first_standing S2r = First

abbrev second_standing : Filling → Standing
second_standing ChoosingS1 = Any
second_standing S2 = Resident
second_standing S2r = OtherResident

abbrev first_resident_standing : Filling → Standing
first_resident_standing ChoosingS1 = Any
first_resident_standing S2 = Resident
first_resident_standing S2r = FirstResident

pairs_join : (f : Filling) → is_joined (first_standing f) (second_standing f) ≡ true
pairs_join ChoosingS1 = refl
pairs_join S2 = refl
pairs_join S2r = refl

residents_join : (f : Filling) → is_joined (first_resident_standing f) (second_standing f) ≡ true
residents_join ChoosingS1 = refl
residents_join S2 = refl
residents_join S2r = refl

-- ---- lists of an arrangement that a scope has

abbrev HasLists : Filling → List ℕ → List ℕ → Arrangement → Type 0
HasLists ChoosingS1 s1 s1r a = Unit {0}
HasLists S2 s1 s1r a = s1 ≡ a.s1
HasLists S2r s1 s1r a = (s1 ≡ a.s1) × (s1r ≡ a.s1r)

-- behind a beginning that a scope covers are arrangements with its lists alone
has_lists : (f : Filling) (scope : Scope) (filling : Filling) (lists : Arrangement) (a : Arrangement)
    → CoversBy f scope (record { filling = filling; lists = lists }) → BeginsAt filling lists a → HasLists f scope.s1 scope.s1r a
has_lists ChoosingS1 scope filling lists a covers begins = tt
has_lists S2 scope ChoosingS1 lists a covers begins = absurd (true≢false (sym covers.0))
has_lists S2 scope S2 lists a covers begins = sym covers.1 ∙ begins.0
has_lists S2 scope S2r lists a covers begins = sym covers.1 ∙ begins.0
has_lists S2r scope ChoosingS1 lists a covers begins = let bad : ChoosingS1 ≡ S2r = covers.0 in absurd (cc)
has_lists S2r scope S2 lists a covers begins = let bad : S2 ≡ S2r = covers.0 in absurd (cc)
has_lists S2r scope S2r lists a covers begins = (sym covers.1 ∙ begins.0, sym covers.2 ∙ begins.2)

-- ---- numbers and their sides

-- standing_of, by what a scope has
abbrev side_by : ℕ → Filling → List ℕ → List ℕ → ℕ → Standing
side_by mdps f s1 s1r x = cond (nat_lt mdps x) (resident_standing f s1r x) (moved_down_standing f s1 x)

resident_stands : (mdps : ℕ) (f : Filling) (s1 s1r : List ℕ) (x : ℕ) → mdps < x → side_by mdps f s1 s1r x ≡ resident_standing f s1r x
resident_stands mdps f s1 s1r x h =
    ap (λ t. cond t (resident_standing f s1r x) (moved_down_standing f s1 x)) (let e : nat_lt mdps x ≡ true = grind (arith, nat_tests, h) in e)

moved_down_stands : (mdps : ℕ) (f : Filling) (s1 s1r : List ℕ) (x : ℕ) → x ≤ mdps → side_by mdps f s1 s1r x ≡ moved_down_standing f s1 x
moved_down_stands mdps f s1 s1r x h =
    ap (λ t. cond t (resident_standing f s1r x) (moved_down_standing f s1 x)) (let e : nat_lt mdps x ≡ false = grind (arith, nat_tests, h) in e)

first_by : (f : Filling) (s1 s1r : List ℕ) (a : Arrangement) → HasLists f s1 s1r a → (x : ℕ) → is_member x a.s1 ≡ true → moved_down_standing f s1 x ≡ first_standing f
first_by ChoosingS1 s1 s1r a has x m = refl
first_by S2 s1 s1r a has x m = ap (λ (s : List ℕ). cond (is_member x s) First Outside) has ∙ ap (λ t. cond t First Outside) m
first_by S2r s1 s1r a has x m = ap (λ (s : List ℕ). cond (is_member x s) First Outside) has.0 ∙ ap (λ t. cond t First Outside) m

other_by : (f : Filling) (s1 s1r : List ℕ) (a : Arrangement) → HasLists f s1 s1r a → (x : ℕ) → is_member x a.s1r ≡ false → resident_standing f s1r x ≡ second_standing f
other_by ChoosingS1 s1 s1r a has x m = refl
other_by S2 s1 s1r a has x m = refl
other_by S2r s1 s1r a has x m =
    ap (λ (s : List ℕ). cond (is_member x s) FirstResident OtherResident) has.1 ∙ ap (λ t. cond t FirstResident OtherResident) m

first_resident_by : (f : Filling) (s1 s1r : List ℕ) (a : Arrangement) → HasLists f s1 s1r a → (x : ℕ) → is_member x a.s1r ≡ true
    → resident_standing f s1r x ≡ first_resident_standing f
first_resident_by ChoosingS1 s1 s1r a has x m = refl
first_resident_by S2 s1 s1r a has x m = refl
first_resident_by S2r s1 s1r a has x m =
    ap (λ (s : List ℕ). cond (is_member x s) FirstResident OtherResident) has.1 ∙ ap (λ t. cond t FirstResident OtherResident) m

outside_stays : (f : Filling) (s1 s1r : List ℕ) (a : Arrangement) → HasLists f s1 s1r a → (x : ℕ) → is_member x a.s1 ≡ false → may_stay (moved_down_standing f s1 x) ≡ true
outside_stays ChoosingS1 s1 s1r a has x m = refl
outside_stays S2 s1 s1r a has x m = ap (λ (s : List ℕ). may_stay (cond (is_member x s) First Outside)) has ∙ ap (λ t. may_stay (cond t First Outside)) m
outside_stays S2r s1 s1r a has x m = ap (λ (s : List ℕ). may_stay (cond (is_member x s) First Outside)) has.0 ∙ ap (λ t. may_stay (cond t First Outside)) m

second_stays : (f : Filling) → may_stay (second_standing f) ≡ true
second_stays ChoosingS1 = refl
second_stays S2 = refl
second_stays S2r = refl

-- ---- the lists of an arrangement

climbs_below : (low bound : ℕ) (xs : List ℕ) → Climbs low bound xs → AllByRecursion (λ x. x < bound) xs
climbs_below low bound [] climbs = tt
climbs_below low bound (x ∷ xs) climbs = (climbs.1, climbs_below (suc x) bound xs climbs.2)

not_true : (t : Bool) → not t ≡ true → t ≡ false
not_true true e = sym e
not_true false e = refl

-- none of those who are left is taken
none_taken : (pool taken : List ℕ) → AllByRecursion (λ x. is_member x taken ≡ false) (left_of pool taken)
none_taken pool taken =
    all_members (λ x. is_member x taken ≡ false) (left_of pool taken)
    (λ x m. not_true (is_member x taken) (IsIn-filter (λ y. not (is_member y taken)) x pool m).1)

-- so none of the others is among some of those who are left
apart : (taken later : List ℕ) → AllByRecursion (λ x. is_member x taken ≡ false) later → AllByRecursion (λ x. is_member x later ≡ false) taken
apart taken later none =
    all_members (λ x. is_member x later ≡ false) taken
    (λ x m. elim (cases_Bool (is_member x later)) [
      | inl there ↦
          absurd (true≢false (sym (in-member x taken m) ∙ member_has (λ y. is_member y taken ≡ false) later none x (member-in x later there)))
      | inr not_there ↦ not_there
    ])

neither : (s t : Bool) → (s || t) ≡ false → (s ≡ false) × (t ≡ false)
neither true t e = absurd (true≢false e)
neither false t e = (refl, e)

-- the members of S1 are moved-down players
pub s1_moved_down : (frame : Frame) (shape : Shape) (a : Arrangement) → frame.mdps ≤ length frame.scores → IsIn a (arrangements frame shape)
    → AllByRecursion (λ x. x ≤ frame.mdps) a.s1
s1_moved_down frame shape a within m =
    all_members (λ x. x ≤ frame.mdps) a.s1
    (λ x i.
    let below : x < 1 + frame.mdps = member_has (λ y. y < 1 + frame.mdps) a.s1 (climbs_below 1 (1 + frame.mdps) a.s1 (parts_of frame shape a within m).s1) x i in
    omega (arith, below))

module _ (frame : Frame) (shape : Shape) (a : Arrangement) (within : frame.mdps ≤ length frame.scores) (m : IsIn a (arrangements frame shape))
    (f : Filling) (s1 s1r : List ℕ) (has : HasLists f s1 s1r a) where
  abbrev S : ℕ → Standing
  S = side_by frame.mdps f s1 s1r

  firsts : AllByRecursion (λ x. S x ≡ first_standing f) a.s1
  firsts =
      let parts = parts_of frame shape a within m in
      all_members (λ x. S x ≡ first_standing f) a.s1
      (λ x i.
      let below : x < 1 + frame.mdps = member_has (λ y. y < 1 + frame.mdps) a.s1 (climbs_below 1 (1 + frame.mdps) a.s1 parts.s1) x i in
      moved_down_stands frame.mdps f s1 s1r x (omega (arith, below)) ∙ first_by f s1 s1r a has x (in-member x a.s1 i))

  seconds : AllByRecursion (λ x. S x ≡ second_standing f) a.s2
  seconds =
      let parts = parts_of frame shape a within m in
      let lists = lists_of frame shape a within m in
      let none = apart a.s2 a.s1r
      (subset_members (λ x. is_member x a.s2 ≡ false) (left_of (residents_of frame) a.s2) (remainder_pairs shape) a.s1r (none_taken (residents_of frame) a.s2) lists.s1r) in
      all_members (λ x. S x ≡ second_standing f) a.s2
      (λ x i.
      let above = member_has (λ y. (frame.mdps < y) × (y ≤ length frame.scores)) a.s2 parts.s2 x i in
      resident_stands frame.mdps f s1 s1r x above.0 ∙ other_by f s1 s1r a has x (member_has (λ y. is_member y a.s1r ≡ false) a.s2 none x i))

  first_residents : AllByRecursion (λ x. S x ≡ first_resident_standing f) a.s1r
  first_residents =
      let parts = parts_of frame shape a within m in
      all_members (λ x. S x ≡ first_resident_standing f) a.s1r
      (λ x i.
      let above = member_has (λ y. (frame.mdps < y) × (y ≤ length frame.scores)) a.s1r parts.s1r x i in
      resident_stands frame.mdps f s1 s1r x above.0 ∙ first_resident_by f s1 s1r a has x (in-member x a.s1r i))

  other_residents : AllByRecursion (λ x. S x ≡ second_standing f) a.s2r
  other_residents =
      let parts = parts_of frame shape a within m in
      let lists = lists_of frame shape a within m in
      let rest : List ℕ = left_of (residents_of frame) a.s2 in
      let none = tuple_members (λ x. is_member x a.s1r ≡ false) (left_of rest a.s1r) (remainder_pairs shape) a.s2r (none_taken rest a.s1r) lists.s2r in
      all_members (λ x. S x ≡ second_standing f) a.s2r
      (λ x i.
      let above = member_has (λ y. (frame.mdps < y) × (y ≤ length frame.scores)) a.s2r parts.s2r x i in
      resident_stands frame.mdps f s1 s1r x above.0 ∙ other_by f s1 s1r a has x (member_has (λ y. is_member y a.s1r ≡ false) a.s2r none x i))

  -- a number in none of the four lists may be left over
  stays_at : (x : ℕ) → is_member x (paired a) ≡ false → (t : Bool) → nat_lt frame.mdps x ≡ t → may_stay (cond t (resident_standing f s1r x) (moved_down_standing f s1 x)) ≡ true
  stays_at x out true e =
      let four = sym (member-four x a.s1 a.s2 a.s1r a.s2r) ∙ out in
      let one = neither (is_member x a.s1) (is_member x a.s2 || (is_member x a.s1r || is_member x a.s2r)) four in
      let two = neither (is_member x a.s2) (is_member x a.s1r || is_member x a.s2r) one.1 in
      let three = neither (is_member x a.s1r) (is_member x a.s2r) two.1 in
      ap may_stay (other_by f s1 s1r a has x three.0) ∙ second_stays f
  stays_at x out false e =
      let four = sym (member-four x a.s1 a.s2 a.s1r a.s2r) ∙ out in
      let one = neither (is_member x a.s1) (is_member x a.s2 || (is_member x a.s1r || is_member x a.s2r)) four in
      outside_stays f s1 s1r a has x one.0

  stays : AllByRecursion (λ x. may_stay (S x) ≡ true) (down frame a)
  stays =
      all_members (λ x. may_stay (S x) ≡ true) (down frame a)
      (λ x i. stays_at x (member_has (λ y. is_member y (paired a) ≡ false) (down frame a) (none_taken (players_of frame) (paired a)) x i) (nat_lt frame.mdps x) refl)

-- ---- two at once

joined_at : (one other : Standing) (p q : Standing) → p ≡ one → q ≡ other → is_joined one other ≡ true → is_joined p q ≡ true
joined_at one other p q e e' join = ap (λ s. is_joined s q) e ∙ ap (is_joined one) e' ∙ join

all_joined : (S : ℕ → Standing) (one other : Standing) → is_joined one other ≡ true → (xs ys : List ℕ)
    → AllByRecursion (λ x. S x ≡ one) xs → AllByRecursion (λ y. S y ≡ other) ys
    → AllByRecursion (λ (pair : ℕ × ℕ). is_joined (S pair.0) (S pair.1) ≡ true) (zip xs ys)
all_joined S one other join [] ys first second = tt
all_joined S one other join (x ∷ xs) [] first second = tt
all_joined S one other join (x ∷ xs) (y ∷ ys) first second =
    (joined_at one other (S x) (S y) first.0 second.0 join, all_joined S one other join xs ys first.1 second.1)

both_hold : {X : Type 0} (p q : X → Bool) (xs : List X) → AllByRecursion (λ x. p x ≡ true) xs → AllByRecursion (λ x. q x ≡ true) xs
    → AllByRecursion (λ x. (p x && q x) ≡ true) xs
both_hold p q [] first second = tt
both_hold p q (x ∷ xs) first second = (ap (λ b. b && q x) first.0 ∙ second.0, both_hold p q xs first.1 second.1)

-- B.3, B.6, B.7: the pairs of a candidate behind a beginning that grants what is wished, and those whom it leaves over, are a matching in each
-- scope that covers the beginning
pub is_matching_in : (facts : Facts) (reached : Reached) (scale : Scale) (lower : List ℕ) (shape : Shape) (a : Arrangement) → IsOf facts reached
    → Fits (frame_of facts reached) shape → IsIn a (candidates_of facts reached shape) → (b : Beginning) → Begins b a → (scope : Scope) → Covers scope b
    → (wish : Option Wish) → is_wished wish a ≡ true → (order : Order)
    → IsMatching (costs_in (record { weighing = record { facts = facts; reached = reached; lower = lower; scale = scale }; scope = scope; wish = wish; reach = Bracket; order = order }))
    (numbers reached) (number_pairs a)
    (down (frame_of facts reached) a)
is_matching_in facts reached scale lower shape a of' fits m b begins scope covers wish granted order =
    let frame : Frame = frame_of facts reached in
    let costs : Costs = weighing facts reached scale in
    let plain = candidate_is_matching facts reached scale lower shape a of' fits m in
    let legal = legal_of facts reached shape a m in
    let has = has_lists scope.filling scope b.filling b.lists a covers begins in
    let side : ℕ → Standing = side_by reached.mdps scope.filling scope.s1 scope.s1r in
    let joined : ℕ × ℕ → Bool = λ pair. is_joined (side pair.0) (side pair.1) in
    let fit : ℕ × ℕ → Bool = λ pair. fits_as_pair wish pair.0 pair.1 in
    let meet : ℕ × ℕ → Bool = λ pair. numbers_meet facts reached pair.0 pair.1 in
    let stay : ℕ → Bool = λ v. may_stay (side v) in
    let may : ℕ → Bool = λ v. fits_as_left wish v in
    let pairs : List (ℕ × ℕ) = number_pairs a in
    let left : List ℕ = down frame a in
    let joined_all : AllByRecursion (λ pair. joined pair ≡ true) pairs = all_join (λ pair. joined pair ≡ true) (zip a.s1 a.s2) (zip a.s1r a.s2r)
    (all_joined side (first_standing scope.filling) (second_standing scope.filling) (pairs_join scope.filling) a.s1 a.s2
    (firsts frame shape a of'.sound.within legal.arranged scope.filling scope.s1 scope.s1r has)
    (seconds frame shape a of'.sound.within legal.arranged scope.filling scope.s1 scope.s1r has))
    (all_joined side (first_resident_standing scope.filling) (second_standing scope.filling) (residents_join scope.filling) a.s1r a.s2r
    (first_residents frame shape a of'.sound.within legal.arranged scope.filling scope.s1 scope.s1r has)
    (other_residents frame shape a of'.sound.within legal.arranged scope.filling scope.s1 scope.s1r has)) in
    let stay_all : AllByRecursion (λ v. stay v ≡ true) left = stays frame shape a of'.sound.within legal.arranged scope.filling scope.s1 scope.s1r has in
    record {
      whole = plain.whole;
      may_meet = each (λ pair. ((joined pair && fit pair) && meet pair) ≡ true) pairs
          (both_hold (λ pair. joined pair && fit pair) meet pairs
          (both_hold joined fit pairs joined_all (pairs_fit frame shape a of'.sound.within fits.within_pairs legal.arranged wish granted))
          (one_by_one (λ pair. meet pair ≡ true) pairs plain.may_meet));
      may_be_left = each (λ v. ((stay v && may v) && costs.may_be_left v) ≡ true) left
          (both_hold (λ v. stay v && may v) costs.may_be_left left
          (both_hold stay may left stay_all (left_fits frame shape a of'.sound.within fits.within_pairs legal.arranged wish granted))
          (one_by_one (λ v. costs.may_be_left v ≡ true) left plain.may_be_left));
    }
