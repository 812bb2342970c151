-- Pairs of the same two kinds, and a square that is written pair by pair.
use Rattle.std.proofs.Common.{◌≡◌, ◌≢◌, ℕ, ◌+◌, ◌*◌, ◌^◌, ◌<◌, ◌≤◌, Bool, true, false, ◌&&◌, cond, nat_eq, List, [], ◌∷◌, All, length, map, take, get_or, set, sum_by, inl, inr, refl, sym, ap, subst, ◌∙◌, arith, below_more, get_or-set_other, get_or-set_same}
use Rattle.std.proofs.Math.ListN.{length-set}
use Rattle.std.proofs.lemmas.Bool.{cases_Bool, eqb-true, eq-eqb}
use Rattle.std.proofs.lemmas.List.Elements.{All-head, All-more, All-tail, All-weaker}
use Rattle.std.proofs.lemmas.List.{get_or_default}
use Rattle.std.proofs.lemmas.List.Sums.{sum_by-cons}
use Rattle.dual.specs.declared.table.MarkedSet.{MarkedSet}
use Rattle.dual.specs.declared.table.CertificateTable.{CertificateTable}
use Rattle.dual.specs.Prelude.{AreAlike, AreTold, AreWritten, CanBear, Certificate, Costs, HasFirst, IsSlate, IsTold, IsWritten, KeepsMarks, StandsFor, WeighByClass, bears, certificate_in, class_of, has_mark, potential_in, priced_by, slack, toll}
use Rattle.dual.proofs.FloorLemmas.{inside_square, other_row}

-- ---- pairs of the same two kinds

-- who are in the same sets pay the same tolls
same_tolls : (sets : List MarkedSet) (u v a b : ℕ) → All (λ set. has_mark set u ≡ has_mark set a) sets → All (λ set. has_mark set v ≡ has_mark set b) sets
    → sum_by (toll (u, v)) (map priced_by sets) ≡ sum_by (toll (a, b)) (map priced_by sets)
same_tolls [] u v a b first second = refl
same_tolls (set ∷ sets) u v a b first second =
    let here : toll (u, v) (priced_by set) ≡ toll (a, b) (priced_by set) =
    ap (λ x. cond (x && has_mark set v) set.price 0) (All-head (λ s. has_mark s u ≡ has_mark s a) set sets first)
    ∙ ap (λ x. cond (has_mark set a && x) set.price 0) (All-head (λ s. has_mark s v ≡ has_mark s b) set sets second) in
    omega (
      arith,
      here,
      same_tolls sets u v a b (All-tail (λ s. has_mark s u ≡ has_mark s a) set sets first) (All-tail (λ s. has_mark s v ≡ has_mark s b) set sets second),
      sum_by-cons (toll (u, v)) (priced_by set) (map priced_by sets),
      sum_by-cons (toll (a, b)) (priced_by set) (map priced_by sets),
    )

-- so a pair stands for each other one of the same two kinds
pub stands_for : (knows : ℕ → Type 0) (costs : Costs) (table : CertificateTable) (classes : List ℕ) (size u v a b : ℕ) → WeighByClass knows costs classes
    → knows u → knows v → knows a → knows b → b < size → AreAlike table classes u a → AreAlike table classes v b
    → StandsFor knows costs (certificate_in table) size u v a b
stands_for knows costs table classes size u v a b weighs known_u known_v known_a known_b below first second =
    let weigh : costs.weight u v ≡ costs.weight a b = weighs u v a b known_u known_v known_a known_b first.of_class second.of_class in
    let bear : bears costs (certificate_in table) (u, v) ≡ bears costs (certificate_in table) (a, b) =
    omega (arith, weigh, same_tolls table.sets.items u v a b first.sets second.sets) in
    record {
      known = known_b;
      below = below;
      bears = (
        λ can. (omega (arith, can.0, bear), omega (arith, can.1, bear, first.potential, second.potential)),
        λ can. (omega (arith, can.0, bear), omega (arith, can.1, bear, first.potential, second.potential)),
      );
      same = omega (arith, bear, first.potential, second.potential);
    }

-- ---- a square that is written pair by pair

same_place : (u v a b size : ℕ) → v < size → b < size → u * size + v ≡ a * size + b → (u ≡ a) × (v ≡ b)
same_place u v a b size first second e = elim (cases_Bool (nat_eq u a)) [
  | inl is ↦
      let same : u ≡ a = eqb-true u a is in
      let rows : u * size ≡ a * size = ap (λ n. n * size) same in
      (same, omega (arith, rows, e))
  | inr other ↦ absurd (other_row u a v b size first second (λ is. cc (eq-eqb u a is, other)) e)
]

-- a mark more loses none
keeps_more : (marks : List Bool) (place : ℕ) → place < length marks → KeepsMarks marks (set marks place true)
keeps_more marks place lt = λ k has. elim (cases_Bool (nat_eq k place)) [
  | inl is ↦
      let same : k ≡ place = eqb-true k place is in
      subst (λ n. get_or (set marks place true) n false ≡ true) (sym same) (get_or-set_same marks place true false lt)
  | inr other ↦ get_or-set_other marks place k true false (λ is. cc (eq-eqb k place is, other)) ∙ has
]

module _ (costs : Costs) (certificate : Certificate) (size : ℕ) (slacks : List ℕ) (marks : List Bool) (slate : IsSlate costs certificate size slacks marks) where
  -- one pair more is written
  pub slate_more : (u v place number : ℕ) → u < size → v < size → place ≡ u * size + v → CanBear costs certificate (2 ^ 1024) u v
      → number ≡ slack costs certificate (u, v) → IsSlate costs certificate size (set slacks place number) (set marks place true)
  slate_more u v place number first second e can is =
      let inside : place < size * size = omega (arith, e, inside_square u v size first second) in
      record {
        square = omega (arith, length-set slacks place number, slate.square);
        marked = omega (arith, length-set marks place true, slate.marked);
        told = λ a b below has. elim (cases_Bool (nat_eq (a * size + b) place)) [
          | inl here ↦
              let same : a * size + b ≡ place = eqb-true (a * size + b) place here in
              let are = same_place u v a b size second below (omega (arith, same, e)) in
              let written : IsWritten costs certificate size (set slacks place number) u v =
              (can, ap (λ n. get_or (set slacks place number) n 0) (sym e) ∙ get_or-set_same slacks place number 0 (omega (arith, inside, slate.square)) ∙ is) in
              subst (λ n. IsWritten costs certificate size (set slacks place number) n b) are.0
              (subst (λ n. IsWritten costs certificate size (set slacks place number) u n) are.1 written)
          | inr other ↦
              let ne : a * size + b ≢ place = λ same. cc (eq-eqb (a * size + b) place same, other) in
              let was = slate.told a b below (sym (get_or-set_other marks place (a * size + b) true false ne) ∙ has) in
              (was.0, get_or-set_other slacks place (a * size + b) number 0 ne ∙ was.1)
        ];
      }

  -- and so is a pair for which another one stands that is written
  copy_more : (knows : ℕ → Type 0) (u v a b place from : ℕ) → u < size → v < size → place ≡ u * size + v → from ≡ a * size + b
      → StandsFor knows costs certificate size u v a b → IsTold marks size a b
      → IsSlate costs certificate size (set slacks place (get_or slacks from 0)) (set marks place true)
  copy_more knows u v a b place from first second here there alike has =
      let was = slate.told a b alike.below has in
      slate_more u v place (get_or slacks from 0) first second here (alike.bears.1 was.0) (ap (λ n. get_or slacks n 0) there ∙ was.1 ∙ sym alike.same)

  place_inside : (u v place : ℕ) → u < size → v < size → place ≡ u * size + v → place < length marks
  place_inside u v place first second here = omega (arith, here, inside_square u v size first second, slate.marked)

-- what is marked is told
told_here : (marks : List Bool) (size u v place : ℕ) → place < length marks → place ≡ u * size + v → IsTold (set marks place true) size u v
told_here marks size u v place lt here =
    ap (λ n. get_or (set marks place true) n false) (sym here) ∙ get_or-set_same marks place true false lt

-- one pair more of a line is written: the square stays one, no mark is lost, and the pair is told
pub pair_more : (knows : ℕ → Type 0) (costs : Costs) (certificate : Certificate) (size u v a b place from : ℕ) (slacks new : List ℕ) (marks more : List Bool)
    → IsSlate costs certificate size slacks marks → u < size → v < size → place ≡ u * size + v → from ≡ a * size + b
    → StandsFor knows costs certificate size u v a b → IsTold marks size a b
    → new ≡ set slacks place (get_or slacks from 0) → more ≡ set marks place true
    → IsSlate costs certificate size new more × KeepsMarks marks more × IsTold more size u v
pair_more knows costs certificate size u v a b place from slacks new marks more slate first second here there alike has new_is more_is =
    let inside : place < length marks = place_inside costs certificate size slacks marks slate u v place first second here in
    let copied : IsSlate costs certificate size (set slacks place (get_or slacks from 0)) (set marks place true) =
    copy_more costs certificate size slacks marks slate knows u v a b place from first second here there alike has in (
      subst (λ (ns : List ℕ). IsSlate costs certificate size ns more) (sym new_is)
          (subst (λ (ms : List Bool). IsSlate costs certificate size (set slacks place (get_or slacks from 0)) ms) (sym more_is) copied),
      subst (λ (ms : List Bool). KeepsMarks marks ms) (sym more_is) (keeps_more marks place inside),
      subst (λ (ms : List Bool). IsTold ms size u v) (sym more_is) (told_here marks size u v place inside here),
    )

-- one pair more of a line is told
pub told_more : (costs : Costs) (players : List ℕ) (size u i : ℕ) (marks new : List Bool) → KeepsMarks marks new
    → ((k : ℕ) → k < i → costs.meets u (get_or players k 0) ≡ true → IsTold marks size u (get_or players k 0))
    → (costs.meets u (get_or players i 0) ≡ true → IsTold new size u (get_or players i 0))
    → (k : ℕ) → k < i + 1 → costs.meets u (get_or players k 0) ≡ true → IsTold new size u (get_or players k 0)
told_more costs players size u i marks new kept told here =
    below_more (λ k. costs.meets u (get_or players k 0) ≡ true → IsTold new size u (get_or players k 0)) i
    (λ k lt met. kept (u * size + get_or players k 0) (told k lt met)) here

-- what holds at each place holds of all
pub all_at : (P : ℕ → Type 0) (xs : List ℕ) → ((k : ℕ) → k < length xs → P (get_or xs k 0)) → All P xs
all_at P xs each = λ k d lt. subst P (get_or_default xs k 0 d lt) (each k lt)

-- ---- all lines

-- one line more is told
pub lines_more : (costs : Costs) (players : List ℕ) (size i : ℕ) (marks new : List Bool) → i < length players → KeepsMarks marks new
    → All (λ u. AreTold costs marks size u players) (take i players) → AreTold costs new size (get_or players i 0) players
    → All (λ u. AreTold costs new size u players) (take (i + 1) players)
lines_more costs players size i marks new lt kept told here =
    All-more (λ u. AreTold costs new size u players) players i 0 lt
    (All-weaker (λ u. AreTold costs marks size u players) (λ u. AreTold costs new size u players)
    (λ u h k d there met. kept (u * size + get_or players k d) (h k d there met)) (take i players) told)
    here

pub all_written : (costs : Costs) (certificate : Certificate) (players : List ℕ) (size : ℕ) (slacks : List ℕ) (marks : List Bool)
    → All (λ v. v < size) players → IsSlate costs certificate size slacks marks → All (λ u. AreTold costs marks size u players) players
    → AreWritten costs certificate players size slacks
all_written costs certificate players size slacks marks below slate told = λ k d lt j e there met.
    slate.told (get_or players k d) (get_or players j e) (below j e there) (told k d lt j e there met)

-- ---- the first players of the kinds

module _ (knows : ℕ → Type 0) (table : CertificateTable) (classes : List ℕ) where
  first_at : (firsts : List ℕ) (v first : ℕ) → get_or firsts v 0 ≡ first → knows first → first < length firsts → AreAlike table classes v first
      → HasFirst knows table classes firsts v
  first_at firsts v first is known below alike =
      record {
        known = subst knows (sym is) known;
        below = omega (arith, is, below);
        alike = subst (AreAlike table classes v) (sym is) alike;
      }

  -- one player more has a first
  pub firsts_more : (players firsts : List ℕ) (i v first : ℕ) → v ≡ get_or players i 0 → v < length firsts → knows first → first < length firsts
      → AreAlike table classes (get_or players i 0) first → ((k : ℕ) → k < i → HasFirst knows table classes firsts (get_or players k 0))
      → (k : ℕ) → k < i + 1 → HasFirst knows table classes (set firsts v first) (get_or players k 0)
  firsts_more players firsts i v first here inside known below alike so_far =
      let new : List ℕ = set firsts v first in
      let count : length new ≡ length firsts = length-set firsts v first in
      let mine : HasFirst knows table classes new (get_or players i 0) =
      first_at new (get_or players i 0) first (ap (λ n. get_or new n 0) (sym here) ∙ get_or-set_same firsts v first 0 inside) known (omega (arith, count, below)) alike in
      below_more (λ k. HasFirst knows table classes new (get_or players k 0)) i
      (λ k lt. elim (cases_Bool (nat_eq (get_or players k 0) v)) [
        | inl is ↦
            let same : get_or players k 0 ≡ v = eqb-true (get_or players k 0) v is in
            subst (HasFirst knows table classes new) (sym here ∙ sym same) mine
        | inr other ↦
            let was = so_far k lt in
            let ne : get_or players k 0 ≢ v = λ same. cc (eq-eqb (get_or players k 0) v same, other) in
            first_at new (get_or players k 0) (get_or firsts (get_or players k 0) 0) (get_or-set_other firsts v (get_or players k 0) first 0 ne) was.known
            (omega (arith, count, was.below)) was.alike
      ])
      mine

  -- pairs of the firsts stand for all pairs
  pub all_stand : (costs : Costs) (players firsts read : List ℕ) (i size a : ℕ) → WeighByClass knows costs classes → All knows players
      → All (HasFirst knows table classes firsts) players → i < length players → read ≡ firsts → size ≡ length firsts
      → a ≡ get_or firsts (get_or players i 0) 0
      → All (λ v. StandsFor knows costs (certificate_in table) size (get_or players i 0) v a (get_or read v 0)) players
  all_stand costs players firsts read i size a weighs known have lt_i read_is size_is a_is = λ k d lt.
      let u : ℕ = get_or players i 0 in
      let v : ℕ = get_or players k d in
      let first = have i 0 lt_i in
      let second = have k d lt in
      let stands : StandsFor knows costs (certificate_in table) size u v (get_or firsts u 0) (get_or firsts v 0) =
      stands_for knows costs table classes size u v (get_or firsts u 0) (get_or firsts v 0) weighs (known i 0 lt_i) (known k d lt) first.known second.known
      (omega (arith, second.below, size_is)) first.alike second.alike in
      subst (λ r. StandsFor knows costs (certificate_in table) size u v a (get_or r v 0)) (sym read_is)
      (subst (λ n. StandsFor knows costs (certificate_in table) size u v n (get_or firsts v 0)) (sym a_is) stands)

-- what is read at a place of a list
pub read_at : (xs : List ℕ) (from place x : ℕ) → x ≡ get_or xs from x → from ≡ place → place < length xs → x ≡ get_or xs place 0
read_at xs from place x e is lt = e ∙ (ap (λ n. get_or xs n x) is ∙ get_or_default xs place x 0 lt)

-- ---- for callers

-- where all known players have a class in the list, it is enough to compare the classes there
pub weigh_by_class : (knows : ℕ → Type 0) (costs : Costs) (classes : List ℕ) → ((v : ℕ) → knows v → v < length classes)
    → ((u v a b : ℕ) → knows u → knows v → knows a → knows b → get_or classes u 0 ≡ get_or classes a 0 → get_or classes v 0 ≡ get_or classes b 0
    → costs.weight u v ≡ costs.weight a b)
    → WeighByClass knows costs classes
weigh_by_class knows costs classes inside weigh = λ u v a b known_u known_v known_a known_b first second.
    weigh u v a b known_u known_v known_a known_b
    (get_or_default classes u 0 (65536 + u) (inside u known_u) ∙ (first ∙ get_or_default classes a (65536 + a) 0 (inside a known_a)))
    (get_or_default classes v 0 (65536 + v) (inside v known_v) ∙ (second ∙ get_or_default classes b (65536 + b) 0 (inside b known_b)))
