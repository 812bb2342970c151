-- What two cost in one scope beside another one (C.04.3 B.3, B.6, B.7): of two who each keep their pairs none is new, and a pair of them weighs
-- as much.
use Rattle.std.proofs.Common.{◌≡◌, ℕ, ◌+◌, ◌^◌, Bool, true, false, not, cond, ◌&&◌, ◌||◌, nat_lt, List, Option, refl, sym, ap, subst, ◌∙◌, arith}
use Rattle.std.proofs.lemmas.Bool.{and_from, and_parts}
use Rattle.dual.specs.Prelude.{AreAsBefore, Costs}
use Rattle.dutch_arrangements.specs.declared.prefix.Filling.{Filling}
use Rattle.dutch_arrangements.specs.declared.prefix.Filling.TheVariants.{ChoosingS1, S2, S2r}
use Rattle.dutch_bracket.specs.Prelude.{seats_meet}
use Rattle.dutch_candidates.specs.declared.wish.Wish.{Wish}
use Rattle.dutch_candidates.specs.Wishes.{fits_as_left, fits_as_pair}
use Rattle.dutch_weighing.specs.Prelude.{Weighing, weighing}
use Rattle.dutch_weight_floors.specs.declared.scope.Standing.{Standing}
use Rattle.dutch_weight_floors.specs.declared.scope.Standing.TheVariants.{Any, Outside, First, Resident, FirstResident, OtherResident}
use Rattle.dutch_weight_floors.specs.declared.scoped.Reach.{Reach}
use Rattle.dutch_weight_floors.specs.declared.scoped.Reach.TheVariants.{Bracket, Lower, Next}
use Rattle.dutch_weight_floors.specs.Prelude.{AddsNothing, DifferByScope, MarkTurned, Order, Scope, Scoped, any_seat, are_inside, both_go, both_weigh, bracket_costs, costs_in, goes_down, is_inside, is_joined, is_within, joins_in, least_of, lesser, lower_costs, may_meet_below, may_pair_out, may_stay, pair_weight_below, standing_of, stays_in, with_lesser, with_order}

-- ---- where they stand

-- one may stand so in the arrangements of a scope, by the list that is being filled in it
abbrev stands_in : Filling → Standing → Bool
stands_in ChoosingS1 Any = true
stands_in S2 Outside = true
stands_in S2 First = true
stands_in S2 Resident = true
stands_in S2r Outside = true
stands_in S2r First = true
stands_in S2r FirstResident = true
stands_in S2r OtherResident = true
stands_in filling side = false

all_stand : (mdps : ℕ) (scope : Scope) (a : ℕ) → stands_in scope.filling (standing_of mdps scope a) ≡ true
all_stand mdps scope a = grind arith

-- who may be in no pair within where he stood might be in none there
pub stayed : (before now : Standing) → is_within before now ≡ true → may_stay now ≡ true → may_stay before ≡ true
stayed before now within stay = grind arith

-- two who may be a pair within where they stood might be one there
joined_by : (filling : Filling) (a b a' b' : Standing) → stands_in filling a ≡ true → stands_in filling b ≡ true
    → is_within a a' ≡ true → is_within b b' ≡ true → is_joined a' b' ≡ true → is_joined a b ≡ true
joined_by filling a b a' b' first second within within' joined = grind arith

pub were_joined : (mdps : ℕ) (scope : Scope) (a b : ℕ) (now now' : Standing) → is_within (standing_of mdps scope a) now ≡ true
    → is_within (standing_of mdps scope b) now' ≡ true → is_joined now now' ≡ true → is_joined (standing_of mdps scope a) (standing_of mdps scope b) ≡ true
were_joined mdps scope a b now now' within within' joined =
    joined_by scope.filling (standing_of mdps scope a) (standing_of mdps scope b) now now' (all_stand mdps scope a) (all_stand mdps scope b) within within' joined

-- ---- where nothing is added

same_or : (t : Bool) (x y : ℕ) → x ≡ y → cond t x y ≡ y
same_or true x y same = same
same_or false x y same = refl

pub none_with : (order : Order) → AddsNothing order → (mdps a b n : ℕ) → with_order mdps order a b n ≡ n
none_with order none mdps a b n =
    same_or (nat_lt mdps a && nat_lt mdps b) (with_lesser order n a b) n
    (same_or (nat_lt (n + lesser order a b) (2 ^ 1024)) (n + lesser order a b) n (omega (arith, none a, none b)))

-- ---- tests of which one part tells another

and_so : (x y z : Bool) → (x ≡ true → y ≡ true) → (x && z) ≡ true → (y && z) ≡ true
and_so x y z so both = let parts = and_parts x z both in and_from y z (so parts.0) parts.1

or_so : (x y z : Bool) → (y ≡ true → z ≡ true) → (x || y) ≡ true → (x || z) ≡ true
or_so true y z so either = refl
or_so false y z so either = so either

cond_so : (t x y x' y' : Bool) → (x ≡ true → x' ≡ true) → (y ≡ true → y' ≡ true) → cond t x y ≡ true → cond t x' y' ≡ true
cond_so true x y x' y' first second is = first is
cond_so false x y x' y' first second is = second is

-- ---- what they cost

module _ (w : Weighing) (wish : Option Wish) (scope scope' : Scope) (order order' : Order) (none : AddsNothing order) (none' : AddsNothing order') where
  abbrev before : Reach → Scoped
  before reach = record { weighing = w; scope = scope; wish = wish; reach = reach; order = order }

  abbrev now : Reach → Scoped
  now reach = record { weighing = w; scope = scope'; wish = wish; reach = reach; order = order' }

  abbrev side : ℕ → Standing
  side = standing_of w.reached.mdps scope

  abbrev side' : ℕ → Standing
  side' = standing_of w.reached.mdps scope'

  abbrev costs : Costs
  costs = weighing w.facts w.reached w.scale

  abbrev Within : ℕ → Type 0
  Within a = is_within (side a) (side' a) ≡ true

  module _ (reach : Reach) where
    abbrev s : Scoped
    s = before reach

    abbrev s' : Scoped
    s' = now reach

    weigh_same : (a b : ℕ) → (bracket_costs s').weight a b ≡ (bracket_costs s).weight a b
    weigh_same a b =
        none_with order' none' w.reached.mdps a b (costs.weight a b)
        ∙ sym (none_with order none w.reached.mdps a b (costs.weight a b))

    met : (a b : ℕ) → Within a → Within b → (bracket_costs s').meets a b ≡ true → (bracket_costs s).meets a b ≡ true
    met a b first second =
        and_so (joins_in s' a b) (joins_in s a b) (costs.meets a b)
        (and_so (is_joined (side' a) (side' b)) (is_joined (side a) (side b)) (fits_as_pair wish a b)
        (were_joined w.reached.mdps scope a b (side' a) (side' b) first second))

    went_down : (a : ℕ) → Within a → goes_down s' a ≡ true → goes_down s a ≡ true
    went_down a within =
        or_so (not (is_inside s a)) (stays_in s' a) (stays_in s a)
        (and_so (may_stay (side' a)) (may_stay (side a)) (fits_as_left wish a) (stayed (side a) (side' a) within))

    both_went : (a b : ℕ) → Within a → Within b → both_go s' a b ≡ true → both_go s a b ≡ true
    both_went a b first second both =
        let parts = and_parts (goes_down s' a) (goes_down s' b) both in
        and_from (goes_down s a) (goes_down s b) (went_down a first parts.0) (went_down b second parts.1)

    abbrev Stays : ℕ → Type 0
    Stays a = side' a ≡ side a

    meets_same : (a b : ℕ) → Stays a → Stays b → (bracket_costs s').meets a b ≡ (bracket_costs s).meets a b
    meets_same a b first second =
        ap (λ (t : Standing). (is_joined t (side' b) && fits_as_pair wish a b) && costs.meets a b) first
        ∙ ap (λ (t : Standing). (is_joined (side a) t && fits_as_pair wish a b) && costs.meets a b) second

    go_same : (a b : ℕ) → Stays a → Stays b → both_go s' a b ≡ both_go s a b
    go_same a b first second =
        ap (λ (t : Standing). (not (is_inside s a) || (may_stay t && fits_as_left wish a)) && goes_down s' b) first
        ∙ ap (λ (t : Standing). goes_down s a && (not (is_inside s b) || (may_stay t && fits_as_left wish b))) second

  by_reach : (reach : Reach) (turned : List Bool) → MarkTurned turned (before reach) (now reach)
      → AreAsBefore turned (costs_in (before reach)) (costs_in (now reach))
  by_reach Bracket turned marked = λ a b first second meets. (met Bracket a b (marked a first) (marked b second) meets, weigh_same Bracket a b)
  by_reach Lower turned marked = λ a b first second meets.
      let stays = marked a first in
      let stays' = marked b second in
      let pair = meets_same Lower a b stays stays' in
      let go = go_same Lower a b stays stays' in
      let x : Scoped = before Lower in
      let y : Scoped = now Lower in
      let out = seats_meet w.facts (any_seat x a) (any_seat x b) in
      let same : (lower_costs y).meets a b ≡ (lower_costs x).meets a b =
      ap (λ t. t || may_pair_out y a b) pair ∙ ap (λ t. (bracket_costs x).meets a b || (t && out)) go in (
        sym same ∙ meets,
        ap (λ t. least_of t (both_go y a b) ((bracket_costs y).weight a b) (both_weigh y a b)) pair
            ∙ ap (λ t. least_of ((bracket_costs x).meets a b) t ((bracket_costs y).weight a b) (both_weigh y a b)) go
            ∙ ap (λ n. least_of ((bracket_costs x).meets a b) (both_go x a b) n (both_weigh y a b)) (weigh_same Lower a b),
      )
  by_reach Next turned marked = λ a b first second meets.
      let within = marked a first in
      let within' = marked b second in
      let x : Scoped = before Next in
      let y : Scoped = now Next in (
        cond_so (are_inside y a b) ((bracket_costs y).meets a b) (may_meet_below y a b) ((bracket_costs x).meets a b) (may_meet_below x a b)
            (met Next a b within within')
            (and_so _ _ _ (and_so (both_go y a b) (both_go x a b) _ (both_went Next a b within within'))) meets,
        ap (λ n. cond (are_inside y a b) n (pair_weight_below y a b)) (weigh_same Next a b),
      )

-- ---- of scopes that differ in nothing else

same_but : (s t : Scoped) → DifferByScope s t → record { weighing = t.weighing; scope = s.scope; wish = t.wish; reach = t.reach; order = s.order } ≡ s
same_but s t differ =
    ap (λ (w : Weighing). record { weighing = w; scope = s.scope; wish = t.wish; reach = t.reach; order = s.order }) differ.weighing
    ∙ ap (λ (wish : Option Wish). record { weighing = s.weighing; scope = s.scope; wish = wish; reach = t.reach; order = s.order }) differ.wish
    ∙ ap (λ (reach : Reach). record { weighing = s.weighing; scope = s.scope; wish = s.wish; reach = reach; order = s.order }) differ.reach

pub are_as_before : (s t : Scoped) (turned : List Bool) → DifferByScope s t → MarkTurned turned s t → AreAsBefore turned (costs_in s) (costs_in t)
are_as_before s t turned differ marked =
    let same = same_but s t differ in
    subst (λ (s : Scoped). MarkTurned turned s t → AreAsBefore turned (costs_in s) (costs_in t)) same
    (by_reach t.weighing t.wish s.scope t.scope s.order t.order differ.nothing_before differ.nothing_now t.reach turned) marked
