-- What is legal by a rule is legal by a weaker one (C.04.3 B.3); and what is known of every greatest shape (C.5, C.7).
use Rattle.std.proofs.Common.{◌≡◌, ℕ, ◌-◌, ◌/◌, ◌≤◌, Bool, true, false, not, ◌&&◌, ◌||◌, nat_lt, cond, List, [], ◌∷◌, length, Option, Some, None, refl, ap, ◌∙◌, arith}
use Rattle.std.proofs.lemmas.Bool.{and_from, and_parts}
use Rattle.std.proofs.lemmas.Bool.Decides.{nat_tests}
use Rattle.dutch_arrangements.specs.declared.bracket.Shape.{Shape}
use Rattle.dutch_arrangements.specs.Prelude.{all_meet, Frame, Arrangement, candidates, is_legal, leaves_one, down}
use Rattle.dutch_sequence.proofs.Orders.{IsIn-flat_map}
use Rattle.dutch_player.proofs.PresentLemmas.{or_more}
use Rattle.dutch_bracket.specs.Prelude.{down_from, fits, greatest_shape, has_member, shapes_with}
use Rattle.dutch_bracket.proofs.ShapeLaws.{among, down_in, greatest_known, of_pairs}

and_weaker : (s t s' t' : Bool) → (s ≡ true → s' ≡ true) → (t ≡ true → t' ≡ true) → (s && t) ≡ true → (s' && t') ≡ true
and_weaker true t s' t' f g e = ap (λ b. b && t') (f refl) ∙ g e
and_weaker false t s' t' f g e = let bad : false ≡ true = e in absurd (cc)

module _ (meets meets' : ℕ → ℕ → Bool) (left left' : ℕ → Bool) (more : (i j : ℕ) → meets i j ≡ true → meets' i j ≡ true) (may : (i : ℕ) → left i ≡ true → left' i ≡ true) where
  all_weaker : (xs ys : List ℕ) → all_meet meets xs ys ≡ true → all_meet meets' xs ys ≡ true
  all_weaker [] ys e = refl
  all_weaker (x ∷ xs) [] e = refl
  all_weaker (x ∷ xs) (y ∷ ys) e = and_weaker (meets x y) (all_meet meets xs ys) (meets' x y) (all_meet meets' xs ys) (more x y) (all_weaker xs ys) e

  one_weaker : (players : List ℕ) → leaves_one left players ≡ true → leaves_one left' players ≡ true
  one_weaker [] e = refl
  one_weaker (x ∷ []) e = may x e
  one_weaker (x ∷ y ∷ rest) e = e

  -- what is legal by the stronger rule is legal by the weaker
  pub legal_weaker : (frame : Frame) (a : Arrangement) → is_legal meets left frame a ≡ true → is_legal meets' left' frame a ≡ true
  legal_weaker frame a e =
      and_weaker (all_meet meets a.s1 a.s2) (all_meet meets a.s1r a.s2r && (not frame.last || leaves_one left (down frame a)))
      (all_meet meets' a.s1 a.s2) (all_meet meets' a.s1r a.s2r && (not frame.last || leaves_one left' (down frame a)))
      (all_weaker a.s1 a.s2)
      (and_weaker (all_meet meets a.s1r a.s2r) (not frame.last || leaves_one left (down frame a))
      (all_meet meets' a.s1r a.s2r) (not frame.last || leaves_one left' (down frame a))
      (all_weaker a.s1r a.s2r) (or_more (not frame.last) (leaves_one left (down frame a)) (leaves_one left' (down frame a)) (one_weaker (down frame a))))
      e

-- a shape that is found fits, has an arrangement, and has at most half the players in pairs
pub found_fits : (e : Shape → List Arrangement) (frame : Frame) (s : Shape) → greatest_shape e frame ≡ Some s → fits frame s ≡ true
found_fits e frame s h = (and_parts (fits frame s) (has_member (e s)) (greatest_known e frame (Some s) h).1).0

pub found_few : (e : Shape → List Arrangement) (frame : Frame) (s : Shape) → greatest_shape e frame ≡ Some s → s.pairs ≤ length frame.scores / 2
found_few e frame s h =
    let n = length frame.scores / 2 in
    let from = IsIn-flat_map shapes_with s (down_from n) (greatest_known e frame (Some s) h).0 in
    omega (arith, down_in from.0 n from.1, (of_pairs from.0 from.0 s from.2).0)

-- the shape without a pair
abbrev empty : Shape
empty = record { pairs = 0; mdps = 0 }

-- in a bracket that is not a last one it always has an arrangement
pub always_a_shape : (meets : ℕ → ℕ → Bool) (left : ℕ → Bool) (frame : Frame) → frame.last ≡ false → greatest_shape (candidates meets left frame) frame ≡ None → ⊥
always_a_shape meets left frame open' h =
    let second : nat_lt (length frame.scores - frame.mdps) 0 ≡ false = grind (arith, nat_tests) in
    let room : fits frame empty ≡ true =
    let first : nat_lt frame.mdps 0 ≡ false = grind (arith, nat_tests) in
    ap (λ t. not t && not (nat_lt (length frame.scores - frame.mdps) 0)) first ∙ ap not second in
    let alone : Arrangement = record { s1 = []; s2 = []; s1r = []; s2r = [] } in
    let there : has_member (candidates meets left frame empty) ≡ true =
    ap (λ t. has_member (cond (not t || leaves_one left (down frame alone)) (alone ∷ []) [])) open' in
    greatest_known (candidates meets left frame) frame None h empty (among (length frame.scores / 2) empty (omega arith) (omega arith))
    (and_from (fits frame empty) (has_member (candidates meets left frame empty)) room there)
