-- If a last bracket leaves two or more over, no arrangement is legal.
use Rattle.std.proofs.Common.{◌≡◌, ℕ, ◌+◌, ◌-◌, ◌*◌, ◌<◌, Bool, true, false, not, ◌&&◌, ◌||◌, cond, List, [], ◌∷◌, ◌++◌, length, length-append, refl, ◌∙◌, ap, arith, inl, inr}
use Rattle.std.specs.List.{filter}
use Rattle.dutch_arrangements.specs.declared.bracket.Shape.{Shape}
use Rattle.dutch_arrangements.specs.Prelude.{tuples, all_meet, IsIn, sorted, lower_first, exchanges, limbo_exchanges, Frame, Arrangement, Fits, players_of, residents_of, moved_down_scores, left_of, remainder_pairs, with_s2r, with_s1r, with_s2, arrangements, paired, down, leaves_one, is_legal, candidates, arranged}
use Rattle.dutch_sequence.proofs.Orders.{IsIn-flat_map, IsIn-map}
use Rattle.dutch_sequence.proofs.Sets.{sorted-in}
use Rattle.dutch_sequence.proofs.Members.{length-numbers}
use Rattle.dutch_sequence.proofs.Counts.{tuples-length, left-length, numbers-rise}
use Rattle.dutch_arrangements.proofs.Listed.{limbo-length, exchange-length}

pub filter-none-in : {A : Type 0} (p : A → Bool) (xs : List A) → ((x : A) → IsIn x xs → p x ≡ false) → filter p xs ≡ []
filter-none-in p [] none = refl
filter-none-in p (x ∷ xs) none =
    ap (λ b. cond b (x ∷ filter p xs) (filter p xs)) (none x (inl refl)) ∙ filter-none-in p xs (λ y m. none y (inr m))

none-left : (may_be_left : ℕ → Bool) (left : List ℕ) → 1 < length left → leaves_one may_be_left left ≡ false
none-left may_be_left [] many = absurd (omega arith)
none-left may_be_left (x ∷ []) many = absurd (omega arith)
none-left may_be_left (x ∷ y ∷ left) many = refl

illegal : (a b last left : Bool) → last ≡ true → left ≡ false → (a && (b && (not last || left))) ≡ false
illegal false b last left p q = refl
illegal true false last left p q = refl
illegal true true last left p q = ap (λ l. not l || left) p ∙ q

module _ (frame : Frame) (shape : Shape) where
  -- how many are in the pairs of an arrangement
  pub paired-length : (a : Arrangement) → IsIn a (arrangements frame shape) → length (paired a) ≡ 2 * shape.mdps + 2 * remainder_pairs shape
  paired-length a m =
      let k = remainder_pairs shape in
      let by1 = IsIn-flat_map (with_s2 frame shape) a (limbo_exchanges (moved_down_scores frame) shape.mdps) m in
      let s1 = by1.0 in
      let by2 = IsIn-flat_map (with_s1r frame shape s1) a (sorted lower_first (tuples (residents_of frame) shape.mdps)) by1.2 in
      let s2 = by2.0 in
      let by3 = IsIn-flat_map (with_s2r frame shape s1 s2) a (exchanges (left_of (residents_of frame) s2) k) by2.2 in
      let s1r = by3.0 in
      let pool = left_of (left_of (residents_of frame) s2) s1r in
      let by4 = IsIn-map (arranged s1 s2 s1r) a (sorted lower_first (tuples pool k)) by3.2 in
      let s2r = by4.0 in
      let e1 : length s1 ≡ shape.mdps = limbo-length (λ a b. true) frame shape s1 by1.1 in
      let e2 : length s2 ≡ shape.mdps = tuples-length (residents_of frame) shape.mdps s2 (sorted-in lower_first s2 (tuples (residents_of frame) shape.mdps) by2.1) in
      let e3 : length s1r ≡ k = exchange-length (λ a b. true) frame shape s2 s1r by3.1 in
      let e4 : length s2r ≡ k = tuples-length pool k s2r (sorted-in lower_first s2r (tuples pool k) by4.2) in
      ap (λ b. length (paired b)) by4.1
      ∙ omega (arith, e1, e2, e3, e4, length-append s1 (s2 ++ (s1r ++ s2r)), length-append s2 (s1r ++ s2r), length-append s1r s2r)

  pub none-legal : (meets : ℕ → ℕ → Bool) (may_be_left : ℕ → Bool) → Fits frame shape → frame.last ≡ true → 1 < length frame.scores - 2 * shape.pairs → candidates meets may_be_left frame shape ≡ []
  none-legal meets may_be_left fits last many =
      filter-none-in (is_legal meets may_be_left frame) (arrangements frame shape)
      (λ a m.
      let left : 1 < length (down frame a) = omega (arith, fits.within_pairs, many, paired-length a m, left-length (players_of frame) (paired a) (numbers-rise 1 (length frame.scores)), length-numbers 1 (length frame.scores)) in
      illegal (all_meet meets a.s1 a.s2) (all_meet meets a.s1r a.s2r) frame.last (leaves_one may_be_left (down frame a)) last (none-left may_be_left (down frame a) left))
