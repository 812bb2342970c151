-- The pairs of a candidate, and those whom it leaves over, are a matching of the numbers of its bracket that has the pairs of each beginning
-- of it.
use Rattle.std.proofs.Common.{◌≡◌, ℕ, ◌+◌, ◌-◌, ◌*◌, ◌⊎◌, Bool, true, false, not, ◌||◌, List, [], ◌∷◌, ◌++◌, All, length, sum_by, inl, inr, refl, sym, ap, ◌∙◌, arith}
use Rattle.std.specs.List.{AllByRecursion, zip}
use Rattle.std.specs.Option.{ForSome}
use Rattle.std.proofs.lemmas.Bool.{and_parts}
use Rattle.std.proofs.lemmas.List.{length-map}
use Rattle.std.proofs.lemmas.List.Elements.{All-nil, All-cons}
use Rattle.std.proofs.lemmas.List.Sums.{sum_by-cons, sum_by-append}
use Rattle.dual.specs.Prelude.{IsMatching, IsPartOf, in_both}
use Rattle.dutch_arrangements.specs.declared.bracket.Shape.{Shape}
use Rattle.dutch_arrangements.specs.Prelude.{Arrangement, Fits, arrangements, down, is_legal, leaves_one, all_meet, numbers_from, IsIn, GoesOn}
use Rattle.dutch_player.specs.Prelude.{Facts}
use Rattle.dutch_bracket.specs.Prelude.{HasPairsOf, beyond, IsOf, Reached, ends_round, frame_of, number_may_be_left, numbers_meet, candidates_of, quality_of, score_at, number_pairs}
use Rattle.dutch_weighing.specs.Prelude.{HasDigits, IsScaleFor, Scale, numbers, weighing}
use Rattle.dutch_bracket.proofs.AllLemmas.{all_join}
use Rattle.dutch_bracket.proofs.ArrangementParts.{parts_of}
use Rattle.dutch_weighing.proofs.C06ToC19Weights.{IsSmallBelow, candidate_digits}
use Rattle.dutch_bracket.proofs.Everybody.{arranged, bracket_whole}
use Rattle.dutch_bracket.proofs.DownCount.{down_count}
use Rattle.dutch_bracket.proofs.LegalPairs.{in_passes, legal_of}
use Rattle.dutch_bracket.proofs.Totals.{total}

pub total_sum : (w : ℕ → ℕ) (xs : List ℕ) → total w xs ≡ sum_by w xs
total_sum w [] = refl
total_sum w (x ∷ xs) = omega (arith, sum_by-cons w x xs, total_sum w xs)

pub each : {X : Type 0} (P : X → Type 0) (xs : List X) → AllByRecursion P xs → All P xs
each P [] all = All-nil P
each P (x ∷ xs) all = All-cons P x xs all.0 (each P xs all.1)

pub zip_sum : (w : ℕ → ℕ) (xs ys : List ℕ) → length xs ≡ length ys → sum_by (in_both w) (zip xs ys) ≡ total w xs + total w ys
zip_sum w [] [] same = refl
zip_sum w [] (y ∷ ys) same = absurd (omega arith)
zip_sum w (x ∷ xs) [] same = absurd (omega arith)
zip_sum w (x ∷ xs) (y ∷ ys) same = omega (arith, sum_by-cons (in_both w) (x, y) (zip xs ys), zip_sum w xs ys (omega arith))

pub zip_meets : (meets : ℕ → ℕ → Bool) (xs ys : List ℕ) → all_meet meets xs ys ≡ true
    → AllByRecursion (λ (pair : ℕ × ℕ). meets pair.0 pair.1 ≡ true) (zip xs ys)
zip_meets meets [] ys e = tt
zip_meets meets (x ∷ xs) [] e = tt
zip_meets meets (x ∷ xs) (y ∷ ys) e =
    let both = and_parts (meets x y) (all_meet meets xs ys) e in (both.0, zip_meets meets xs ys both.1)

left_may : (may : ℕ → Bool) (ends : Bool) (left : List ℕ) → (not ends || leaves_one may left) ≡ true → AllByRecursion (λ v. (not ends || may v) ≡ true) left
left_may may false [] e = tt
left_may may false (v ∷ left) e = (refl, left_may may false left refl)
left_may may true [] e = tt
left_may may true (v ∷ []) e = (e, tt)
left_may may true (v ∷ w ∷ left) e = absurd (let bad : false ≡ true = e in cc)

-- ---- the pairs of a beginning are some of those of an arrangement

pub zip_none : (xs : List ℕ) → zip {X = ℕ} xs [] ≡ []
zip_none [] = refl
zip_none (x ∷ xs) = refl

zip_on : (firsts front rest : List ℕ) → zip firsts (front ++ rest) ≡ zip firsts front ++ zip (beyond front firsts) rest
zip_on firsts [] rest = ap (λ (pairs : List (ℕ × ℕ)). pairs ++ zip firsts rest) (sym (zip_none firsts))
zip_on [] (b ∷ front) rest = refl
zip_on (a ∷ firsts) (b ∷ front) rest = ap (λ (pairs : List (ℕ × ℕ)). (a, b) ∷ pairs) (zip_on firsts front rest)

zip_goes_on : (firsts seconds firsts' seconds' : List ℕ) → (seconds ≡ []) ⊎ (firsts ≡ firsts') → (on : GoesOn seconds seconds')
    → zip firsts' seconds' ≡ zip firsts seconds ++ zip (beyond seconds firsts') on.rest
zip_goes_on firsts seconds firsts' seconds' (inl none) on =
    ap (zip firsts') on.is
    ∙ zip_on firsts' seconds on.rest
    ∙ ap (λ (pairs : List (ℕ × ℕ)). pairs ++ zip (beyond seconds firsts') on.rest)
    (ap (zip firsts') none ∙ zip_none firsts' ∙ sym (zip_none firsts) ∙ ap (zip firsts) (sym none))
zip_goes_on firsts seconds firsts' seconds' (inr same) on =
    ap (zip firsts') on.is
    ∙ zip_on firsts' seconds on.rest
    ∙ ap (λ (firsts'' : List ℕ). zip firsts'' seconds ++ zip (beyond seconds firsts') on.rest) (sym same)

pub part_of : (b a : Arrangement) → HasPairsOf b a → IsPartOf (number_pairs b) (number_pairs a)
part_of b a begins =
    let first = zip_goes_on b.s1 b.s2 a.s1 a.s2 begins.s1 begins.s2 in
    let second = zip_goes_on b.s1r b.s2r a.s1r a.s2r begins.s1r begins.s2r in
    let more : List (ℕ × ℕ) = zip (beyond b.s2 a.s1) begins.s2.rest in
    let more_r : List (ℕ × ℕ) = zip (beyond b.s2r a.s1r) begins.s2r.rest in
    record {
      others = more ++ more_r;
      whole = λ f. omega (
        arith,
        sum_by-append f (zip b.s1 b.s2) (zip b.s1r b.s2r),
        sum_by-append f more more_r,
        sum_by-append f (zip a.s1 a.s2) (zip a.s1r a.s2r),
        ap (sum_by f) first,
        ap (sum_by f) second,
        sum_by-append f (zip b.s1 b.s2) more,
        sum_by-append f (zip b.s1r b.s2r) more_r,
      );
    }

module _ (facts : Facts) (reached : Reached) (scale : Scale) (lower : List ℕ) (shape : Shape) (a : Arrangement) (of' : IsOf facts reached)
    (fits : Fits (frame_of facts reached) shape) (m : IsIn a (candidates_of facts reached shape)) where
  among : length (frame_of facts reached).scores ≡ length reached.seats
  among = length-map reached.seats (score_at facts)

  pub left_legal : AllByRecursion (λ v. (not (ends_round reached.kind) || number_may_be_left facts reached v) ≡ true) (down (frame_of facts reached) a)
  unfolding candidates_of
  left_legal =
      let passes = in_passes (is_legal (numbers_meet facts reached) (number_may_be_left facts reached) (frame_of facts reached)) a (arrangements (frame_of facts reached) shape) m in
      let first = and_parts (all_meet (numbers_meet facts reached) a.s1 a.s2) _ passes in
      let second = and_parts (all_meet (numbers_meet facts reached) a.s1r a.s2r) _ first.1 in
      left_may (number_may_be_left facts reached) (ends_round reached.kind) (down (frame_of facts reached) a) second.1

  pub candidate_is_matching : IsMatching (weighing facts reached scale) (numbers reached) (number_pairs a) (down (frame_of facts reached) a)
  candidate_is_matching =
      let legal = legal_of facts reached shape a m in
      let parts = parts_of (frame_of facts reached) shape a of'.sound.within legal.arranged in
      record {
        whole = λ w. omega (
          arith,
          arranged w (frame_of facts reached) shape a of'.sound.within legal.arranged,
          ap (λ n. total w (numbers_from 1 n)) among,
          total_sum w (numbers reached),
          total_sum w (down (frame_of facts reached) a),
          sum_by-append (in_both w) (zip a.s1 a.s2) (zip a.s1r a.s2r),
          zip_sum w a.s1 a.s2 (parts.s1_count ∙ sym parts.s2_count),
          zip_sum w a.s1r a.s2r (parts.s1r_count ∙ sym parts.s2r_count),
        );
        may_meet = each (λ (pair : ℕ × ℕ). numbers_meet facts reached pair.0 pair.1 ≡ true) (number_pairs a)
            (all_join (λ (pair : ℕ × ℕ). numbers_meet facts reached pair.0 pair.1 ≡ true) (zip a.s1 a.s2) (zip a.s1r a.s2r)
            (zip_meets (numbers_meet facts reached) a.s1 a.s2 legal.moved_down) (zip_meets (numbers_meet facts reached) a.s1r a.s2r legal.residents));
        may_be_left = each (λ v. (not (ends_round reached.kind) || number_may_be_left facts reached v) ≡ true) (down (frame_of facts reached) a) left_legal;
      }

  pub left_over : length (down (frame_of facts reached) a) ≡ length reached.seats - 2 * shape.pairs
  left_over =
      omega (arith, down_count (frame_of facts reached) shape a of'.sound.within fits.within_pairs (legal_of facts reached shape a m).arranged, among)

  -- what C.7 says of a candidate is small, if a scale measures it
  module _ (scaled : IsScaleFor facts reached lower shape scale)
      (next_small : ForSome scale.next (IsSmallBelow (quality_of facts reached lower a))) where
    pub digits_are_small : HasDigits scale (quality_of facts reached lower a)
    digits_are_small =
        candidate_digits facts reached scale lower a
        (λ w. bracket_whole w facts reached shape a (let within = of'.sound.within in omega (arith, within, among))
        (legal_of facts reached shape a m).arranged)
        scaled.high scaled.floats next_small (λ n e. (scaled.next n e).high)
