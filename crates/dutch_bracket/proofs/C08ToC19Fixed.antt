-- What the pairs of a beginning make is the least that an arrangement with it makes (C.04.3 C.8, C.9, C.12 to C.19): the pairs that
-- it adds and its downfloaters only add to it. So C.8, C.9 and C.12 to C.15 count no fewer players. In the lists of C.16 to
-- C.19 no difference stands less often; of two such lists, the highest first, the one with more members stands behind.
use Rattle.std.proofs.Common.{◌≡◌, ℕ, ◌≤◌, Bool, false, List, map, filter, length, ap, ◌∙◌, arith, length-append}
use Rattle.std.specs.Prelude.{sum_by}
use Rattle.std.proofs.lemmas.List.{map-append}
use Rattle.std.proofs.lemmas.List.Elements.{filter-append}
use Rattle.std.proofs.lemmas.List.Sums.{sum_by-append}
use Rattle.dutch_arrangements.specs.Prelude.{Arrangement, down, Candidate}
use Rattle.dutch_player.specs.declared.float.Float.{Float}
use Rattle.dutch_player.specs.declared.float.Float.TheVariants.{Up, Down}
use Rattle.dutch_player.specs.Prelude.{SeatFacts, Facts}
use Rattle.trf16_report.specs.declared.cell.Colour.{Colour}
use Rattle.dutch_bracket.specs.declared.seated.Floater.{Floater}
use Rattle.dutch_bracket.specs.declared.colours_missed.Miss.TheVariants.{Wide, Third}
use Rattle.dutch_bracket.specs.Prelude.{seated_so, NotBelow, is_lower, quality, again, count_in, count_with_topscorers, differences, has_topscorer, highest_first, misses, quality_with, Reached, frame_of, downfloaters, quality_of, Seated, all_pairs, by_seats, floats_down, goes_down, goes_up, going_down, going_up, is_uneven, seat_of}
use Rattle.dutch_bracket.proofs.Copies.{copies, copies_append, highest_first_copies, highest_first_falls, not_lower}
use Rattle.dutch_bracket.proofs.FixedPairs.{AddsUp, Beside}
use Rattle.dutch_bracket.proofs.PairsWithBeginning.{no_less}

-- a list in which each number stands no less often is not lower
pub more_copies : (xs ys : List ℕ) → ((d : ℕ) → copies d xs ≤ copies d ys) → is_lower (highest_first ys) (highest_first xs) ≡ false
more_copies xs ys more =
    not_lower (highest_first xs) (highest_first ys) (highest_first_falls xs) (highest_first_falls ys)
    (λ d above. omega (arith, more d, highest_first_copies d xs, highest_first_copies d ys))

pub with_topscorers_add_up : (facts : Facts) (holds : SeatFacts → Colour → Bool) → AddsUp (count_with_topscorers facts holds)
with_topscorers_add_up facts holds xs ys =
    ap (sum_by (count_in facts holds)) (filter-append (has_topscorer facts) xs ys)
    ∙ sum_by-append (count_in facts holds) (filter (has_topscorer facts) xs) (filter (has_topscorer facts) ys)

-- what adds up over a list adds up over the members that a test finds, and over what is made of each
pub filtered_add_up : {X : Type 0} (f : List X → ℕ) (test : X → Bool) → AddsUp f → AddsUp (λ xs. f (filter test xs))
filtered_add_up f test adds xs ys = ap f (filter-append test xs ys) ∙ adds (filter test xs) (filter test ys)

pub mapped_add_up : {X Y : Type 0} (f : List Y → ℕ) (made : X → Y) → AddsUp f → AddsUp (λ xs. f (map made xs))
mapped_add_up f made adds xs ys = ap f (map-append made xs ys) ∙ adds (map made xs) (map made ys)

module _ (facts : Facts) (reached : Reached) (known : List (ℕ × ℕ)) (gone : List ℕ) (candidate : Candidate) (others : Beside known (all_pairs reached.seats candidate.lists))
    (left : Beside gone (map (seat_of reached.seats) candidate.down)) where
  abbrev fewer : Seated
  fewer = seated_so facts reached known gone

  abbrev all : Seated
  all = by_seats facts reached.seats candidate

  -- of who goes down
  down_no_less : (f : List Floater → ℕ) → AddsUp f → f (going_down facts fewer) ≤ f (going_down facts all)
  unfolding going_down
  down_no_less f adds =
      let of_pairs : List (ℕ × ℕ) → ℕ = λ pairs. f (map (goes_down facts) (filter (is_uneven facts) pairs)) in
      let of_gone : List ℕ → ℕ = λ seats. f (map (floats_down facts all.lowest) seats) in
      let more : of_pairs fewer.pairs ≤ of_pairs all.pairs =
      no_less of_pairs known all.pairs (filtered_add_up (λ pairs. f (map (goes_down facts) pairs)) (is_uneven facts) (mapped_add_up f (goes_down facts) adds)) others in
      omega (
        arith,
        more,
        (no_less of_gone gone all.down (mapped_add_up f (floats_down facts all.lowest) adds) left),
        adds (map (goes_down facts) (filter (is_uneven facts) fewer.pairs)) (map (floats_down facts all.lowest) gone),
        adds (map (goes_down facts) (filter (is_uneven facts) all.pairs)) (map (floats_down facts all.lowest) all.down),
      )

  -- and of who goes up
  up_no_less : (f : List Floater → ℕ) → AddsUp f → f (going_up facts fewer) ≤ f (going_up facts all)
  unfolding going_up
  up_no_less f adds =
      no_less (λ pairs. f (map (goes_up facts) (filter (is_uneven facts) pairs))) known all.pairs
      (filtered_add_up (λ pairs. f (map (goes_up facts) pairs)) (is_uneven facts) (mapped_add_up f (goes_up facts) adds)) others

module _ (facts : Facts) (float : Float) (back : ℕ) where
  -- how many had a float in the round so far back
  pub counts_add_up : AddsUp (λ floaters. length (again facts float back floaters))
  counts_add_up xs ys = ap length (filter-append _ xs ys) ∙ length-append (again facts float back xs) (again facts float back ys)

  -- how often a difference stands among theirs
  pub copies_add_up : (d : ℕ) → AddsUp (λ floaters. copies d (map (λ (floater : Floater). floater.by) (again facts float back floaters)))
  copies_add_up d xs ys =
      ap (λ floaters. copies d (map (λ (floater : Floater). floater.by) floaters)) (filter-append _ xs ys)
      ∙ ap (copies d) (map-append (λ (floater : Floater). floater.by) (again facts float back xs) (again facts float back ys))
      ∙ copies_append d (map (λ (floater : Floater). floater.by) (again facts float back xs)) (map (λ (floater : Floater). floater.by) (again facts float back ys))

-- where nothing that adds up is less, no fewer had a float, and no difference stands less often
module _ (facts : Facts) (float : Float) (few all : List Floater) (grows : (f : List Floater → ℕ) → AddsUp f → f few ≤ f all) (back : ℕ) where
  as_many : length (again facts float back few) ≤ length (again facts float back all)
  as_many = grows (λ floaters. length (again facts float back floaters)) (counts_add_up facts float back)

  no_lower : is_lower (differences (again facts float back all)) (differences (again facts float back few)) ≡ false
  no_lower =
      let by : List Floater → List ℕ = λ floaters. map (λ (floater : Floater). floater.by) (again facts float back floaters) in
      more_copies (by few) (by all) (λ d. grows (λ floaters. copies d (by floaters)) (copies_add_up facts float back d))

pub least_of_known : (facts : Facts) (reached : Reached) (lower : List ℕ) (known : List (ℕ × ℕ)) (gone : List ℕ) (a : Arrangement) → Beside known (all_pairs reached.seats a)
    → Beside gone (downfloaters facts reached a) → NotBelow facts (seated_so facts reached known gone) (quality_of facts reached lower a)
unfolding quality_of quality quality_with
least_of_known facts reached lower known gone a others left =
    let candidate : Candidate = record { lists = a; down = down (frame_of facts reached) a } in
    let all : List (ℕ × ℕ) = all_pairs reached.seats a in
    let down' = down_no_less facts reached known gone candidate others left in
    let up = up_no_less facts reached known gone candidate others left in
    record {
      wide = no_less (count_with_topscorers facts (misses Wide)) known all (with_topscorers_add_up facts (misses Wide)) others;
      third = no_less (count_with_topscorers facts (misses Third)) known all (with_topscorers_add_up facts (misses Third)) others;
      down_again = as_many facts Down _ _ down' 1;
      up_again = as_many facts Up _ _ up 1;
      down_again_before = as_many facts Down _ _ down' 2;
      up_again_before = as_many facts Up _ _ up 2;
      down_again_by = no_lower facts Down _ _ down' 1;
      up_again_by = no_lower facts Up _ _ up 1;
      down_again_before_by = no_lower facts Down _ _ down' 2;
      up_again_before_by = no_lower facts Up _ _ up 2;
    }
