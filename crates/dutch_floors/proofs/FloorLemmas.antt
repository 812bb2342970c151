-- What a floor is made of has room in a bracket.
use Rattle.std.proofs.Common.{◌≡◌, ℕ, ◌+◌, ◌-◌, ◌*◌, ◌≤◌, Bool, true, false, List, [], ◌∷◌, ◌++◌, filter, length, max, sum_by, refl, ap, ◌∙◌, arith}
use Rattle.std.proofs.lemmas.Bool.{and_parts}
use Rattle.dutch_arrangements.specs.declared.bracket.Shape.{Shape}
use Rattle.trf16_report.specs.declared.cell.Colour.TheVariants.{White, Black}
use Rattle.dutch_player.specs.Prelude.{Facts}
use Rattle.dutch_arrangements.specs.declared.prefix.Filling.{Filling}
use Rattle.dutch_arrangements.specs.declared.prefix.Filling.TheVariants.{ChoosingS1, S2, S2r}
use Rattle.dutch_arrangements.specs.Prelude.{Arrangement, Fits, numbers_from, Beginning}
use Rattle.dutch_player.specs.declared.float.Float.TheVariants.{Up, Down}
use Rattle.dutch_bracket.specs.Prelude.{IsOf, frame_of, HasFewPairs, fixed_lists, is_of_shape, again, all_pairs, differences, fixed, floor_over, is_uneven, lonely, pairs_of, seat_of, going_down, going_up, next_in, quality_with, seated_so, in_both, with_floats, Quality, Reached, Seated}
use Rattle.dutch_floors.specs.Behind.{Basis}
use Rattle.dutch_floors.specs.FloorOf.{AreWants, floor_by, floor_with, is_known, more_by, more_in, psd_over, s1_by, s1_of, wanting}
use Rattle.dutch_floors.specs.declared.colour_floor.Wants.{Wants}
use Rattle.dutch_floors.specs.KnownPairs.{by_seat, number_pairs}
use Rattle.dutch_floors.specs.Missed.{AreMissed}
use Rattle.dutch_floors.proofs.SumLemmas.{floats_same}
use Rattle.std.specs.List.{zip}
use Rattle.std.proofs.lemmas.List.{map-append}
use Rattle.dutch_floors.specs.Outlooks.{best_next_for}
use Rattle.dutch_floors.specs.declared.known_pairs.PairSums.{PairSums}
use Rattle.dutch_candidates.proofs.ShapeNumbers.{first_few, first_length, numbers_fit}

-- where a floor is known, its lists have room in the shape
of_shape : (basis : Basis) (b : Beginning) → is_known basis b ≡ true → is_of_shape basis.shape (fixed_lists b) ≡ true
of_shape basis b h = (and_parts (is_of_shape basis.shape (fixed_lists b)) _ h).0

pub known_pairs : (basis : Basis) (b : Beginning) → Fits (frame_of basis.facts basis.reached) basis.shape → IsOf basis.facts basis.reached → is_known basis b ≡ true
    → HasFewPairs (fixed_lists b)
known_pairs basis b fits of' h = numbers_fit basis.facts basis.reached basis.shape (fixed_lists b) fits of' (of_shape basis b h)

known_few : (basis : Basis) (b : Beginning) → is_known basis b ≡ true → length (fixed_lists b).s1 ≤ basis.shape.mdps
known_few basis b h = first_few basis.shape (fixed_lists b) (of_shape basis b h)

-- S1, or the first one where none is chosen
first_or : (P : List ℕ → Type 0) (filling : Filling) (shape : Shape) (s1 : List ℕ) → P (numbers_from 1 shape.mdps) → P s1 → P (s1_by filling shape s1)
first_or P ChoosingS1 shape s1 first chosen = first
first_or P S2 shape s1 first chosen = chosen
first_or P S2r shape s1 first chosen = chosen

pub s1_few : (basis : Basis) (b : Beginning) → is_known basis b ≡ true → length (s1_of basis b) ≤ basis.shape.mdps
s1_few basis b h =
    first_or (λ s1. length s1 ≤ basis.shape.mdps) b.filling basis.shape (fixed_lists b).s1
    (first_length basis.shape (numbers_from 1 basis.shape.mdps) refl) (known_few basis b h)

-- what was filled in is the floor, where so many more miss
module _ (basis : Basis) (more : ℕ) (lists : Arrangement) (sums : PairSums) (are : AreMissed basis more (all_pairs basis.reached.seats lists) sums) where
  pub floor_filled : (q : Quality) (kept : Seated) → kept.pairs ≡ filter (is_uneven basis.facts) (all_pairs basis.reached.seats lists) → kept.down ≡ []
      → with_floats basis.facts kept (record q {
        wide_differences = sums.wide;
        third_colours = sums.third;
        missed_preferences = sums.missed;
        missed_strong = sums.strong;
      }) ≡ floor_with basis more q lists
  unfolding with_floats quality_with floor_over
  floor_filled q kept those none =
      floats_same basis.facts kept (fixed basis.facts basis.reached lists) those none refl (record q {
        wide_differences = sums.wide;
        third_colours = sums.third;
        missed_preferences = sums.missed;
        missed_strong = sums.strong;
      })
      ∙ (λ i. record {
        psd = q.psd;
        next_pairs = q.next_pairs;
        next_psd = q.next_psd;
        wide_differences = are.wide i;
        third_colours = are.third i;
        missed_preferences = are.missed i;
        missed_strong = are.strong i;
        down_again = length (again basis.facts Down 1 (going_down basis.facts (fixed basis.facts basis.reached lists)));
        up_again = length (again basis.facts Up 1 (going_up basis.facts (fixed basis.facts basis.reached lists)));
        down_again_before = length (again basis.facts Down 2 (going_down basis.facts (fixed basis.facts basis.reached lists)));
        up_again_before = length (again basis.facts Up 2 (going_up basis.facts (fixed basis.facts basis.reached lists)));
        down_again_by = differences (again basis.facts Down 1 (going_down basis.facts (fixed basis.facts basis.reached lists)));
        up_again_by = differences (again basis.facts Up 1 (going_up basis.facts (fixed basis.facts basis.reached lists)));
        down_again_before_by = differences (again basis.facts Down 2 (going_down basis.facts (fixed basis.facts basis.reached lists)));
        up_again_before_by = differences (again basis.facts Up 2 (going_up basis.facts (fixed basis.facts basis.reached lists)));
      })

-- the same, with what S1 tells
pub floor_at : (basis : Basis) (s1 : List ℕ) (more : ℕ) (lists : Arrangement) (q : Quality) → q.psd ≡ psd_over basis s1 (fixed basis.facts basis.reached lists)
    → next_in q ≡ best_next_for basis.facts basis.reached basis.shape basis.outlook s1 → floor_with basis more q lists ≡ floor_by basis s1 more lists
floor_at basis s1 more lists q psd next =
    λ i. floor_over basis.facts (psd i) (next i) more (more_in true basis.facts basis.reached basis.shape (fixed basis.facts basis.reached lists))
    (fixed basis.facts basis.reached lists)

-- the pairs of lists by number are their pairs by seat
zipped : (seats firsts seconds : List ℕ) → by_seat seats (zip firsts seconds) ≡ pairs_of seats firsts seconds
zipped seats [] seconds = refl
zipped seats (a ∷ firsts) [] = refl
zipped seats (a ∷ firsts) (b ∷ seconds) = ap (λ (pairs : List (ℕ × ℕ)). (seat_of seats a, seat_of seats b) ∷ pairs) (zipped seats firsts seconds)

pub pairs_by_seat : (seats : List ℕ) (lists : Arrangement) → by_seat seats (number_pairs lists) ≡ all_pairs seats lists
pairs_by_seat seats lists =
    let at : ℕ × ℕ → ℕ × ℕ = λ pair. (seat_of seats pair.0, seat_of seats pair.1) in
    map-append at (zip lists.s1 lists.s2) (zip lists.s1r lists.s2r)
    ∙ (λ i. zipped seats lists.s1 lists.s2 i ++ zipped seats lists.s1r lists.s2r i)

-- how many more miss, by how many want each colour
pub more_is : (firm : Bool) (facts : Facts) (reached : Reached) (shape : Shape) (pairs : List (ℕ × ℕ)) (all made : Wants) (left : ℕ) → AreWants facts reached all → all.firm ≡ firm
    → made.white ≡ sum_by (in_both (wanting firm facts White)) pairs → made.black ≡ sum_by (in_both (wanting firm facts Black)) pairs
    → left ≡ (shape.pairs - length pairs) + (length reached.seats - 2 * shape.pairs)
    → max ((all.white - made.white) - left) ((all.black - made.black) - left) ≡ more_in firm facts reached shape (seated_so facts reached pairs [])
more_is firm facts reached shape pairs all made left are same white black counted =
    omega (
      arith,
      are.white ∙ ap (λ f. sum_by (wanting f facts White) reached.seats) same,
      are.black ∙ ap (λ f. sum_by (wanting f facts Black) reached.seats) same,
      white,
      black,
      counted,
    )

-- the counts are at most what is counted with lonely players
counts_at : (filling : Filling) (basis : Basis) (lists : Arrangement) → more_in false basis.facts basis.reached basis.shape (fixed basis.facts basis.reached lists) ≤ more_by filling basis lists
counts_at ChoosingS1 basis lists = omega arith
counts_at S2 basis lists = omega arith
counts_at S2r basis lists = omega arith

pub counts_few : (filling : Filling) (basis : Basis) (lists : Arrangement) (pairs : List (ℕ × ℕ)) (more : ℕ) → pairs ≡ number_pairs lists
    → more ≡ more_in false basis.facts basis.reached basis.shape (seated_so basis.facts basis.reached (by_seat basis.reached.seats pairs) []) → more ≤ more_by filling basis lists
counts_few filling basis lists pairs more those e =
    let same : by_seat basis.reached.seats pairs ≡ all_pairs basis.reached.seats lists = ap (by_seat basis.reached.seats) those ∙ pairs_by_seat basis.reached.seats lists in
    let counted = e ∙ ap (λ ps. more_in false basis.facts basis.reached basis.shape (seated_so basis.facts basis.reached ps [])) same in
    omega (arith, counted, counts_at filling basis lists)

pub lonely_too : (filling : Filling) (basis : Basis) (lists : Arrangement) (more alone : ℕ) → filling ≡ S2r → more ≤ more_by filling basis lists
    → alone ≤ lonely basis.facts basis.reached basis.shape lists → max more alone ≤ more_by filling basis lists
lonely_too filling basis lists more alone is few few' =
    let at : more_by filling basis lists ≡ more_by S2r basis lists = ap (λ f. more_by f basis lists) is in
    omega (arith, few, few', at)
