-- The floor of a beginning, by what is fixed in it (C.04.3 C.6 to C.19). Only private functions' clauses cite these: what is promised of a floor
-- stands in `Behind`.
use Rattle.std.specs.Prelude.{◌≤◌, ◌≡◌, ℕ, ◌+◌, ◌-◌, ◌*◌, Bool, true, false, ◌&&◌, ◌||◌, ◌==◌, nat_lt, if◌then◌else◌, List, length, max, sum_by}
use Rattle.trf16_report.specs.declared.cell.Colour.{Colour}
use Rattle.trf16_report.specs.declared.cell.Colour.TheVariants.{White, Black}
use Rattle.dutch_arrangements.specs.declared.bracket.Shape.{Shape}
use Rattle.dutch_arrangements.specs.declared.prefix.Filling.{Filling}
use Rattle.dutch_arrangements.specs.declared.prefix.Filling.TheVariants.{ChoosingS1, S2, S2r}
use Rattle.dutch_arrangements.specs.Prelude.{Arrangement, numbers_from, Beginning}
use Rattle.dutch_sequence.specs.declared.numbers.TheConstants.{LIMIT}
use Rattle.dutch_player.specs.Prelude.{Facts}
use Rattle.dutch_bracket.specs.Prelude.{Quality, psd, Reached, Seated, seat_of, score_at, fixed, in_both, fixed_lists, is_of_shape, has_s1, wants, wants_firmly, lonely, next_in, psd_with, is_uniform, floor_over}
use Rattle.dutch_floors.specs.Behind.{Basis}
use Rattle.dutch_floors.specs.Outlooks.{best_next_for}
use Rattle.dutch_floors.specs.declared.colour_floor.Wants.{Wants}

-- S1; the first one, if none is chosen
abbrev pub s1_by : Filling → Shape → List ℕ → List ℕ
s1_by ChoosingS1 shape s1 = numbers_from 1 shape.mdps
s1_by S2 shape s1 = s1
s1_by S2r shape s1 = s1

-- the score of the first resident
abbrev pub residents_score : Facts → Reached → ℕ
residents_score facts reached = score_at facts (seat_of reached.seats (reached.mdps + 1))

-- there is a resident, and all residents have one score
abbrev pub is_flat : Facts → Reached → Bool
is_flat facts reached = nat_lt reached.mdps (length reached.seats) && (residents_score facts reached == score_at facts (seat_of reached.seats (length reached.seats)))

-- C.6: what S1 tells if all residents have one score; otherwise the differences of what is known
unfoldable pub psd_over : Basis → List ℕ → Seated → List ℕ
psd_over basis s1 known =
    if is_flat basis.facts basis.reached
    then psd_with basis.facts basis.reached basis.shape (residents_score basis.facts basis.reached) s1
    else psd basis.facts known

-- 1 for a seat whose preference is a colour, or only if it is also firm
abbrev pub wanting : Bool → Facts → Colour → ℕ → ℕ
wanting true = wants_firmly
wanting false = wants

-- how many of those in no pair and not among those who go down can be served: each pair to make serves one of them, and each further
-- downfloater needs no colour
abbrev pub served_in : Reached → Shape → Seated → ℕ
served_in reached shape known = (shape.pairs - length known.pairs) + ((length reached.seats - 2 * shape.pairs) - length known.down)

-- how many who want a colour, and are in no pair and not among those who go down, are more than can be served
abbrev pub surplus_in : (ℕ → ℕ) → Reached → Shape → Seated → ℕ
surplus_in w reached shape known =
    ((sum_by w reached.seats - sum_by (in_both w) known.pairs) - sum_by w known.down) - served_in reached shape known

-- so many of a bracket's players want White, and so many Black
pub record AreWants (facts : Facts) (reached : Reached) (wants : Wants) : Type 0 where
  pub white : wants.white ≡ sum_by (wanting wants.firm facts White) reached.seats
  pub black : wants.black ≡ sum_by (wanting wants.firm facts Black) reached.seats
  pub few_white : wants.white ≤ LIMIT
  pub few_black : wants.black ≤ LIMIT

-- how many more than those of its pairs miss, given what is known
abbrev pub more_in : Bool → Facts → Reached → Shape → Seated → ℕ
more_in firm facts reached shape known =
    max (surplus_in (wanting firm facts White) reached shape known) (surplus_in (wanting firm facts Black) reached shape known)

-- C.10: how many more miss than in the pairs that are fixed; lonely players are known once S1R is chosen
abbrev pub more_by : Filling → Basis → Arrangement → ℕ
more_by ChoosingS1 basis lists = more_in false basis.facts basis.reached basis.shape (fixed basis.facts basis.reached lists)
more_by S2 basis lists = more_in false basis.facts basis.reached basis.shape (fixed basis.facts basis.reached lists)
more_by S2r basis lists =
    max (more_in false basis.facts basis.reached basis.shape (fixed basis.facts basis.reached lists)) (lonely basis.facts basis.reached basis.shape lists)

-- the floor behind lists, where so many more miss: of what a quality says only the PSD and the next bracket stay (C.6, C.7)
abbrev pub floor_with : Basis → ℕ → Quality → Arrangement → Quality
floor_with basis more q lists =
    floor_over basis.facts q.psd (next_in q) more (more_in true basis.facts basis.reached basis.shape (fixed basis.facts basis.reached lists))
    (fixed basis.facts basis.reached lists)

-- the floor by S1 and by what is fixed, where so many more miss
abbrev pub floor_by : Basis → List ℕ → ℕ → Arrangement → Quality
floor_by basis s1 more lists =
    floor_over basis.facts (psd_over basis s1 (fixed basis.facts basis.reached lists)) (best_next_for basis.facts basis.reached basis.shape basis.outlook s1) more
    (more_in true basis.facts basis.reached basis.shape (fixed basis.facts basis.reached lists)) (fixed basis.facts basis.reached lists)

-- S1 of a beginning; the first one, if none is chosen [with IsOutlook]
abbrev pub s1_of : Basis → Beginning → List ℕ
s1_of basis b = s1_by b.filling basis.shape (fixed_lists b).s1

-- a floor is known: the lists are those of the bracket and the shape, and S1 is chosen, or it does not matter which is
abbrev pub is_known : Basis → Beginning → Bool
is_known basis b =
    is_of_shape basis.shape (fixed_lists b) && (has_s1 b.filling || is_uniform basis.facts basis.reached basis.shape)
