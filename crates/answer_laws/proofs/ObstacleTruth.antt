-- Each obstacle that is told against a meeting is there.
use Rattle.std.proofs.Common.{◌≡◌, ◌≢◌, ◌∙◌, ℕ, zero, suc, Bool, true, false, cond, not, ◌&&◌, ◌||◌, ◌==◌, ◌+◌, ◌≤◌, ◌<◌, Option, Some, None, refl, sym, ap, inl, inr, arith, find}
use Rattle.std.specs.List.{range_with_len}
use Rattle.std.specs.Option.{option_map_or}
use Rattle.std.proofs.lemmas.Bool.{eq-eqb, eqb-true, true≢false, and_parts, cases_eq}
use Rattle.dutch_player.specs.Prelude.{Facts, seat_at, opponent_played, clash, colours_allow, is_absolute, is_topscorer, is_same, preference}
use Rattle.dutch_player.specs.declared.preference.Strength.{Strength}
use Rattle.dutch_player.specs.declared.preference.Strength.TheVariants.{Absolute, Strong, Mild}
use Rattle.dutch_player.specs.declared.preference.Pref.{Pref}
use Rattle.trf16_report.specs.Prelude.{apart, Sheet, cell_in, rounds_played}
use Rattle.trf16_report.specs.declared.cell.Colour.{Colour}
use Rattle.trf16_report.specs.declared.cell.Colour.TheVariants.{White, Black}
use Rattle.answer_laws.specs.InsteadLaws.{HaveMetFirst, ColoursClash, StandsAgainstMeeting}
use Rattle.player_lines.specs.Obstacles.{against_meeting, first_against, first_meeting, has_played}
use Rattle.player_lines.specs.declared.obstacle.Obstacle.{Obstacle}
use Rattle.player_lines.specs.declared.obstacle.Obstacle.TheVariants.{Met, Apart, Colours}

-- ---- the first of some numbers that passes a test

pub record IsFirst (test : ℕ → Bool) (first count number : ℕ) : Type 0 where
  pub from : first ≤ number
  pub within : number < first + count
  pub passes : test number ≡ true
  pub before : (earlier : ℕ) → first ≤ earlier → earlier < number → test earlier ≡ false

first_at : (test : ℕ → Bool) (first count number : ℕ) (t : Bool) → test first ≡ t
    → (find test (range_with_len (first + 1) count) ≡ Some number → IsFirst test (first + 1) count number)
    → cond t (Some first) (find test (range_with_len (first + 1) count)) ≡ Some number → IsFirst test first (suc count) number
first_at test first count number true is later e =
    let same : first ≡ number = cc in
    record {
      from = omega (arith, same);
      within = omega (arith, same);
      passes = sym (ap test same) ∙ is;
      before = λ earlier low high. absurd (omega (arith, low, high, same));
    }
first_at test first count number false is later e =
    let there = later e in
    record {
      from = omega (arith, there.from);
      within = omega (arith, there.within);
      passes = there.passes;
      before = λ earlier low high. elim (cases_eq earlier first) [
        | inl same ↦ ap test same ∙ is
        | inr other ↦ there.before earlier (omega (arith, low, other)) high
      ];
    }

pub first_is : (test : ℕ → Bool) (first count number : ℕ) → find test (range_with_len first count) ≡ Some number → IsFirst test first count number
first_is test first zero number e = cc
first_is test first (suc count) number e = first_at test first count number (test first) refl (first_is test (first + 1) count number) e

is_other : (found : Option ℕ) (other : ℕ) → option_map_or (λ start. start == other) found false ≡ true → found ≡ Some other
is_other (Some start) other e = ap Some (eqb-true start other e)
is_other None other e = absurd (true≢false (sym e))

is_not : (found : Option ℕ) (other : ℕ) → option_map_or (λ start. start == other) found false ≡ false → found ≢ Some other
is_not (Some start) other e same = let equal : start ≡ other = cc in true≢false (sym (eq-eqb start other equal) ∙ e)
is_not None other e same = cc

have_met : (sheet : Sheet) (one other round : ℕ) → first_meeting sheet one other ≡ Some round → HaveMetFirst sheet one other round
have_met sheet one other round e =
    let there = first_is (has_played sheet one other) 1 (rounds_played sheet) round e in
    record {
      from_one = there.from;
      within = omega (arith, there.within);
      game = is_other (opponent_played (cell_in sheet one round)) other there.passes;
      none_before = λ earlier low high. is_not (opponent_played (cell_in sheet one earlier)) other (there.before earlier low high);
    }

-- ---- colours

absolute_is : (kind : Strength) → is_absolute kind ≡ true → kind ≡ Absolute
absolute_is Absolute e = refl
absolute_is Strong e = absurd (true≢false (sym e))
absolute_is Mild e = absurd (true≢false (sym e))

same_is : (c d : Colour) → is_same c d ≡ true → c ≡ d
same_is White White e = refl
same_is White Black e = absurd (true≢false (sym e))
same_is Black White e = absurd (true≢false (sym e))
same_is Black Black e = refl

-- two preferences that clash
record Clashes (a b : Option Pref) : Type 0 where
  mine : Pref
  theirs : Pref
  first : a ≡ Some mine
  second : b ≡ Some theirs
  absolute : (mine.strength ≡ Absolute) × (theirs.strength ≡ Absolute)
  colour : mine.colour ≡ theirs.colour

clash_is : (a b : Option Pref) → clash a b ≡ true → Clashes a b
clash_is (Some p) (Some q) e =
    let front = and_parts (is_absolute p.strength && is_absolute q.strength) (is_same p.colour q.colour) e in
    let strengths = and_parts (is_absolute p.strength) (is_absolute q.strength) front.0 in
    record {
      mine = p;
      theirs = q;
      first = refl;
      second = refl;
      absolute = (absolute_is p.strength strengths.0, absolute_is q.strength strengths.1);
      colour = same_is p.colour q.colour front.1;
    }
clash_is (Some p) None e = absurd (true≢false (sym e))
clash_is None (Some q) e = absurd (true≢false (sym e))
clash_is None None e = absurd (true≢false (sym e))

not_allowed : (x y z : Bool) → (x || y || not z) ≡ false → (x ≡ false) × (y ≡ false) × (z ≡ true)
not_allowed false false true e = (refl, refl, refl)
not_allowed false false false e = absurd (true≢false e)
not_allowed false true z e = absurd (true≢false e)
not_allowed true y z e = cc

colours_clash : (facts : Facts) (one other : ℕ) → colours_allow facts (seat_at facts one) (seat_at facts other) ≡ false → ColoursClash facts one other
colours_clash facts one other e =
    let mine = preference (seat_at facts one).played in
    let theirs = preference (seat_at facts other).played in
    let parts = not_allowed (is_topscorer facts (seat_at facts one)) (is_topscorer facts (seat_at facts other)) (clash mine theirs) e in
    let both = clash_is mine theirs parts.2 in
    record {
      mine = both.mine;
      theirs = both.theirs;
      first = both.first;
      second = both.second;
      both_absolute = both.absolute;
      one_colour = both.colour;
      no_topscorer = (parts.0, parts.1);
    }

-- ---- the first that stands

module _ (sheet : Sheet) (facts : Facts) (one other : ℕ) where
  meeting_at : (met : Option ℕ) (is_apart allow : Bool) (obstacle : Obstacle)
      → first_meeting sheet (seat_at facts one).start (seat_at facts other).start ≡ met
      → apart sheet (seat_at facts one).start (seat_at facts other).start ≡ is_apart
      → colours_allow facts (seat_at facts one) (seat_at facts other) ≡ allow
      → first_against met is_apart allow ≡ Some obstacle → StandsAgainstMeeting sheet facts one other obstacle
  meeting_at (Some round) is_apart allow obstacle met lines colours e =
      let is : Met round ≡ obstacle = cc in
      rw (sym is) (have_met sheet (seat_at facts one).start (seat_at facts other).start round met)
  meeting_at None true allow obstacle met lines colours e = let is : Apart ≡ obstacle = cc in rw (sym is) lines
  meeting_at None false false obstacle met lines colours e = let is : Colours ≡ obstacle = cc in rw (sym is) (colours_clash facts one other colours)
  meeting_at None false true obstacle met lines colours e = cc

pub stands_against_meeting : (sheet : Sheet) (facts : Facts) (one other : ℕ) (obstacle : Obstacle) → against_meeting sheet facts one other ≡ Some obstacle
    → StandsAgainstMeeting sheet facts one other obstacle
stands_against_meeting sheet facts one other obstacle e =
    meeting_at sheet facts one other (first_meeting sheet (seat_at facts one).start (seat_at facts other).start)
    (apart sheet (seat_at facts one).start (seat_at facts other).start) (colours_allow facts (seat_at facts one) (seat_at facts other)) obstacle refl refl refl e
