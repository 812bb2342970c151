-- One bracket more of a walk: what comes next has a way out again, and the round from there on is the rest of the round.
use Rattle.std.proofs.Common.{◌≡◌, ℕ, ◌+◌, ◌≤◌, true, false, List, [], ◌∷◌, ◌++◌, length, map, Option, Some, refl, sym, ap, ◌∙◌, subst, arith, append-nil}
use Rattle.std.proofs.lemmas.Bool.{not-false, cond_both}
use Rattle.dutch_arrangements.specs.declared.bracket.Shape.{Shape}
use Rattle.dutch_arrangements.specs.Prelude.{down}
use Rattle.dutch_player.specs.Prelude.{Facts}
use Rattle.dutch_bracket.specs.declared.reached.BracketKind.{BracketKind}
use Rattle.dutch_bracket.specs.declared.reached.BracketKind.TheVariants.{Ordinary, Last, Penultimate, Collapsed}
use Rattle.dutch_rounds.specs.Stage.{Stage}
use Rattle.dutch_bracket.specs.Prelude.{Context, frame_here, quality_here, quality_in, Reached, IsAbove, frame_of, Choice, bracket, choice, completable, downfloaters, quality_of, scoregroups, shape_of, seat_of}
use Rattle.dutch_rounds.specs.Prelude.{lower_of, IsStage, bracket_and_shape, visit_at, Round, brackets, passing, pairing_in, penultimate_bracket, paired_again, IsSettled, choice_of, group_kind, is_again, round_by, Goes, GoesOut, HasWayOut, StandsBefore}
use Rattle.dutch_rounds.proofs.RoundBy.{final_by, ordinary_by, penultimate_by}
use Rattle.dutch_choice.proofs.BestLemmas.{choice_of_shape}
use Rattle.dutch_rounds.proofs.GroupWalk.{IsParted}
use Rattle.dutch_rounds.proofs.LowerLemmas.{goes_ends, lower_is}
use Rattle.dutch_rounds.proofs.NoDeadEnd.{collapsed_out}
use Rattle.dutch_rounds.proofs.WalkEnds.{above_none, of_bracket}
use Rattle.dutch_rounds.proofs.WalkLemmas.{Descends, is_above, left_go_on}

module _ (facts : Facts) (number : ℕ) (reached : Reached) (lower : List ℕ) (s : StandsBefore facts number reached lower) where
  pub stands_number : reached.number ≡ number
  stands_number = ap (λ (b : Reached). b.number) s.is

  pub stands_above : Descends facts → IsAbove facts reached lower
  stands_above descends =
      subst (λ (b : Reached). IsAbove facts b lower) (sym s.is)
      (is_above facts descends number reached.kind s.md s.residents lower s.goes s.above (λ kind. (subst (λ k. HasWayOut facts k number s.md s.residents lower) kind s.out).1))

  pub stands_left : Descends facts → (made : Choice) → Goes facts (downfloaters facts reached made.lists) lower
  stands_left descends made =
      subst (λ (b : Reached). Goes facts (downfloaters facts b made.lists) lower) (sym s.is)
      (left_go_on facts descends number reached.kind s.md s.residents lower made.lists s.goes s.above)

  -- all who are below the bracket are the lower ones
  pub stands_lower : Descends facts → lower_of facts reached ≡ lower
  stands_lower descends =
      ap (lower_of facts) s.is
      ∙ lower_is facts (bracket number reached.kind s.md s.residents) (s.goes.front ++ s.residents) lower
      (goes_ends facts descends s.md s.residents lower s.goes s.above s.some)

  -- an ordinary bracket, as it is paired again
  pub stands_again : reached.kind ≡ Ordinary → StandsBefore facts (number + 1) (paired_again reached) lower
  stands_again kind =
      let out = subst (λ k. HasWayOut facts k number s.md s.residents lower) kind s.out in
      record { md = s.md; residents = s.residents; is = ap paired_again s.is; goes = s.goes; above = s.above; some = s.some; out = (out.0, omega (arith, out.1, out.2), out.1) }

  pub stands_collapsed : Descends facts → (made : Choice) → reached.kind ≡ Penultimate → choice facts reached lower ≡ Some made
      → StandsBefore facts (number + 1) (bracket (number + 1) Collapsed (downfloaters facts reached made.lists) lower) []
  stands_collapsed descends made kind is' =
      let left : List ℕ = downfloaters facts reached made.lists in
      let out = subst (λ k. HasWayOut facts k number s.md s.residents lower) kind s.out in
      record {
        md = left;
        residents = lower;
        is = refl;
        goes = subst (λ (xs : List ℕ). Goes facts left xs) (sym (append-nil lower)) (stands_left descends made);
        above = above_none facts lower;
        some = out.2;
        out = (
          collapsed_out facts number reached lower made (number + 1) s kind is',
          refl,
          omega (arith, out.1),
        );
      }

-- the bracket of the first scoregroup of the seats that are left
group_out : (facts : Facts) (number : ℕ) (md group lower : List ℕ) → GoesOut facts md (group ++ lower) → number + length lower ≤ length facts.seats
    → HasWayOut facts (group_kind lower) number md group lower
group_out facts number md group [] out small = (out, refl, omega (arith, small))
group_out facts number md group (y ∷ ys) out small = (out, omega arith, small)

pub stands_group : (facts : Facts) (number : ℕ) {md rest group lower : List ℕ} → IsParted facts md rest group lower → group ++ lower ≡ rest → GoesOut facts md rest
    → number + length rest ≤ length facts.seats + 1 → StandsBefore facts number (bracket number (group_kind lower) md group) lower
stands_group facts number {md = md} {group = group} {lower = lower} parts whole out small = record {
  md = md;
  residents = group;
  is = refl;
  goes = parts.goes;
  above = parts.above;
  some = parts.some;
  out = group_out facts number md group lower (subst (GoesOut facts md) (sym whole) out) (omega (arith, small, parts.count, parts.some));
}

-- those whom an ordinary stage leaves over go out, where it is not paired again
pub is_kept : (facts : Facts) (lower : List ℕ) (stage : Stage) → IsSettled facts lower stage → stage.again ≡ false → stage.reached.kind ≡ Ordinary
    → completable facts (downfloaters facts stage.reached stage.candidate.lists ++ lower) ≡ true
is_kept facts lower stage settled e kind =
    let seats = stage.reached.seats in
    let test = completable facts (map (seat_of seats) stage.candidate.down ++ lower) in
    ap (λ (numbers : List ℕ). completable facts (map (seat_of seats) numbers ++ lower)) (sym settled.down)
    ∙ not-false test (ap (λ k. is_again k test) (sym kind) ∙ sym settled.again ∙ e)

-- ---- the bracket that comes next, for its shape alone

module _ (facts : Facts) (reached : Reached) (lower : List ℕ) (made : Choice) (e : choice facts reached lower ≡ Some made) where
  shown_by : (kind : BracketKind) (number : ℕ) (md residents : List ℕ) → HasWayOut facts kind number md residents lower
      → bracket_and_shape (visit_at 0 (round_by facts kind reached lower).reached) ≡ Some (reached, made.shape)
  shown_by Ordinary number md residents out =
      let goes_on' : List ℕ → Round = λ left. brackets facts (reached.number + 1) left (scoregroups facts lower) in
      ap (λ (c : Option Choice). bracket_and_shape (visit_at 0 (ordinary_by facts reached lower goes_on' c).reached)) e
      ∙ cond_both (completable facts (downfloaters facts reached made.lists ++ lower)) (pairing_in facts reached made (goes_on' (downfloaters facts reached made.lists)))
      (passing facts reached made (penultimate_bracket facts (paired_again reached) lower)) (λ (r : Round). bracket_and_shape (visit_at 0 r.reached) ≡ Some (reached, made.shape)) (λ t. refl) (λ t. refl)
  shown_by Penultimate number md residents out = ap (λ (c : Option Choice). bracket_and_shape (visit_at 0 (penultimate_by facts reached lower c).reached)) e
  shown_by Last number md residents out = ap (λ (c : Option Choice). bracket_and_shape (visit_at 0 (final_by facts reached c).reached)) (ap (choice facts reached) (sym out.1) ∙ e)
  shown_by Collapsed number md residents out = ap (λ (c : Option Choice). bracket_and_shape (visit_at 0 (final_by facts reached c).reached)) (ap (choice facts reached) (sym out.1) ∙ e)

pub stands_shown : (facts : Facts) (number : ℕ) (reached : Reached) (lower : List ℕ) (shape : Shape) → StandsBefore facts number reached lower → shape_of facts reached lower ≡ Some shape
    → bracket_and_shape (visit_at 0 (round_by facts reached.kind reached lower).reached) ≡ Some (reached, shape)
stands_shown facts number reached lower shape s e =
    let one = choice_of_shape facts reached lower shape e in
    shown_by facts reached lower (record { shape = shape; lists = one.0 }) one.1 reached.kind number s.md s.residents s.out

-- ---- a bracket is settled as the one that was read

pub settled_in : (k : Context) (stage : Stage) → stage.reached ≡ k.reached → choice k.facts k.reached k.lower ≡ Some (choice_of stage)
    → stage.candidate.down ≡ down (frame_here k) stage.candidate.lists → quality_in stage.quality ≡ quality_here k stage.candidate.lists
    → stage.again ≡ is_again k.reached.kind (completable k.facts (map (seat_of k.reached.seats) stage.candidate.down ++ k.lower)) → IsSettled k.facts k.lower stage
settled_in k stage own e left value again = record {
  choice = ap (λ (b : Reached). choice k.facts b k.lower) own ∙ e;
  down = left ∙ ap (λ (b : Reached). down (frame_of k.facts b) stage.candidate.lists) (sym own);
  value = value ∙ ap (λ (b : Reached). quality_of k.facts b k.lower stage.candidate.lists) (sym own);
  again = again ∙ ap (λ (b : Reached). is_again b.kind (completable k.facts (map (seat_of b.seats) stage.candidate.down ++ k.lower))) (sym own);
}

-- ---- the stage that comes of the bracket of a walk

module _ (facts : Facts) (number : ℕ) (reached : Reached) (lower : List ℕ) (s : StandsBefore facts number reached lower) where
  pub stage_is : Descends facts → (stage : Stage) → stage.reached ≡ reached → IsSettled facts lower stage → IsStage facts stage
  stage_is descends stage same settled =
      let above : IsAbove facts stage.reached lower = subst (λ (b : Reached). IsAbove facts b lower) (sym same) (stands_above facts number reached lower s descends) in
      let below : lower_of facts stage.reached ≡ lower = ap (lower_of facts) same ∙ stands_lower facts number reached lower s descends in
      record {
        bracket = above.bracket;
        candidate = of_bracket facts stage.reached lower stage.shape stage.candidate settled.choice settled.down;
        above = subst (IsAbove facts stage.reached) (sym below) above;
        choice = ap (choice facts stage.reached) below ∙ settled.choice;
        value = settled.value ∙ ap (λ (all : List ℕ). quality_of facts stage.reached all stage.candidate.lists) (sym below);
      }
