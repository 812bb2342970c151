-- What the next bracket can be at best, whatever arrangement is chosen (C.04.3 C.7): no more pairs than half its number of players, and no
-- lower PSD than the floor for so many, if the arrangement leaves the Limbo of the first S1.
use Rattle.std.proofs.Common.{◌≡◌, ℕ, ◌+◌, ◌-◌, ◌*◌, ◌/◌, ◌<◌, ◌≤◌, Bool, true, false, ◌||◌, nat_lt, List, [], ◌++◌, length, Option, Some, None, refl, sym, ap, subst, ◌∙◌, inl, inr, arith}
use Rattle.std.proofs.lemmas.Bool.{and_parts, eqb-true, ltb-true}
use Rattle.std.proofs.lemmas.List.{length-map, length-append}
use Rattle.dutch_arrangements.specs.declared.bracket.Shape.{Shape}
use Rattle.dutch_arrangements.specs.declared.prefix.Filling.{Filling}
use Rattle.dutch_arrangements.specs.declared.prefix.Filling.TheVariants.{ChoosingS1, S2, S2r}
use Rattle.dutch_arrangements.specs.Prelude.{Arrangement, Fits, arrangements, down, IsIn, BeginsAt}
use Rattle.dutch_sequence.proofs.FromOn.{is_same-true}
use Rattle.dutch_player.specs.Prelude.{Facts}
use Rattle.dutch_bracket.specs.declared.reached.BracketKind.{BracketKind}
use Rattle.dutch_bracket.specs.declared.reached.BracketKind.TheVariants.{Ordinary, Last, Penultimate, Collapsed}
use Rattle.dutch_floors.specs.FloorOf.{is_flat, residents_score, s1_by}
use Rattle.dutch_bracket.specs.Prelude.{is_uniform, has_s1, lists_by, IsNotBetter, pairs_by_counts, IsFlat, is_lower, next_bracket, no_value, value_in, quality, HasNoBetter, NextValue, quality_with, IsAbove, IsOf, Reached, frame_of, downfloaters, first_group, quality_of, scoregroups, score_at, seat_of}
use Rattle.dutch_floors.specs.FirstValues.{first_limbo, first_value}
use Rattle.dutch_floors.specs.Outlooks.{IsOutlook, Outlook, best_next_for, first_or_any, limbo_scores, leaves_first}
use Rattle.dutch_candidates.proofs.C06Psd.{flat_by_ends, uniform_of}
use Rattle.dutch_bracket.proofs.DownCount.{down_count}
use Rattle.dutch_floors.proofs.C07ByCounts.{no_value_has_more_than_half_the_players_in_pairs}
use Rattle.dutch_floors.proofs.C07FirstValues.{first_limbo_of_all, no_value_is_better_than_the_first}
use Rattle.dutch_bracket.proofs.NextGroups.{first_is_next}

not_better : (value next : NextValue) → IsNotBetter value next.pairs next.psd
    → (value.pairs ≤ next.pairs) × (value.pairs ≡ next.pairs → is_lower value.psd next.psd ≡ false)
not_better value next (inl less) = (omega (arith, less), λ e. absurd (omega (arith, less, e)))
not_better value next (inr same) = (omega (arith, same.0), λ e. same.1)

-- where the next bracket does not count
no_value_of : (facts : Facts) (kind : BracketKind) (moved_down next : List ℕ) → (kind ≡ Ordinary → ⊥) → value_in kind facts moved_down next ≡ no_value
no_value_of facts Ordinary moved_down next other = absurd (other refl)
no_value_of facts Last moved_down next other = refl
no_value_of facts Penultimate moved_down next other = refl
no_value_of facts Collapsed moved_down next other = refl

-- below an ordinary bracket there is a scoregroup
pub below_ordinary : (facts : Facts) (reached : Reached) (lower next : List ℕ) → next ≡ first_group facts (scoregroups facts lower) → IsAbove facts reached lower
    → reached.kind ≡ Ordinary → 0 < length next
below_ordinary facts reached lower next e above ordinary = subst (λ xs. 0 < length xs) (sym e) ((first_is_next facts reached lower above).there ordinary)

pub flat_residents : (facts : Facts) (reached : Reached) → IsOf facts reached → is_flat facts reached ≡ true → IsFlat facts reached
flat_residents facts reached of' h =
    let parts = and_parts (nat_lt reached.mdps (length reached.seats)) _ h in
    flat_by_ends facts reached of' (ltb-true reached.mdps (length reached.seats) parts.0)
    (eqb-true (residents_score facts reached) (score_at facts (seat_of reached.seats (length reached.seats))) parts.1)

-- a shape that fits has no more than half the players in pairs
pub few_pairs : (facts : Facts) (reached : Reached) (shape : Shape) → IsOf facts reached → Fits (frame_of facts reached) shape → 2 * shape.pairs ≤ length reached.seats
few_pairs facts reached shape of' fits =
    omega (arith, length-map reached.seats (score_at facts), of'.sound.within, fits.within_pairs, fits.within_moved_down, fits.residents_enough)

module _ (facts : Facts) (reached : Reached) (lower : List ℕ) (shape : Shape) where
  abbrev group : List ℕ
  group = first_group facts (scoregroups facts lower)

  abbrev value_at : BracketKind → Arrangement → NextValue
  value_at kind a = value_in kind facts (downfloaters facts reached a) group

  -- the value of a quality is that of the next bracket
  from_value : (a : Arrangement) (next value : NextValue) → value_at reached.kind a ≡ value → IsNotBetter value next.pairs next.psd
      → HasNoBetter (quality_of facts reached lower a) next
  unfolding quality_of quality quality_with
  from_value a next value e h = not_better (value_at reached.kind a) next (subst (λ v. IsNotBetter v next.pairs next.psd) (sym e) h)

  ordinary_value : (a : Arrangement) → reached.kind ≡ Ordinary → value_at reached.kind a ≡ value_at Ordinary a
  ordinary_value a e = ap (λ kind. value_at kind a) e

  nothing_better : (a : Arrangement) → (reached.kind ≡ Ordinary → ⊥) → HasNoBetter (quality_of facts reached lower a) no_value
  nothing_better a other = from_value a no_value no_value (no_value_of facts reached.kind (downfloaters facts reached a) group other) (inr (refl, refl))

  -- where the next bracket does not count
  pub none_counts : (outlook : Outlook) → (reached.kind ≡ Ordinary → ⊥) → outlook.first ≡ None → outlook.any ≡ no_value → IsOutlook facts reached lower shape outlook
  none_counts outlook e first any = record {
    any = λ a m. subst (HasNoBetter (quality_of facts reached lower a)) (sym any) (nothing_better a e);
    first = λ value some. let bad : None ≡ Some value = sym first ∙ some in absurd (cc);
  }

  half_of : (a : Arrangement) → IsOf facts reached → Fits (frame_of facts reached) shape → IsIn a (arrangements (frame_of facts reached) shape)
      → length (downfloaters facts reached a ++ group) / 2 ≡ pairs_by_counts reached shape group
  half_of a of' fits m =
      let counted : length (frame_of facts reached).scores ≡ length reached.seats = length-map reached.seats (score_at facts) in
      let left = down_count (frame_of facts reached) shape a of'.sound.within fits.within_pairs m in
      let many : length (downfloaters facts reached a) ≡ length reached.seats - 2 * shape.pairs =
      length-map (down (frame_of facts reached) a) (seat_of reached.seats) ∙ (let e : length (down (frame_of facts reached) a) ≡ length reached.seats - 2 * shape.pairs = omega (arith, left, counted) in e) in
      ap (λ n. n / 2) (length-append (downfloaters facts reached a) group ∙ ap (λ n. n + length group) many)

  counts_hold : (a : Arrangement) (any : NextValue) → IsOf facts reached → Fits (frame_of facts reached) shape → reached.kind ≡ Ordinary
      → any ≡ record { pairs = pairs_by_counts reached shape group; psd = [] } → IsIn a (arrangements (frame_of facts reached) shape)
      → HasNoBetter (quality_of facts reached lower a) any
  counts_hold a any of' fits e same m =
      subst (HasNoBetter (quality_of facts reached lower a)) (sym same)
      (from_value a (record { pairs = pairs_by_counts reached shape group; psd = [] }) (value_at Ordinary a) (ordinary_value a e)
      (subst (λ n. IsNotBetter (value_at Ordinary a) n []) (half_of a of' fits m)
      (no_value_has_more_than_half_the_players_in_pairs facts (next_bracket (downfloaters facts reached a) group))))

  -- below an ordinary bracket; of the first value something is known where all residents have one score
  pub by_counts : (outlook : Outlook) → IsAbove facts reached lower → Fits (frame_of facts reached) shape → reached.kind ≡ Ordinary
      → ((value : NextValue) → outlook.first ≡ Some value → IsFlat facts reached × (value ≡ first_value facts reached shape group))
      → outlook.any ≡ record { pairs = pairs_by_counts reached shape group; psd = [] } → IsOutlook facts reached lower shape outlook
  by_counts outlook above fits ordinary first any = record {
    any = λ a m. counts_hold a outlook.any above.bracket fits ordinary any m;
    first = λ value some.
        let known = first value some in (
          known.0,
          λ a m limbo.
              subst (HasNoBetter (quality_of facts reached lower a)) (sym known.1)
              (from_value a (first_value facts reached shape group) (value_at Ordinary a) (ordinary_value a ordinary)
              (no_value_is_better_than_the_first facts reached above.bracket known.0 shape a m ordinary group (first_is_next facts reached lower above) limbo
              (half_of a above.bracket fits m))),
        );
  }

  -- an arrangement leaves the first Limbo where its beginning tells so
  limbo_of : (filling : Filling) (lists a : Arrangement) → IsOf facts reached → IsFlat facts reached → IsIn a (arrangements (frame_of facts reached) shape)
      → BeginsAt filling lists a → (has_s1 filling || is_uniform facts reached shape) ≡ true
      → leaves_first facts reached shape (s1_by filling shape (lists_by filling lists).s1) ≡ true → limbo_scores facts reached a.s1 ≡ first_limbo facts reached shape
  unfolding leaves_first
  limbo_of ChoosingS1 lists a of' flat m h known t = first_limbo_of_all facts reached of' flat shape a m (uniform_of facts reached shape of' known)
  limbo_of S2 lists a of' flat m h known t =
      ap (limbo_scores facts reached) (sym h.0) ∙ is_same-true (limbo_scores facts reached lists.s1) (first_limbo facts reached shape) t
  limbo_of S2r lists a of' flat m h known t =
      ap (limbo_scores facts reached) (sym h.0) ∙ is_same-true (limbo_scores facts reached lists.s1) (first_limbo facts reached shape) t

  module _ (outlook : Outlook) (of' : IsOf facts reached) (is : IsOutlook facts reached lower shape outlook) (filling : Filling) (lists a : Arrangement)
      (m : IsIn a (arrangements (frame_of facts reached) shape)) (h : BeginsAt filling lists a) (known : (has_s1 filling || is_uniform facts reached shape) ≡ true) where
    by_limbo : (value : NextValue) → outlook.first ≡ Some value → (t : Bool) → leaves_first facts reached shape (s1_by filling shape (lists_by filling lists).s1) ≡ t
        → HasNoBetter (quality_of facts reached lower a) (first_or_any (Some value) t outlook.any)
    by_limbo value e true t =
        let first = is.first value e in
        first.1 a m (limbo_of filling lists a of' first.0 m h known t)
    by_limbo value e false t = is.any a m

    by_first : (o : Option NextValue) → outlook.first ≡ o
        → HasNoBetter (quality_of facts reached lower a) (first_or_any o (leaves_first facts reached shape (s1_by filling shape (lists_by filling lists).s1)) outlook.any)
    by_first None e = is.any a m
    by_first (Some value) e = by_limbo value e (leaves_first facts reached shape (s1_by filling shape (lists_by filling lists).s1)) refl

    -- what is awaited behind a beginning is no worse than what comes
    pub awaited_holds : HasNoBetter (quality_of facts reached lower a) (best_next_for facts reached shape outlook (s1_by filling shape (lists_by filling lists).s1))
    awaited_holds = by_first outlook.first refl
