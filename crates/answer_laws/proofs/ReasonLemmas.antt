-- The reasons why no candidate grants a wish stand (C.04.3 B.1, C.4, C.5).
use Rattle.std.proofs.Common.{◌≡◌, ◌∙◌, ℕ, ◌<◌, ◌≤◌, ◌⊎◌, inl, inr, true, false, ◌&&◌, List, [], ◌∷◌, refl, sym, ap, subst, arith}
use Rattle.std.specs.List.{list_any}
use Rattle.std.proofs.lemmas.Bool.{and_parts, and_from, cases_lt}
use Rattle.dutch_arrangements.specs.Prelude.{Arrangement, IsIn}
use Rattle.dutch_sequence.proofs.Orders.{filter-IsIn}
use Rattle.dutch_player.specs.Prelude.{Facts}
use Rattle.dutch_rounds.specs.Prelude.{above_lower, lower_of, IsStage, IsInstead}
use Rattle.dutch_bracket.specs.Prelude.{frame_of, can_be_chosen, candidates_of, eligible, fits, has_member}
use Rattle.dutch_candidates.specs.Wishes.{grants}
use Rattle.dutch_choice.specs.Prelude.{IsBarred, some_grants, with_mdps}
use Rattle.dutch_rounds.specs.declared.instead.Instead.TheVariants.{FewerMovedDown, NoneEligible, NoneLegal}
use Rattle.dutch_rounds.specs.Stage.{Stage}
use Rattle.dutch_candidates.specs.declared.wish.Wish.{Wish}
use Rattle.dutch_bracket.proofs.AnyLemmas.{found_in}
use Rattle.pairing_laws.proofs.BestGranting.{none_by_test}
use Rattle.dutch_rounds.proofs.InsteadLemmas.{stage_shape}
use Rattle.dutch_bracket.proofs.ShapeLaws.{has_room, none_is_greater, room_by_test}
use Rattle.answer_laws.specs.InsteadLaws.{IsLegalWith, NoneCanBeChosen, NoneWithAsManyMovedDown, NoneWithAsManyPairs}

member_of : (a : Arrangement) (all : List Arrangement) → IsIn a all → has_member all ≡ true
member_of a [] m = absurd m
member_of a (b ∷ rest) m = refl

module _ (facts : Facts) (stage : Stage) (wish : Wish) where
  abbrev legal_with : ℕ → List Arrangement
  legal_with mdps = candidates_of facts stage.reached (with_mdps stage.shape mdps)

  -- a legal candidate that grants the wish, where one does
  pub record Granting (mdps : ℕ) : Type 0 where
    pub candidate : Arrangement
    pub legal : IsLegalWith facts stage mdps candidate
    pub grants_it : grants wish candidate ≡ true

  granting : (mdps : ℕ) → some_grants facts stage.reached wish (with_mdps stage.shape mdps) ≡ true → Granting mdps
  granting mdps h =
      let both = and_parts (fits (frame_of facts stage.reached) (with_mdps stage.shape mdps)) _ h in
      let found = found_in (grants wish) (legal_with mdps) both.1 in
      record {
        candidate = found.0;
        legal = record { room = (room_by_test (frame_of facts stage.reached) (with_mdps stage.shape mdps)).1 both.0; legal = found.1 };
        grants_it = found.2;
      }

  none_of : (mdps : ℕ) (a : Arrangement) → list_any (grants wish) (legal_with mdps) ≡ false → IsLegalWith facts stage mdps a → grants wish a ≡ false
  none_of mdps a none is = (none_by_test wish (legal_with mdps)).0 none a is.legal

  -- ---- C.4

  abbrev chosen_with : ℕ → List Arrangement
  chosen_with mdps = eligible facts stage.reached (lower_of facts stage.reached) (with_mdps stage.shape mdps)

  chosen_in : (mdps : ℕ) (a : Arrangement) → IsIn a (legal_with mdps) → can_be_chosen facts stage.reached (lower_of facts stage.reached) a ≡ true → IsIn a (chosen_with mdps)
  unfolding eligible
  chosen_in mdps a legal can = filter-IsIn (can_be_chosen facts stage.reached (lower_of facts stage.reached)) a (legal_with mdps) legal can

  none_chosen : IsStage facts stage → list_any (grants wish) (chosen_with stage.shape.mdps) ≡ false → (many : ℕ) (a : Arrangement) → stage.shape.mdps ≤ many
      → IsLegalWith facts stage many a → can_be_chosen facts stage.reached (lower_of facts stage.reached) a ≡ true → (stage.shape.mdps < many) ⊎ (many ≤ stage.shape.mdps)
      → grants wish a ≡ false
  none_chosen is none many a le legal can (inl more) =
      absurd (none_is_greater facts stage.reached (lower_of facts stage.reached) stage.shape (with_mdps stage.shape many) (stage_shape facts stage is) legal.room
      (member_of a (chosen_with many) (chosen_in many a legal.legal can)) (inr (refl, more)))
  none_chosen is none many a le legal can (inr fewer) =
      let same : many ≡ stage.shape.mdps = omega (arith, le, fewer) in
      (none_by_test wish (chosen_with stage.shape.mdps)).0 none a (subst (λ mdps. IsIn a (chosen_with mdps)) same (chosen_in many a legal.legal can))

  own_room : IsStage facts stage → fits (frame_of facts stage.reached) stage.shape ≡ true
  own_room is = (room_by_test (frame_of facts stage.reached) stage.shape).0 (has_room facts stage.reached (lower_of facts stage.reached) stage.shape (stage_shape facts stage is))

  barred : IsStage facts stage → list_any (grants wish) (chosen_with stage.shape.mdps) ≡ false → (mdps : ℕ) → stage.shape.mdps ≤ mdps → Granting mdps
      → NoneCanBeChosen facts stage wish
  barred is none mdps le it = record {
    candidate = it.candidate;
    mdps = mdps;
    no_fewer = le;
    legal = it.legal;
    grants_it = it.grants_it;
    none = λ many a at_least legal can. none_chosen is none many a at_least legal can (cases_lt stage.shape.mdps many);
  }

  by_either : IsStage facts stage → list_any (grants wish) (chosen_with stage.shape.mdps) ≡ false → IsBarred facts stage.reached wish stage.shape → NoneCanBeChosen facts stage wish
  by_either is none (inl own) =
      barred is none stage.shape.mdps (omega arith)
      (granting stage.shape.mdps (and_from (fits (frame_of facts stage.reached) stage.shape) (list_any (grants wish) (legal_with stage.shape.mdps)) (own_room is) own))
  by_either is none (inr (others, more)) = barred is none more.mdps (omega (arith, more.from_on)) (granting more.mdps more.granted)

  pub none_can_be_chosen : (limit : ℕ) → IsStage facts stage
      → IsInstead (above_lower facts stage.reached) stage.shape wish limit NoneEligible → NoneCanBeChosen facts stage wish
  unfolding IsInstead
  none_can_be_chosen limit is (barred', none) = by_either is none barred'

  -- ---- B.1

  pub none_with_as_many_moved_down : (limit : ℕ) → IsStage facts stage
      → IsInstead (above_lower facts stage.reached) stage.shape wish limit FewerMovedDown → NoneWithAsManyMovedDown facts stage wish
  unfolding IsInstead
  none_with_as_many_moved_down limit is (none, fewer) =
      let it = granting fewer.mdps fewer.granted in
      record {
        candidate = it.candidate;
        mdps = fewer.mdps;
        fewer = fewer.below;
        legal = it.legal;
        grants_it = it.grants_it;
        none = λ a legal. none_of stage.shape.mdps a none legal;
      }

  -- ---- C.5

  none_at : (mdps : ℕ) (a : Arrangement) → some_grants facts stage.reached wish (with_mdps stage.shape mdps) ≡ false → IsLegalWith facts stage mdps a → grants wish a ≡ false
  none_at mdps a none legal =
      none_of mdps a (sym (ap (λ t. t && list_any (grants wish) (legal_with mdps)) ((room_by_test (frame_of facts stage.reached) (with_mdps stage.shape mdps)).0 legal.room)) ∙ none) legal

  pub none_with_as_many_pairs : (limit : ℕ) → IsStage facts stage
      → IsInstead (above_lower facts stage.reached) stage.shape wish limit NoneLegal → NoneWithAsManyPairs facts stage wish
  unfolding IsInstead
  none_with_as_many_pairs limit is none = λ mdps a legal. none_at mdps a (none mdps) legal
