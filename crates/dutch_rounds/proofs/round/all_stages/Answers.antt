-- Each stage stands behind those so far, and at the end of the walk they are those of the round.
use Rattle.std.proofs.Common.{◌≡◌, ℕ, suc, Bool, true, false, cond, List, [], ◌∷◌, ◌++◌, length, map, Option, Some, None, option_map, is_ok, refl, sym, ap, ◌∙◌, subst, arith, append-nil}
use Rattle.std.proofs.lemmas.List.{map-append}
use Rattle.std.specs.List.{AllByRecursion}
use Rattle.dutch_player.specs.Prelude.{Facts}
use Rattle.dutch_bracket.specs.Prelude.{AreSeats, all_pairs}
use Rattle.dutch_bracket.proofs.AllLemmas.{all_join}
use Rattle.dutch_rounds.specs.Stage.{Stage}
use Rattle.dutch_rounds.specs.Prelude.{Round, Pairing, Visit, Walk, IsBehind, IsStage, GoesOn, choice_of, in_front, passing, pairing_in, stage_first, visit}
use Rattle.dutch_rounds.proofs.RoundEnds.{bye_in, passed_more}
use Rattle.dutch_rounds.proofs.round.all_stages.Given.{Over}
use Rattle.dutch_rounds.proofs.round.all_stages.Goals as goal
use Rattle.dutch_rounds.proofs.round.all_stages.Goals.{In_ok-map_err}

put_behind : (now old : List Stage) (stage : Stage) (t : Bool) → true ≡ t → now ≡ cond t (old ++ stage ∷ []) old → now ≡ old ++ stage ∷ []
put_behind now old stage t e h = h ∙ ap (λ (b : Bool). cond b (old ++ stage ∷ []) old) (sym e)

same_bye : (own : List (ℕ × ℕ)) (found : Option Pairing) → bye_in found ≡ bye_in (option_map (in_front own) found)
same_bye own None = refl
same_bye own (Some later) = refl

module _ (facts : Facts) (stage : Stage) (rest : Round) where
  by_again : (t : Bool)
      → bye_in rest.pairing ≡ bye_in (cond t (passing facts stage.reached (choice_of stage) rest) (pairing_in facts stage.reached (choice_of stage) rest)).pairing
  by_again true = refl
  by_again false = same_bye (all_pairs stage.reached.seats stage.candidate.lists) rest.pairing

  -- a stage changes nothing about who has the bye
  kept_bye : (whole : Round) → whole ≡ stage_first facts stage rest → bye_in rest.pairing ≡ bye_in whole.pairing
  kept_bye whole e = by_again stage.again ∙ ap (λ (r : Round). bye_in r.pairing) (sym e)

  -- its bracket stands behind those so far
  one_told : (whole : Round) (stages now : List Stage) (all : List Visit) → whole ≡ stage_first facts stage rest → now ≡ stages ++ stage ∷ []
      → map visit stages ++ whole.reached ≡ all → map visit now ++ rest.reached ≡ all
  one_told whole stages now all e n h =
      ap (λ (xs : List Stage). map visit xs ++ rest.reached) n
      ∙ (ap (λ (vs : List Visit). vs ++ rest.reached) (map-append visit stages (stage ∷ [])) ∙ passed_more facts stage rest whole (map visit stages) all e h)

  fewer : (whole : Round) → whole ≡ stage_first facts stage rest → suc (length rest.reached) ≡ length whole.reached
  fewer whole e = ap (λ (xs : List Visit). length xs) (passed_more facts stage rest whole [] whole.reached e refl)

goes : (g : Over) (c : In_ok-map_err g)
    → IsBehind c.in-Some.stage c.loop-stages.walk c.settle_next.new.self × IsStage c.loop-stages.walk.facts c.in-Some.stage
goes g c = subst (GoesOn c.loop-stages.walk c.settle_next.new.self) c.in-Some.is c.in_ok-stage.ensures.goes

pushed : (g : Over) (c : In_ok-map_err g) → c.push.new.self.items ≡ c.loop-stages.stages.items ++ c.in-Some.stage ∷ []
pushed g c =
    put_behind c.push.new.self.items c.loop-stages.stages.items c.in-Some.stage (is_ok c.push.result) c.in_ok-map_err.ensures.variant c.push.ensures.items

pub loop-stages-init : goal.loop-stages-init
loop-stages-init g c = record {
  facts = c.in_ok-walk.ensures.facts';
  limit = c.in_ok-walk.ensures.limit';
  told =
      ap (λ (xs : List Stage). map visit xs ++ c.in_ok-walk.walk.rest.reached) c.new-stages.ensures.items
      ∙ ap (λ (r : Round). r.reached) c.in_ok-walk.ensures.rest;
  bye = ap (λ (r : Round). bye_in r.pairing) c.in_ok-walk.ensures.rest;
  stages = subst (AllByRecursion (IsStage c.args.field.now)) (sym c.new-stages.ensures.items) tt;
}

pub loop-stages-preserved : goal.loop-stages-preserved
loop-stages-preserved g c =
    let inv = c.loop-stages.invariant in
    let rest = c.settle_next.new.self.rest in
    let is_stage = subst (λ (facts : Facts). IsStage facts c.in-Some.stage) inv.facts (goes g c).1 in
    record {
      facts = (goes g c).0.facts ∙ inv.facts;
      limit = (goes g c).0.limit ∙ inv.limit;
      told = one_told c.loop-stages.walk.facts c.in-Some.stage rest c.loop-stages.walk.rest c.loop-stages.stages.items c.push.new.self.items _
          (goes g c).0.rest (pushed g c) inv.told;
      bye = kept_bye c.loop-stages.walk.facts c.in-Some.stage rest c.loop-stages.walk.rest (goes g c).0.rest ∙ inv.bye;
      stages = subst (AllByRecursion (IsStage c.args.field.now)) (sym (pushed g c))
          (all_join (IsStage c.args.field.now) c.loop-stages.stages.items (c.in-Some.stage ∷ []) inv.stages (is_stage, tt));
    }

pub loop-stages-smaller : goal.loop-stages-smaller
loop-stages-smaller g c =
    let one : suc (length c.settle_next.new.self.rest.reached) ≡ length c.loop-stages.walk.rest.reached =
    fewer c.loop-stages.walk.facts c.in-Some.stage c.settle_next.new.self.rest c.loop-stages.walk.rest (goes g c).0.rest in
    omega (arith, one)

pub returns : goal.returns
returns g c =
    let inv = c.loop-stages.invariant in
    let walk = c.loop-stages.walk in
    let ended = subst (GoesOn walk c.settle_next.new.self) c.in_default.is c.in_ok-stage.ensures.goes in
    let own : c.bye.result.items ≡ walk.bye = c.bye.ensures ∙ ap (λ (w : Walk). w.bye) ended.0 in (
      sym (append-nil (map visit c.loop-stages.stages.items))
          ∙ (ap (λ (r : Round). map visit c.loop-stages.stages.items ++ r.reached) (sym ended.1.rest) ∙ inv.told),
      inv.stages,
      sym inv.bye ∙ (ap (λ (r : Round). bye_in r.pairing) ended.1.rest ∙ ap (λ (xs : List ℕ). Some xs) (sym own)),
      subst (AreSeats c.args.field.now) (sym own) (subst (λ (facts : Facts). AreSeats facts walk.bye) inv.facts ended.1.bye),
    )
