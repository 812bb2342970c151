-- Each stage puts its pairs behind those so far, and at the end of the walk they are those of the round.
use Rattle.std.proofs.Common.{◌≡◌, ℕ, suc, Bool, true, false, cond, List, [], ◌++◌, length, Option, Some, None, option_map, refl, sym, ap, ◌∙◌, subst, arith, append_assoc, append-nil}
use Rattle.dutch_player.specs.Prelude.{Facts}
use Rattle.dutch_bracket.specs.Prelude.{all_pairs}
use Rattle.dutch_rounds.specs.Stage.{Stage}
use Rattle.dutch_rounds.specs.Prelude.{Round, Pairing, Visit, Walk, IsBehind, IsStage, GoesOn, choice_of, ending, in_front, own_pairs, passing, pairing_in, stage_first}
use Rattle.dutch_rounds.proofs.RoundEnds.{passed_more}
use Rattle.dutch_rounds.proofs.round.pairs_and_bye.Given.{Over}
use Rattle.dutch_rounds.proofs.round.pairs_and_bye.Goals as goal
use Rattle.dutch_rounds.proofs.round.pairs_and_bye.Goals.{In_ok-put_pairs}

abbrev made : List (ℕ × ℕ) → List ℕ → Option Pairing
made pairs bye = Some (record { pairs = pairs; bye = bye })

none_in_front : (found : Option Pairing) → option_map (in_front []) found ≡ found
none_in_front None = refl
none_in_front (Some later) = refl

more_in_front : (pairs own : List (ℕ × ℕ)) (found : Option Pairing)
    → option_map (in_front (pairs ++ own)) found ≡ option_map (in_front pairs) (option_map (in_front own) found)
more_in_front pairs own None = refl
more_in_front pairs own (Some later) = ap (λ (xs : List (ℕ × ℕ)). made xs later.bye) (append_assoc pairs own later.pairs)

module _ (facts : Facts) (stage : Stage) (rest : Round) (pairs : List (ℕ × ℕ)) where
  by_again : (t : Bool)
      → option_map (in_front (pairs ++ cond t [] (all_pairs stage.reached.seats stage.candidate.lists))) rest.pairing
      ≡ option_map (in_front pairs) (cond t (passing facts stage.reached (choice_of stage) rest) (pairing_in facts stage.reached (choice_of stage) rest)).pairing
  by_again true = ap (λ (xs : List (ℕ × ℕ)). option_map (in_front xs) rest.pairing) (append-nil pairs)
  by_again false = more_in_front pairs (all_pairs stage.reached.seats stage.candidate.lists) rest.pairing

  -- the pairs of a stage stand behind those so far and in front of the rest
  more_pairs : (whole : Round) (now : List (ℕ × ℕ)) → whole ≡ stage_first facts stage rest → now ≡ pairs ++ own_pairs stage
      → option_map (in_front now) rest.pairing ≡ option_map (in_front pairs) whole.pairing
  more_pairs whole now e h =
      ap (λ (xs : List (ℕ × ℕ)). option_map (in_front xs) rest.pairing) h ∙ by_again stage.again
      ∙ ap (λ (r : Round). option_map (in_front pairs) r.pairing) (sym e)

  -- and its bracket is one of those to come
  fewer : (whole : Round) → whole ≡ stage_first facts stage rest → suc (length rest.reached) ≡ length whole.reached
  fewer whole e = ap (λ (xs : List Visit). length xs) (passed_more facts stage rest whole [] whole.reached e refl)

at_end : (facts : Facts) (pairs : List (ℕ × ℕ)) (left bye : List ℕ) (rest : Round) → rest ≡ ending facts left → bye ≡ left
    → option_map (in_front pairs) rest.pairing ≡ made pairs bye
at_end facts pairs left bye rest e h =
    ap (λ (r : Round). option_map (in_front pairs) r.pairing) e
    ∙ (ap (λ (xs : List (ℕ × ℕ)). made xs left) (append-nil pairs) ∙ ap (λ (ys : List ℕ). made pairs ys) (sym h))

goes : (g : Over) (c : In_ok-put_pairs g)
    → IsBehind c.in-Some.stage c.loop-pairs.walk c.settle_next.new.self × IsStage c.loop-pairs.walk.facts c.in-Some.stage
goes g c = subst (GoesOn c.loop-pairs.walk c.settle_next.new.self) c.in-Some.is c.in_ok-stage.ensures.goes

pub put_pairs-requires : goal.put_pairs-requires
put_pairs-requires g c =
    subst (λ (facts : Facts). IsStage facts c.in-Some.stage) c.loop-pairs.invariant.facts
    (subst (GoesOn c.loop-pairs.walk c.settle_next.new.self) c.in-Some.is c.in_ok-stage.ensures.goes).1

pub loop-pairs-init : goal.loop-pairs-init
loop-pairs-init g c = record {
  facts = c.in_ok-walk.ensures.facts';
  limit = c.in_ok-walk.ensures.limit';
  paired =
      ap (λ (xs : List (ℕ × ℕ)). option_map (in_front xs) c.in_ok-walk.walk.rest.pairing) c.new-pairs.ensures.items
      ∙ (none_in_front c.in_ok-walk.walk.rest.pairing ∙ ap (λ (r : Round). r.pairing) c.in_ok-walk.ensures.rest);
}

pub loop-pairs-preserved : goal.loop-pairs-preserved
loop-pairs-preserved g c = let behind = goes g (goal.at.loop-pairs-preserved g c).In_ok-put_pairs in record {
  facts = behind.0.facts ∙ c.loop-pairs.invariant.facts;
  limit = behind.0.limit ∙ c.loop-pairs.invariant.limit;
  paired =
      more_pairs c.loop-pairs.walk.facts c.in-Some.stage c.settle_next.new.self.rest c.loop-pairs.pairs.items c.loop-pairs.walk.rest
      c.put_pairs.new.pairs.items behind.0.rest c.in_ok-put_pairs.ensures
      ∙ c.loop-pairs.invariant.paired;
}

pub loop-pairs-smaller : goal.loop-pairs-smaller
loop-pairs-smaller g c =
    let one : suc (length c.settle_next.new.self.rest.reached) ≡ length c.loop-pairs.walk.rest.reached =
    fewer c.loop-pairs.walk.facts c.in-Some.stage c.settle_next.new.self.rest c.loop-pairs.pairs.items c.loop-pairs.walk.rest
    (goes g (goal.at.loop-pairs-smaller g c).In_ok-put_pairs).0.rest in
    omega (arith, one)

pub returns : goal.returns
returns g c =
    let ended = subst (GoesOn c.loop-pairs.walk c.settle_next.new.self) c.in_default.is c.in_ok-stage.ensures.goes in (
      sym c.loop-pairs.invariant.paired
          ∙ at_end c.loop-pairs.walk.facts c.loop-pairs.pairs.items c.loop-pairs.walk.bye c.bye.result.items c.loop-pairs.walk.rest ended.1.rest
          (c.bye.ensures ∙ ap (λ (w : Walk). w.bye) ended.0),
      c.in_ok-walk.ensures.complete,
    )
