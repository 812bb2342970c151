-- What a walk over a whole round tells of the round.
use Rattle.std.proofs.Common.{◌≡◌, ℕ, zero, suc, ◌+◌, ◌<◌, ◌≤◌, Bool, true, false, cond, List, [], ◌∷◌, ◌++◌, length, Option, None, option_map, refl, sym, ap, ◌∙◌, arith, append_assoc}
use Rattle.dutch_player.specs.Prelude.{Facts}
use Rattle.dutch_rounds.specs.Stage.{Stage}
use Rattle.dutch_rounds.specs.Prelude.{Round, Pairing, Visit, passing, pairing_in, visit, visit_at, visit_of, choice_of, stage_first}

-- the bye of a pairing, if there is one
abbrev pub bye_in : Option Pairing → Option (List ℕ)
bye_in found = option_map (λ pairing. pairing.bye) found

-- a round that begins with a stage
module _ (facts : Facts) (stage : Stage) (rest : Round) where
  first_reached_at : (t : Bool)
      → (cond t (passing facts stage.reached (choice_of stage) rest) (pairing_in facts stage.reached (choice_of stage) rest)).reached
      ≡ record { bracket = stage.reached; shape = stage.shape; lists = stage.candidate.lists; again = t } ∷ rest.reached
  first_reached_at true = refl
  first_reached_at false = refl

  -- its bracket is one more that is passed
  pub passed_more : (whole : Round) (passed all : List Visit) → whole ≡ stage_first facts stage rest → passed ++ whole.reached ≡ all → (passed ++ visit stage ∷ []) ++ rest.reached ≡ all
  passed_more whole passed all e h =
      append_assoc passed (visit stage ∷ []) rest.reached
      ∙ ap (λ (xs : List Visit). passed ++ xs) (sym (ap (λ (r : Round). r.reached) e ∙ first_reached_at stage.again)) ∙ h

-- ---- the bracket of a number, behind those that are passed

visit_behind : (place : ℕ) (passed visits : List Visit) → place ≡ length passed → visit_at place (passed ++ visits) ≡ visit_at 0 visits
visit_behind zero [] visits e = refl
visit_behind (suc place) [] visits e = absurd (omega (arith, e))
visit_behind zero (first ∷ passed) visits e = absurd (omega (arith, e))
visit_behind (suc place) (first ∷ passed) visits e = visit_behind place passed visits (omega (arith, e))

-- the bracket that comes next
pub visit_here : (number : ℕ) (passed visits whole : List Visit) → number ≡ 1 + length passed → passed ++ visits ≡ whole → visit_of number whole ≡ visit_at 0 visits
visit_here zero passed visits whole e h = absurd (omega (arith, e))
visit_here (suc place) passed visits whole e h = ap (visit_at place) (sym h) ∙ visit_behind place passed visits (omega (arith, e))

visit_past : (place : ℕ) (visits : List Visit) → length visits ≤ place → visit_at place visits ≡ None
visit_past zero [] h = refl
visit_past (suc place) [] h = refl
visit_past zero (first ∷ visits) h = absurd (omega (arith, h))
visit_past (suc place) (first ∷ visits) h = visit_past place visits (omega (arith, h))

-- no bracket has a number behind them all
pub none_past : (number : ℕ) (whole : List Visit) → (0 < number → length whole < number) → visit_of number whole ≡ None
none_past zero whole h = refl
none_past (suc place) whole h = visit_past place whole (let few : length whole < suc place = h (omega arith) in omega (arith, few))
