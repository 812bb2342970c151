-- Which report stood before a round: the report itself, or the report with that round and all later ones taken back.
use Rattle.std.proofs.Common.{◌≡◌, ◌⊎◌, inl, inr, ℕ, zero, suc, ◌+◌, ◌<◌, Bool, true, false, ◌&&◌, ◌==◌, nat_lt, cond, Some, None, refl, ap, ◌∙◌, arith}
use Rattle.std.proofs.lemmas.Bool.{and_parts, eqb-true, ltb-true}
use Rattle.trf16_report.specs.Prelude.{Sheet, rounds_played, taken_back, before_round}

-- so many rounds are taken back, and the last that is paired is then the one in front of them
pub record IsTakenBack (report view : Sheet) (before : ℕ) : Type 0 where
  pub earlier : before < rounds_played report
  pub played : rounds_played (taken_back report before) ≡ before
  pub is : view ≡ taken_back report before

-- the report itself
pub record IsAsItIs (report view : Sheet) (before : ℕ) : Type 0 where
  pub last : before ≡ rounds_played report
  pub is : view ≡ report

pub which : (report view : Sheet) (before : ℕ) → before_round report (suc before) ≡ Some view → IsAsItIs report view before ⊎ IsTakenBack report view before
which report view before e =
    by (before == rounds_played report) refl (nat_lt before (rounds_played report) && (rounds_played (taken_back report before) == before)) refl e
  where
    by : (last : Bool) → (before == rounds_played report) ≡ last
        → (back : Bool) → (nat_lt before (rounds_played report) && (rounds_played (taken_back report before) == before)) ≡ back
        → cond last (Some report) (cond back (Some (taken_back report before)) None) ≡ Some view → IsAsItIs report view before ⊎ IsTakenBack report view before
    by true l back b e = let same : view ≡ report = cc in inl (record { last = eqb-true before (rounds_played report) l; is = same })
    by false l true b e =
        let same : view ≡ taken_back report before = cc in
        let both = and_parts (nat_lt before (rounds_played report)) (rounds_played (taken_back report before) == before) b in
        inr (record { earlier = ltb-true before (rounds_played report) both.0; played = eqb-true (rounds_played (taken_back report before)) before both.1; is = same })
    by false l false b e = absurd (cc)

pub next_is : (report view : Sheet) (round : ℕ) → before_round report round ≡ Some view → rounds_played view + 1 ≡ round
next_is report view zero e = absurd (cc)
next_is report view (suc before) e = by (which report view before e)
  where
    by : IsAsItIs report view before ⊎ IsTakenBack report view before → rounds_played view + 1 ≡ suc before
    by (inl same) = let played : rounds_played view ≡ rounds_played report = ap rounds_played same.is in let last = same.last in omega arith
    by (inr back) = let played : rounds_played view ≡ before = ap rounds_played back.is ∙ back.played in omega arith
