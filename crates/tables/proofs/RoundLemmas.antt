-- The rounds that are left, one fewer at each step.
use Rattle.std.proofs.Common.{◌≡◌, ℕ, ◌+◌, ◌-◌, suc, Bool, ◌||◌, ◌<◌, List, [], ◌∷◌, ap, ◌∙◌, arith}
use Rattle.std.specs.Prelude.{sum_by}
use Rattle.std.specs.List.{list_any, range_with_len}
use Rattle.std.proofs.lemmas.List.Sums.{sum_by-cons}

-- the rounds behind the first ones
abbrev pub rounds_from : ℕ → ℕ → List ℕ
rounds_from before rounds = range_with_len (before + 1) (rounds - before)

rounds-next : (before rounds : ℕ) → before < rounds → rounds_from before rounds ≡ (before + 1) ∷ rounds_from (before + 1) rounds
rounds-next before rounds lt =
    let more : rounds - before ≡ suc (rounds - (before + 1)) = omega (arith, lt) in
    ap (range_with_len (before + 1)) more

rounds-end : (rounds : ℕ) → rounds_from rounds rounds ≡ []
rounds-end rounds = let none : rounds - rounds ≡ 0 = omega arith in ap (range_with_len (rounds + 1)) none

pub sum-next : (f : ℕ → ℕ) (before rounds : ℕ) → before < rounds → sum_by f (rounds_from before rounds) ≡ f (before + 1) + sum_by f (rounds_from (before + 1) rounds)
sum-next f before rounds lt = ap (sum_by f) (rounds-next before rounds lt) ∙ sum_by-cons f (before + 1) (rounds_from (before + 1) rounds)

pub sum-end : (f : ℕ → ℕ) (rounds : ℕ) → sum_by f (rounds_from rounds rounds) ≡ 0
sum-end f rounds = ap (sum_by f) (rounds-end rounds)

pub any-next : (p : ℕ → Bool) (before rounds : ℕ) → before < rounds → list_any p (rounds_from before rounds) ≡ (p (before + 1) || list_any p (rounds_from (before + 1) rounds))
any-next p before rounds lt = ap (list_any p) (rounds-next before rounds lt)

pub ruleset next = (sum-next, sum-end, any-next)
