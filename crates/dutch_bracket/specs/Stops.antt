-- What a call that may stop at a limit answers.
use Rattle.std.specs.Prelude.{◌≡◌, Bool, Result}
use Rattle.std.specs.Result.{MatchResult}

-- an answer is what a test says, but for a call that was stopped [own]
abbrev pub Decides : {E : Type 0} → Result Bool E → Bool → Type 0 → Type 0
Decides answer test stopped = MatchResult answer (λ yes. yes ≡ test) (λ _. stopped)
