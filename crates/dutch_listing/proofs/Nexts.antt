-- What follows of the answer of a call for the next one.
use Rattle.std.proofs.Common.{◌≡◌, sym, subst}
use Rattle.dutch_arrangements.specs.Prelude.{MatchStep}
use Rattle.dutch_sequence.specs.declared.steps.Step.{Step}
use Rattle.dutch_sequence.specs.declared.steps.Step.TheVariants.{Found, End, Undecided}

-- what follows of each answer follows of the answer
pub step-each : {T : Type 0} (F F' : T → Type 0) (N N' S S' : Type 0) → ((x : T) → F x → F' x) → (N → N') → (S → S') → (step : Step T) → MatchStep step F N S → MatchStep step F' N' S'
step-each F F' N N' S S' f n s (Found x) given = f x given
step-each F F' N N' S S' f n s End given = n given
step-each F F' N N' S S' f n s Undecided given = s given

-- the same answer, with what was filled where something was found
pub step-holding : {U T : Type 0} (F : T → Type 0) (N S : Type 0) (filled : T) (step : Step U) (held : Step T) → MatchStep step (λ _. held ≡ Found filled) (held ≡ End) (held ≡ Undecided) → MatchStep step (λ _. F filled) N S → MatchStep held F N S
step-holding F N S filled (Found x) held is given = subst (λ step. MatchStep step F N S) (sym is) given
step-holding F N S filled End held is given = subst (λ step. MatchStep step F N S) (sym is) given
step-holding F N S filled Undecided held is given = subst (λ step. MatchStep step F N S) (sym is) given
