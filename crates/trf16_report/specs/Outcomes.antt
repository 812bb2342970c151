-- What a reading gives, step after step, and what a call answers of it.
use Rattle.std.specs.Prelude.{◌≡◌, Result, Ok, Err}
use Rattle.trf16_report.specs.declared.fault.Fault.{Fault}
use Rattle.trf16_report.specs.declared.fault.Fault.TheVariants.{OutOfMemory}

-- what the next step gives, unless a step before met a fault
infixl 10 ◌>>=◌
abbrev pub ◌>>=◌ : {A B E : Type 0} → Result A E → (A → Result B E) → Result B E
(Ok x) >>= f = f x
(Err fault) >>= f = Err fault

-- the fault that a call answers is the one that the definition gives, or memory was refused [with Gives]
abbrev pub Fails : {Y : Type 0} → Fault → Result Y Fault → Type 0
Fails OutOfMemory given = Unit {0}
Fails fault given = given ≡ Err fault

-- what a call answers is what the definition gives, seen by `view`, or memory was refused [own]
abbrev pub Gives : {X Y : Type 0} → (X → Y) → Result X Fault → Result Y Fault → Type 0
Gives view (Ok x) given = given ≡ Ok (view x)
Gives view (Err fault) given = Fails fault given
