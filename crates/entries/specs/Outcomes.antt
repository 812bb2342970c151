-- What a call answers of what a definition gives.
use Rattle.std.specs.Prelude.{◌≡◌, Result, Ok, Err}
use Rattle.entries.specs.declared.fault.EntryFault.{EntryFault}
use Rattle.entries.specs.declared.fault.EntryFault.TheVariants.{OutOfMemory}

-- the fault that a call answers is the one that the definition gives, or memory was refused [with Gives]
abbrev pub Fails : {Y : Type 0} → EntryFault → Result Y EntryFault → Type 0
Fails OutOfMemory given = Unit {0}
Fails fault given = given ≡ Err fault

-- what a call answers is what the definition gives, seen by `view`, or memory was refused [own]
abbrev pub Gives : {X Y : Type 0} → (X → Y) → Result X EntryFault → Result Y EntryFault → Type 0
Gives view (Ok x) given = given ≡ Ok (view x)
Gives view (Err fault) given = Fails fault given
