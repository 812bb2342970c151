-- What making a table gives, step after step, and what the call answers of it.
use Rattle.std.specs.Prelude.{◌≡◌, true, Result, Ok, Err}
use Rattle.std.specs.Result.{is_ok}
use Rattle.tables.specs.declared.fault.TieFault.{TieFault}
use Rattle.tables.specs.declared.fault.TieFault.TheVariants.{OutOfMemory}

-- the fault that a call answers is the one that the definition gives; want of memory comes last, so the definition gives none [with Gives]
abbrev pub Fails : {Y : Type 0} → TieFault → Result Y TieFault → Type 0
Fails OutOfMemory given = is_ok given ≡ true
Fails fault given = given ≡ Err fault

-- what a call answers is what the definition gives, or memory was refused and the definition gives no fault [own]
abbrev pub Gives : {X : Type 0} → Result X TieFault → Result X TieFault → Type 0
Gives (Ok x) given = given ≡ Ok x
Gives (Err fault) given = Fails fault given
