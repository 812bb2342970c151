-- What making a field gives, step after step, and what the call answers of it.
use Rattle.std.specs.Prelude.{◌≡◌, true, Result, Ok, Err}
use Rattle.std.specs.Result.{is_ok}
use Rattle.dutch_player.specs.declared.fault.FieldFault.{FieldFault}
use Rattle.dutch_player.specs.declared.fault.FieldFault.TheVariants.{OutOfMemory}

-- the fault that a call answers is the one that the definition gives; want of memory comes last, so the definition gives none [with Gives]
abbrev pub Fails : {Y : Type 0} → FieldFault → Result Y FieldFault → Type 0
Fails OutOfMemory given = is_ok given ≡ true
Fails fault given = given ≡ Err fault

-- what a call answers is what the definition gives, or memory was refused and the definition gives no fault [own]
abbrev pub Gives : {X : Type 0} → Result X FieldFault → Result X FieldFault → Type 0
Gives (Ok x) given = given ≡ Ok x
Gives (Err fault) given = Fails fault given
