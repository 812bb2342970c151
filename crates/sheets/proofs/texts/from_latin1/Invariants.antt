-- The bytes so far and those to come make all of them.
use Rattle.std.proofs.Common.{◌≡◌, ◌++◌, drop, flat_map}
use Rattle.sheets.specs.Texts.{latin1_byte}
use Rattle.sheets.proofs.texts.from_latin1.Given as goal

abbrev pub invariant-loop-byte : goal.invariant-loop-byte
invariant-loop-byte l = l.text.items ++ flat_map latin1_byte (drop l.byte-index l.bytes) ≡ flat_map latin1_byte l.bytes
