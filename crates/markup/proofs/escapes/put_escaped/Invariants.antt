-- The bytes so far and those to come make all of them.
use Rattle.std.proofs.Common.{◌≡◌, ◌++◌, drop, flat_map}
use Rattle.markup.specs.Prelude.{escaped_byte}
use Rattle.markup.proofs.escapes.put_escaped.Given as goal

abbrev pub invariant-loop-byte : goal.invariant-loop-byte
invariant-loop-byte l =
    l.text.items ++ flat_map escaped_byte (drop l.byte-index l.bytes) ≡ l.initial.text.items ++ flat_map escaped_byte l.bytes
