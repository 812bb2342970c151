use Rattle.std.proofs.Common.{◌≡◌, ◌^◌, ◌+◌, ◌≤◌, drop, true}
use Rattle.std.specs.Char.{is_ascii_digit}
use Rattle.std.specs.List.{list_all}
use Rattle.trf16_report.specs.Prelude.{number_after}
use Rattle.trf16_report.proofs.fields.number_after.Given as goal

abbrev pub invariant-loop-digit : goal.invariant-loop-digit
invariant-loop-digit l = (number_after l.value (drop l.digit-index l.digits) ≡ number_after 0 l.digits)
    × (list_all is_ascii_digit (drop l.digit-index l.digits) ≡ true) × (l.value + 1 ≤ 10 ^ l.digit-index)
