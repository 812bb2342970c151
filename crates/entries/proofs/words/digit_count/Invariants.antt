use Rattle.std.proofs.Common.{◌≡◌, ◌++◌, take, drop}
use Rattle.entries.specs.Words.{behind_digits, digits_of}
use Rattle.entries.proofs.words.digit_count.Given as goal

abbrev pub invariant-loop-i : goal.invariant-loop-i
invariant-loop-i l = record {
  digits : take l.i l.word ++ digits_of (drop l.i l.word) ≡ digits_of l.word;
  behind : behind_digits (drop l.i l.word) ≡ behind_digits l.word;
}
