use Rattle.std.proofs.Common.{◌≡◌, ◌++◌, drop}
use Rattle.round_lines.specs.CandidateTexts.{pairs_text}
use Rattle.round_lines.proofs.listing.put_pairs.Given as goal

abbrev pub invariant-loop-i : goal.invariant-loop-i
invariant-loop-i l =
    l.text ++ pairs_text l.bracket.field.now l.bracket.reached.now (drop l.i l.firsts) (drop l.i l.seconds)
    ≡ l.initial.text ++ pairs_text l.bracket.field.now l.bracket.reached.now l.firsts l.seconds
