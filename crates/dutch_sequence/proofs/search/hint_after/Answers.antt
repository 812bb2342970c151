use Rattle.std.proofs.Common.{sym, rules}
use Rattle.dutch_sequence.proofs.Hinted.{hint-short}
use Rattle.dutch_sequence.proofs.search.hint_after.Goals as goal

pub returns-then-hint-path : goal.returns-then-hint-path
returns-then-hint-path c = sym (hint-short c.args.hint.now c.args.path.now (search rules))
