-- What stands in front of the candidate, and the candidate.
use Rattle.std.proofs.Common.{ℕ, List}
use Rattle.dutch_bracket.specs.Prelude.{quality_in}
use Rattle.round_lines.proofs.Joined.{joined}
use Rattle.round_lines.specs.ValueTexts.{candidate_text}
use Rattle.stage_lines.specs.InsteadTexts.{best_front}
use Rattle.stage_lines.proofs.instead_lines.put_best.Goals as goal

pub returns : goal.returns
returns c =
    let front : List ℕ = best_front c.args.telling.now.wording in
    let found : List ℕ =
    candidate_text c.args.telling.now.wording c.args.candidate.now.lists (quality_in c.args.of.0.now) (quality_in c.args.of.1.now) in
    joined c.args.text.now front found c.say.new.text c.put_candidate.new.text c.put_candidate.result c.in_ok-say.ensures c.put_candidate.ensures
