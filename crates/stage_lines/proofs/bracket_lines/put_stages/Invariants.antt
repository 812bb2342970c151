-- The brackets so far and those to come make all of them.
use Rattle.std.proofs.Common.{◌≡◌, ◌++◌, drop}
use Rattle.stage_lines.specs.ExplainTexts.{stages_text}
use Rattle.stage_lines.proofs.bracket_lines.put_stages.Given as goal

abbrev pub invariant-loop-stage : goal.invariant-loop-stage
invariant-loop-stage l =
    l.text ++ stages_text l.telling l.whose (drop l.stage-index l.stages) ≡ l.initial.text ++ stages_text l.telling l.whose l.stages
