-- That there is no pairing, why, and the line of the player who is asked about.
use Rattle.std.proofs.Common.{◌++◌, ◌∙◌, List, ℕ, ap}
use Rattle.round_lines.proofs.Joined.{joined}
use Rattle.round_lines.specs.Tellings.{TellingFacts}
use Rattle.stage_lines.specs.BarrierTexts.{reason_text}
use Rattle.command_line.specs.ExplainAnswers.{asked_text, no_pairing_text}
use Rattle.command_line.proofs.not_paired.put_no_pairing.Goals as goal

pub returns : goal.returns
returns c =
    let telling = c.args.telling.now in
    let line : List ℕ = no_pairing_text telling.wording in
    let why : List ℕ = reason_text telling c.args.found.now in
    let asked : List ℕ = asked_text telling c.args.question in
    joined c.args.text.now line (why ++ asked) c.push_str.new.self c.put_asked.new.text c.put_asked.result
    (c.in_ok-push_str.ensures ∙ ap (λ text. c.args.text.now ++ text) (c.in_wording.ensures ∙ ap (λ (t : TellingFacts). no_pairing_text t.wording) c.telling.view_is))
    (joined c.push_str.new.self why asked c.put_reason.new.text c.put_asked.new.text c.put_asked.result c.in_ok-put_reason.ensures c.put_asked.ensures)
