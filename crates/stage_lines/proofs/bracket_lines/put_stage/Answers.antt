-- The bracket, its players, and that it is paired again.
use Rattle.std.proofs.Common.{◌≡◌, ◌∙◌, ◌++◌, ℕ, Bool, true, if◌then◌else◌, List, OnOk, sym, ap, subst}
use Rattle.round_lines.proofs.Joined.{joined}
use Rattle.round_lines.specs.RoundTexts.{members_text}
use Rattle.round_lines.specs.Tellings.{in_wording}
use Rattle.stage_lines.specs.ExplainTexts.{again_line, again_words, choice_text, chosen_text, shape_text, stage_text}
use Rattle.stage_lines.proofs.bracket_lines.put_stage.Goals as goal

pub returns-then-is_again : goal.returns-then-is_again
unfolding stage_text
returns-then-is_again c =
    let shape : List ℕ = shape_text c.args.telling.now.wording c.args.stage.now in
    let members : List ℕ = members_text c.args.telling.now c.args.stage.now.reached in
    let again : List ℕ = in_wording c.args.telling.now.wording again_line again_words in
    let is : c.args.stage.now.again ≡ true = sym c.is_again.ensures ∙ c.if-is_again.true in
    let choice : again ≡ choice_text c.args.telling.now c.args.whose c.args.stage.now =
    ap (λ (b : Bool). if b then again else chosen_text c.args.telling.now c.args.whose c.args.stage.now) (sym is) in
    let first : c.put_bracket.new.text ≡ c.args.text.now ++ shape = rw (c.reached.ensures, c.shape.ensures) at c.in_ok-put_bracket.ensures in
    let second : c.put_members.new.text ≡ c.put_bracket.new.text ++ members = rw c.reached-2.ensures at c.in_ok-put_members.ensures in
    subst (λ (t : List ℕ). OnOk c.say.result (c.say.new.text ≡ c.args.text.now ++ (shape ++ (members ++ t)))) choice
    (joined c.args.text.now shape (members ++ again) c.put_bracket.new.text c.say.new.text c.say.result first
    (joined c.put_bracket.new.text members again c.put_members.new.text c.say.new.text c.say.result second c.say.ensures))
