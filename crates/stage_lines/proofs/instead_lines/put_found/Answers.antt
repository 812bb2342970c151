-- The bracket, and behind it what is found in it.
use Rattle.std.proofs.Common.{◌∙◌, ◌++◌, ℕ, List, Option, ap}
use Rattle.dutch_bracket.specs.Prelude.{Reached}
use Rattle.round_lines.proofs.Joined.{joined}
use Rattle.stage_lines.specs.InsteadTexts.{bracket_front, bracket_text, found_text}
use Rattle.stage_lines.proofs.instead_lines.put_found.Goals as goal

pub returns : goal.returns
returns c =
    let telling = c.args.telling.now in
    let searched = c.args.searched in
    let before : List ℕ = c.args.text.now in
    let front : List ℕ = bracket_front telling searched.stage.now searched.wish in
    let found : List ℕ = found_text telling.wording searched.stage.now searched.found.now in
    joined before front found c.put_bracket.new.text c.put_reason.new.text c.put_reason.result
    (c.in_ok-put_bracket.ensures
    ∙ ap (λ n. before ++ bracket_text telling n c.would_go_down-down.result) (c.number.ensures ∙ ap (λ (r : Reached). r.number) c.reached.ensures)
    ∙ ap (λ (down : Option ℕ). before ++ bracket_text telling searched.stage.now.reached.number down) c.would_go_down-down.ensures)
    c.put_reason.ensures
