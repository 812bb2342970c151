-- In what it is worse, and both values.
use Rattle.std.proofs.Common.{◌++◌, ℕ, List, codes}
use Rattle.dutch_bracket.specs.Prelude.{quality_in}
use Rattle.requests.specs.declared.options.Wording.TheVariants.{Words}
use Rattle.round_lines.proofs.Joined.{joined}
use Rattle.round_lines.specs.ValueTexts.{value_text, worse_words}
use Rattle.round_lines.proofs.value_texts.put_worse_by.Goals as goal

pub returns : goal.returns
returns c =
    let front : List ℕ = worse_words c.args.item (quality_in c.args.of.0.now) (quality_in c.args.of.1.now) in
    let mine : List ℕ = value_text Words c.args.item (quality_in c.args.of.0.now) (quality_in c.args.of.1.now) in
    let between : List ℕ = codes ", where the chosen one has " in
    let theirs : List ℕ = value_text Words c.args.item (quality_in c.args.of.1.now) (quality_in c.args.of.0.now) in
    let end : List ℕ = codes "." in
    joined c.args.text.now front (mine ++ (between ++ (theirs ++ end))) c.put_worse.new.text c.push_str-2.new.self c.push_str-2.result c.in_ok-put_worse.ensures
    (joined c.put_worse.new.text mine (between ++ (theirs ++ end)) c.put_value.new.text c.push_str-2.new.self c.push_str-2.result c.in_ok-put_value.ensures
    (joined c.put_value.new.text between (theirs ++ end) c.push_str.new.self c.push_str-2.new.self c.push_str-2.result c.in_ok-push_str.ensures
    (joined c.push_str.new.self theirs end c.put_value-2.new.text c.push_str-2.new.self c.push_str-2.result c.in_ok-put_value-2.ensures c.push_str-2.ensures)))
