use Rattle.std.proofs.Common.{◌∙◌, ap, sym, Some, None}
use Rattle.std.proofs.lemmas.Result.{IfOk-weaker}
use Rattle.requests.specs.Prelude.{task_by}
use Rattle.requests.proofs.WordLemmas.{entered_rows}
use Rattle.requests.proofs.words.task_in.Goals as goal

pub returns-in-Some : goal.returns-in-Some
returns-in-Some c =
    let same = sym (ap task_by (entered_rows c.args.matches.now (Some (c.in-Some.name, c.in-Some.options)) c.in-Some.ensures.name c.in-Some.ensures.rows)) in
    IfOk-weaker c.task_of.result _ _ (λ made h. h ∙ same) c.task_of.ensures

pub returns-in-None : goal.returns-in-None
returns-in-None c = sym (ap task_by (entered_rows c.args.matches.now None c.in-None.ensures.name c.in-None.ensures.rows))
