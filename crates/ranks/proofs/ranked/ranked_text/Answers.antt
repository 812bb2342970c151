use Rattle.std.proofs.Common.{◌∙◌, ap, map}
use Rattle.std.proofs.lemmas.Result.{IfOk-weaker}
use Rattle.trf16_report.specs.Prelude.{written}
use Rattle.ranks.proofs.RankLemmas.{texts_given}
use Rattle.ranks.proofs.ranked.ranked_text.Goals as goal

pub returns : goal.returns
returns c =
    IfOk-weaker c.text_of-2.result _ _ (λ text h.
    h ∙ ap written (c.in_ok-with_texts.ensures
    ∙ texts_given c.args.report.now c.args.keys.now c.rows-2.result.now (map (λ text. text.items) c.deref.result.now) (c.rows-2.ensures.value ∙ c.in_ok-rows.ensures)
    (ap (map (λ text. text.items)) c.deref.ensures.value ∙ c.in_ok-texts.ensures)))
    c.text_of-2.ensures
