-- The places are those of the players alone, who have the start ranks of the report that is written.
use Rattle.std.proofs.Common.{◌∙◌, ap, map, sym}
use Rattle.std.proofs.lemmas.List.{length-map}
use Rattle.std.proofs.lemmas.Result.{IfOk-weaker}
use Rattle.trf16_report.specs.Prelude.{Sheet, renumbered, written}
use Rattle.ranks.proofs.RankLemmas.{many_new, ranked_new}
use Rattle.ranks.proofs.ranked.renumbered_ranked_text.Goals as goal

pub with_texts-requires : goal.with_texts-requires
with_texts-requires c =
    sym (length-map c.deref.result.now (λ text. text.items))
    ∙ many_new c.args.report.now c.in_ok-alone.alone c.args.keys.now c.rows-2.result.now (map (λ text. text.items) c.deref.result.now) c.in_ok-alone.ensures
    (c.rows-2.ensures.value ∙ c.in_ok-rows.ensures) (ap (map (λ text. text.items)) c.deref.ensures.value ∙ c.in_ok-texts.ensures)

pub returns : goal.returns
returns c =
    IfOk-weaker c.renumbered_text-2.result _ _ (λ text h.
    h ∙ ap (λ (sheet : Sheet). written (renumbered sheet)) c.in_ok-with_texts.ensures
    ∙ ap written
    (ranked_new c.args.report.now c.in_ok-alone.alone c.args.keys.now c.rows-2.result.now (map (λ text. text.items) c.deref.result.now) c.in_ok-alone.ensures
    (c.rows-2.ensures.value ∙ c.in_ok-rows.ensures) (ap (map (λ text. text.items)) c.deref.ensures.value ∙ c.in_ok-texts.ensures)))
    c.renumbered_text-2.ensures
