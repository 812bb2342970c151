use Rattle.std.proofs.Common.{◌∙◌, subst}
use Rattle.std.proofs.lemmas.List.{take-replicate}
use Rattle.trf16_report.specs.Prelude.{use_of, Puts}
use Rattle.trf16_writer.proofs.writing.put_blanks.Goals as goal

pub returns : goal.returns
returns g c =
    subst (λ bs. Puts bs (use_of g.W.Sink.held g.W.Sink.failures c.args.w.now c.put_all.new.sink) c.put_all.result)
    (c.split_at.ensures.front ∙ take-replicate c.args.count 72 32 c.requires) c.put_all.ensures
