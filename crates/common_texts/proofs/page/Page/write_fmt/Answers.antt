-- What is written piece by piece is the text of the value.
use Rattle.std.proofs.Output.{if_some_weaken}
use Rattle.std.proofs.lemmas.Fmt.{contents_after_writes}
use Rattle.common_texts.proofs.page.Page.write_fmt.Goals as goal

pub returns-in-Ok : goal.returns-in-Ok
returns-in-Ok g c =
    if_some_weaken (g.D.Display.output c.args.value) _ _
    (λ bs. contents_after_writes _ (λ page. page) (λ _ _ _ appended. appended) _ bs _) c.in-Ok.ensures.writes
