use Rattle.std.proofs.Common.{◌||◌, sym, ap, ◌∙◌}
use Rattle.std.proofs.Math.Bool.{or-false}
use Rattle.trf16_report.specs.Prelude.{is_place}
use Rattle.trf16_report.proofs.named.Named.add_word.Goals as goal

pub returns-in-None-clause-more : goal.returns-in-None-clause-more
returns-in-None-clause-more c = λ k lt.
    let before = is_place c.args.self.now.places.items k in
    sym (or-false before) ∙ ap (λ b. before || b) (c.in-None.ensures.place k lt)
