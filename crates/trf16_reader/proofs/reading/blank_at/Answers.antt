use Rattle.std.proofs.Common.{◌∙◌, ap, refl, sym}
use Rattle.trf16_report.specs.Prelude.{is_blank, blank_at}
use Rattle.trf16_reader.proofs.reading.blank_at.Goals as goal

pub returns-then-is_blank : goal.returns-then-is_blank
unfolding blank_at
returns-then-is_blank c = rw (sym (ap is_blank c.text.ensures) ∙ sym c.is_blank.ensures ∙ c.if-is_blank.true) refl

pub returns-else-is_blank : goal.returns-else-is_blank
unfolding blank_at
returns-else-is_blank c = rw (sym (ap is_blank c.text.ensures) ∙ sym c.is_blank.ensures ∙ c.if-is_blank.false) refl
