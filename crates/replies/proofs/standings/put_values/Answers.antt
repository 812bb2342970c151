use Rattle.std.proofs.Common.{◌++◌, codes, refl}
use Rattle.common_texts.specs.Prelude.{value_text}
use Rattle.tables.specs.declared.key.Key.TheVariants.{Direct}
use Rattle.replies.specs.Prelude.{values_text}
use Rattle.replies.proofs.TableLemmas.{values_more}
use Rattle.replies.proofs.standings.put_values.Goals as goal

pub loop-i-preserved : goal.loop-i-preserved
loop-i-preserved c =
    values_more (λ key value. codes " " ++ value_text key value) values_text (λ key keys value values. refl)
    c.args.keys.now c.args.values.now c.loop-i.i Direct c.loop-i.text _ _ c.loop-i-test.true c.if-values-i.false c.in_ok-put_value.ensures c.loop-i.invariant
