use Rattle.std.proofs.Common.{◌∙◌, ap, sym}
use Rattle.std.proofs.lemmas.List.Sums.{fold_more}
use Rattle.std.specs.List.{slice_index_or as get_or}
use Rattle.clap.specs.Words.{app_of}
use Rattle.requests.specs.Prelude.{app_for, with_command}
use Rattle.requests.specs.declared.commands.CommandName.TheVariants.{Check}
use Rattle.requests.proofs.words.with_commands.Goals as goal

pub loop-name-preserved : goal.loop-name-preserved
loop-name-preserved c = record {
  app =
      c.in_ok-made.ensures.app ∙ (ap (λ app. with_command app (app_for (get_or c.args.names.now c.loop-name.name-index Check))) c.loop-name.invariant.app
      ∙ sym (fold_more (λ app name. with_command app (app_for name)) (app_of c.args.command) c.args.names.now c.loop-name.name-index Check c.loop-name-test.true));
  local = c.in_ok-made.ensures.local ∙ c.loop-name.invariant.local;
}
