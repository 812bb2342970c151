use Rattle.std.proofs.Common.{◌∙◌, ◌||◌, ap, sym}
use Rattle.std.proofs.Math.Bool.{or-false}
use Rattle.std.proofs.lemmas.List.Sums.{fold_more}
use Rattle.std.specs.List.{slice_index_or as get_or}
use Rattle.clap.specs.Words.{app_of}
use Rattle.clap.specs.declared.Command.{out-Command}
use Rattle.requests.specs.Prelude.{rule_for, with_option}
use Rattle.requests.specs.declared.arguments.OptionName.TheVariants.{Bracket}
use Rattle.requests.proofs.commands.with_options.Goals as goal

pub loop-option-preserved : goal.loop-option-preserved
unfolding with_option
loop-option-preserved c = record {
  app =
      c.in_ok-made.ensures.shape c.option_for.ensures.local ∙ (ap (with_option (app_of c.loop-option.made)) c.option_for.ensures.rule
      ∙ (ap (λ app. with_option app (rule_for (get_or c.args.options.now c.loop-option.option-index Bracket))) c.loop-option.invariant.app
      ∙ sym (fold_more (λ app name. with_option app (rule_for name)) (app_of c.args.command) c.args.options.now c.loop-option.option-index Bracket c.loop-option-test.true)));
  local =
      c.in_ok-made.ensures.globals ∙ (ap (λ global. (out-Command c.loop-option.made).has_globals || global) c.option_for.ensures.local
      ∙ (or-false (out-Command c.loop-option.made).has_globals ∙ c.loop-option.invariant.local));
}
