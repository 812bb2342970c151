use Rattle.std.proofs.Common.{◌∙◌, ◌||◌, ap}
use Rattle.std.proofs.Math.Bool.{or-false}
use Rattle.std.proofs.lemmas.Result.{IfOk-weaker}
use Rattle.clap.specs.Words.{app_of}
use Rattle.clap.specs.declared.Command.{out-Command}
use Rattle.requests.specs.Prelude.{with_command}
use Rattle.requests.proofs.words.with_named.Goals as goal

pub returns-in-Ok-clause-app : goal.returns-in-Ok-clause-app
unfolding with_command
returns-in-Ok-clause-app c =
    IfOk-weaker c.subcommand.result _ _ (λ made h. h.shape c.in-Ok.ensures.local ∙ ap (with_command (app_of c.args.command)) c.in-Ok.ensures.app)
    c.subcommand.ensures

pub returns-in-Ok-clause-local : goal.returns-in-Ok-clause-local
returns-in-Ok-clause-local c =
    let globals = (out-Command c.args.command).has_globals in
    IfOk-weaker c.subcommand.result _ _ (λ made h. h.globals ∙ (ap (λ global. globals || global) c.in-Ok.ensures.local ∙ or-false globals)) c.subcommand.ensures
