use Rattle.std.proofs.Common.{◌≡◌, take}
use Rattle.clap.specs.Words.{app_of}
use Rattle.requests.specs.Prelude.{HasSameGlobals, with_options}
use Rattle.requests.proofs.commands.with_options.Given as goal

abbrev pub invariant-loop-option : goal.invariant-loop-option
invariant-loop-option l = record {
  app : app_of l.made ≡ with_options (app_of l.fn.command) (take l.option-index l.options);
  local : HasSameGlobals l.fn.command l.made;
}
