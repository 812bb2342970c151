use Rattle.std.proofs.Common.{◌≡◌, take}
use Rattle.clap.specs.Words.{app_of}
use Rattle.requests.specs.Prelude.{HasSameGlobals, with_commands}
use Rattle.requests.proofs.words.with_commands.Given as goal

abbrev pub invariant-loop-name : goal.invariant-loop-name
invariant-loop-name l = record {
  app : app_of l.made ≡ with_commands (app_of l.fn.command) (take l.name-index l.names);
  local : HasSameGlobals l.fn.command l.made;
}
