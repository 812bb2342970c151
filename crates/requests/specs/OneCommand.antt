-- The command line as clap is told of it for some words: with the one command that the first word names, or with all commands. Only private
-- functions' clauses cite these.
use Rattle.std.specs.Prelude.{List, [], ◌∷◌, Option, Some, None, codes, if◌then◌else◌}
use Rattle.std.specs.Str.{bytes_eq}
use Rattle.clap.specs.Words.{App, Text, new_app}
use Rattle.requests.specs.CommandLine.{app_for}
use Rattle.requests.specs.Words.{arbiter_app, with_command, with_settings, with_version}
use Rattle.requests.specs.declared.commands.CommandName.{CommandName}
use Rattle.requests.specs.declared.commands.CommandName.TheVariants.{Check, Format, Enter, Pair, Boards, Candidates, Explain, Standings, Sheet}

-- the command that a word names, if it names one
abbrev pub command_by : Text → Option CommandName
command_by word =
    if bytes_eq word (codes "check") then Some Check
    else (if bytes_eq word (codes "format") then Some Format
    else (if bytes_eq word (codes "enter") then Some Enter
    else (if bytes_eq word (codes "pair") then Some Pair
    else (if bytes_eq word (codes "boards") then Some Boards
    else (if bytes_eq word (codes "candidates") then Some Candidates
    else (if bytes_eq word (codes "explain") then Some Explain
    else (if bytes_eq word (codes "standings") then Some Standings
    else (if bytes_eq word (codes "sheet") then Some Sheet else None))))))))

-- the command that the first of some words names, if it names one
abbrev pub first_command : List Text → Option CommandName
first_command [] = None
first_command (word ∷ rest) = command_by word

-- the command line with one command, or with all of them
abbrev pub app_with : Option CommandName → App
app_with (Some name) = with_command (with_settings (with_version (new_app (codes "arbiter")))) (app_for name)
app_with None = arbiter_app
