-- What the words of a command line ask for, by clap's rules at the program's command.
use Rattle.std.specs.Prelude.{◌≡◌, ℕ, Bool, true, false, List, [], ◌∷◌, ◌++◌, Option, Some, None, Result, Ok, Err, option_and_then, option_map, codes, if◌then◌else◌}
use Rattle.std.specs.List.{fold, list_any}
use Rattle.std.specs.Str.{bytes_eq}
use Rattle.clap.specs.Words.{App, Row, Text, new_app, subcommand_of, with_subcommand, fault_of}
use Rattle.clap.specs.Simple.{on_top}
use Rattle.clap.specs.declared.error.kind.ErrorKind.{ErrorKind}
use Rattle.clap.specs.declared.error.kind.ErrorKind.TheVariants.{DisplayHelp, DisplayVersion, OutOfMemory}
use Rattle.dutch_arrangements.specs.Prelude.{has_syntax}
use Rattle.requests.specs.declared.words.Task.{Task}
use Rattle.requests.specs.declared.words.Request.{Request}
use Rattle.requests.specs.declared.words.Request.TheVariants.{Check, Format, Enter, Pair, Boards, Candidates, Explain, Standings, Sheet}
use Rattle.requests.specs.declared.commands.CommandName.{CommandName}
use Rattle.requests.specs.CommandLine.{app_for, boards_app, candidates_app, check_app, enter_app, explain_app, format_app, pair_app, sheet_app, standings_app}
use Rattle.requests.specs.Options.{◌>>=◌, boards_options, bye_in, candidates_options, check_options, explain_options, format_options, pair_options, sheet_options, standings_options}
use Rattle.requests.specs.EntryWords.{enter_options}
use Rattle.requests.specs.declared.options.EnterOptions.{EnterOptions}
use Rattle.requests.specs.declared.words.Meaning.{Meaning}
use Rattle.requests.specs.declared.words.Meaning.TheVariants.{Command, Help, Mistake, Refused}
use Rattle.requests.specs.declared.options.WordFault.{WordFault}

-- a command with a version
unfoldable pub with_version : App → App
with_version = on_top (λ top. record top { has_version = true })

-- a command that takes all words as its arguments, and wants a command; clap adds its own command `help`, whose words are refused or answered
-- with help, and make no task
unfoldable pub with_settings : App → App
with_settings = on_top (λ top. record top {
  no_binary_name = true;
  arg_required_else_help = true;
  subcommand_required = true;
})

-- a command with one more below it
unfoldable pub with_command : App → App → App
with_command app below = with_subcommand app below.top

-- a command with some more of the program's below it
abbrev pub with_commands : App → List CommandName → App
with_commands = fold (λ app name. with_command app (app_for name))

-- a program with the commands that pair the next round, list the boards of one that was paired, list candidates of the next one, and explain
-- it
unfoldable pub with_engine : App → App
with_engine app = with_command (with_command (with_command (with_command app pair_app) boards_app) candidates_app) explain_app

-- a program with the commands that rank the players and that show the whole event
unfoldable pub with_tables : App → App
with_tables app = with_command (with_command app standings_app) sheet_app

-- the command line by which words are read: a version, and one of the commands, which must be given [own]
unfoldable pub arbiter_app : App
arbiter_app =
    with_tables
    (with_engine (with_command (with_command (with_command (with_settings (with_version (new_app (codes "arbiter")))) check_app) format_app) enter_app))

-- the request of `enter`, whose options are these
abbrev pub enter_request_with : Result EnterOptions WordFault → Result Request WordFault
enter_request_with (Ok options) = Ok (Enter options)
enter_request_with (Err fault) = Err fault

-- the request of `enter`
abbrev pub enter_request : List Row → Result Request WordFault
enter_request rows = enter_request_with (enter_options rows)

-- the request of `format`
unfoldable pub format_request : List Row → Result Request WordFault
format_request rows = do
  options ← format_options rows
  Ok (Format options)

-- the request of `pair`
unfoldable pub pair_request : List Row → Result Request WordFault
pair_request rows = do
  options ← pair_options rows
  Ok (Pair options)

-- the request of `candidates`
unfoldable pub candidates_request : List Row → Result Request WordFault
candidates_request rows = do
  options ← candidates_options has_syntax rows
  Ok (Candidates options)

-- the request of `explain`
unfoldable pub explain_request : List Row → Result Request WordFault
explain_request rows = do
  options ← explain_options rows
  Ok (Explain options)

-- the request of `standings`
unfoldable pub standings_request : List Row → Result Request WordFault
standings_request rows = do
  options ← standings_options rows
  Ok (Standings options)

-- the request of `sheet`
unfoldable pub sheet_request : List Row → Result Request WordFault
sheet_request rows = do
  options ← sheet_options rows
  Ok (Sheet options)

-- the request that a command other than `enter` and its options make, or what is wrong with them; none where there is no such command
abbrev pub other_request_of : Text → List Row → Option (Result Request WordFault)
other_request_of name rows =
    if bytes_eq name (codes "check") then Some (Ok (Check (check_options rows)))
    else (if bytes_eq name (codes "format") then Some (format_request rows)
    else (if bytes_eq name (codes "pair") then Some (pair_request rows)
    else (if bytes_eq name (codes "boards") then Some (Ok (Boards (boards_options rows)))
    else (if bytes_eq name (codes "candidates") then Some (candidates_request rows)
    else (if bytes_eq name (codes "explain") then Some (explain_request rows)
    else (if bytes_eq name (codes "standings") then Some (standings_request rows)
    else (if bytes_eq name (codes "sheet") then Some (sheet_request rows) else None)))))))

-- the request that a command and its options make, or what is wrong with them; none where there is no such command
abbrev pub request_of : Text → List Row → Option (Result Request WordFault)
request_of name rows = if bytes_eq name (codes "enter") then Some (enter_request rows) else other_request_of name rows

-- a request over a report in which the pairing-allocated bye gives so many half points, or what is wrong with its options
abbrev pub with_bye : ℕ → Result Request WordFault → Result Task WordFault
with_bye bye (Ok request) = Ok (record { request = request; bye = bye })
with_bye bye (Err fault) = Err fault

-- the task that a command and its options make, or what is wrong with them; none where there is no such command
abbrev pub task_of : Text → List Row → Option (Result Task WordFault)
task_of name rows = option_map (with_bye (bye_in rows)) (request_of name rows)

-- the same of the command that clap found, with its rows
abbrev pub task_by : Option (Text × List Row) → Option (Result Task WordFault)
task_by = option_and_then (λ command. task_of command.0 command.1)

-- what a task comes to, or what is wrong with its options
abbrev pub asked_by : Result Task WordFault → Meaning
asked_by (Ok task) = Command task
asked_by (Err fault) = Refused fault

-- some words without a `help` at their front, which asks about help
abbrev pub without_help : List Text → List Text
without_help [] = []
without_help (first ∷ rest) = if bytes_eq first (codes "help") then rest else first ∷ rest

-- the words as clap reads them: `help` in front of some words stands for `--help` behind them, and so does `help help` [own]
abbrev pub meant_words : List Text → List Text
meant_words [] = []
meant_words (first ∷ rest) = if bytes_eq first (codes "help") then without_help rest ++ codes "--help" ∷ [] else first ∷ rest

-- an error of clap's that shows what was asked for: help, or the version
abbrev pub is_shown : ErrorKind → Bool
is_shown DisplayHelp = true
is_shown DisplayVersion = true
is_shown _ = false

-- an error of clap's that is a mistake in the words
abbrev pub is_mistake : ErrorKind → Bool
is_mistake DisplayHelp = false
is_mistake DisplayVersion = false
is_mistake OutOfMemory = false
is_mistake _ = true

-- the words are accepted by clap's rules, and this is the task that they make [with ComesTo]
pub record AsksFor (words : List Text) (task : Task) : Type 0 where
  pub accepted : fault_of arbiter_app words ≡ []
  pub named : task_by (subcommand_of arbiter_app words) ≡ Some (Ok task)

-- the words are accepted by clap's rules, and this is wrong with their options [with ComesTo]
pub record AsksWrongly (words : List Text) (fault : WordFault) : Type 0 where
  pub accepted : fault_of arbiter_app words ≡ []
  pub named : task_by (subcommand_of arbiter_app words) ≡ Some (Err fault)

-- clap's rules answer the words with help or the version [with ComesTo]
abbrev pub AsksForHelp : List Text → Type 0
AsksForHelp words = list_any is_shown (fault_of arbiter_app words) ≡ true

-- clap's rules refuse the words [with ComesTo]
abbrev pub IsMistaken : List Text → Type 0
IsMistaken words = list_any is_mistake (fault_of arbiter_app words) ≡ true

-- what the words come to: a command with its options, the first option that says nothing, or help or a complaint, whose texts are clap's
-- [own]
abbrev pub ComesTo : List Text → Meaning → Type 0
ComesTo words (Command task) = AsksFor words task
ComesTo words (Help text) = AsksForHelp words
ComesTo words (Mistake text) = IsMistaken words
ComesTo words (Refused fault) = AsksWrongly words fault

-- the same of one error of clap's
abbrev pub FitsKind : ErrorKind → Meaning → Type 0
FitsKind kind (Command task) = ⊥
FitsKind kind (Help text) = is_shown kind ≡ true
FitsKind kind (Mistake text) = is_mistake kind ≡ true
FitsKind kind (Refused fault) = ⊥
