-- The commands with options, and their options, as clap's rules see them.
use Rattle.std.specs.Prelude.{◌≡◌, List, pos, true, Some, codes}
use Rattle.std.specs.List.{fold}
use Rattle.clap.specs.Lexer.{usize_max}
use Rattle.clap.specs.Words.{App, Rule, Text, new_app, new_rule, with_rule}
use Rattle.clap.specs.declared.Command.{Command, out-Command}
use Rattle.clap.specs.declared.builder.action.ArgAction.TheVariants.{SetTrue}
use Rattle.clap.specs.declared.builder.value_parser.ValueParser.{ValueParser}
use Rattle.clap.specs.declared.builder.value_parser.ValueParser.TheVariants.{Signed, Unsigned}
use Rattle.requests.specs.declared.arguments.OptionName.{OptionName}
use Rattle.requests.specs.declared.arguments.OptionName.TheVariants.{Bracket, From, Count, Player, Instead, Round, PlayedRound, Rounds, Initial, Steps, Report, Notes, Points, Renumber, Ranks, RankedBy, BoardNames, PlayedNames, PlayerNames, Games, Words, By, Bye, Entries, EnteredRound, Correct}
use Rattle.requests.specs.declared.commands.CommandName.{CommandName}
use Rattle.requests.specs.declared.commands.CommandName.TheVariants.{Check as CheckName, Format as FormatName, Enter as EnterName, Pair as PairName, Boards as BoardsName, Candidates as CandidatesName, Explain as ExplainName, Standings as StandingsName, Sheet as SheetName}
use Rattle.trf16_report.specs.declared.limits.TheConstants.{MOST_ROUNDS}

-- ---- options

-- an option with one value, of which help says the name
abbrev pub option_rule : Text → Rule
option_rule name = record (new_rule name) { long = Some name; value_names = 1 }

-- an option whose value is a number that a parser reads
abbrev pub number_rule : Text → ValueParser → Rule
number_rule name parser = record (option_rule name) { parser = Some parser }

-- an option without a value
abbrev pub flag_rule : Text → Rule
flag_rule name = record (new_rule name) { long = Some name; action = Some SetTrue }

-- `--bracket K`: 1 to 1000, which must be given
unfoldable pub bracket_rule : Rule
bracket_rule = record (number_rule (codes "bracket") (Signed (pos 1) (pos 1000))) { required = true }

-- `--from CURSOR`
unfoldable pub from_rule : Rule
from_rule = option_rule (codes "from")

-- `--count N`: 1 to 10000
unfoldable pub count_rule : Rule
count_rule = number_rule (codes "count") (Unsigned 1 10000)

-- `--player P`: 1 to 9999
unfoldable pub player_rule : Rule
player_rule = number_rule (codes "player") (Signed (pos 1) (pos 9999))

-- `--instead Q`: 0 to 9999
unfoldable pub instead_rule : Rule
instead_rule = number_rule (codes "instead") (Signed (pos 0) (pos 9999))

-- an option whose value is a number from 1 to 64, the most rounds
abbrev pub few_rounds_rule : Text → Rule
few_rounds_rule name = number_rule name (Signed (pos 1) (pos MOST_ROUNDS))

-- `--round N`
unfoldable pub round_rule : Rule
round_rule = few_rounds_rule (codes "round")

-- `--rounds N`
unfoldable pub rounds_rule : Rule
rounds_rule = few_rounds_rule (codes "rounds")

-- `--initial`, whose value is any text: whether it is a colour is asked of what clap reads
unfoldable pub initial_rule : Rule
initial_rule = option_rule (codes "initial")

-- `--steps N`: 0 to 1000000000
unfoldable pub steps_rule : Rule
steps_rule = number_rule (codes "steps") (Unsigned 0 1000000000)

-- `--report`
unfoldable pub report_rule : Rule
report_rule = flag_rule (codes "report")

-- `--notes`
unfoldable pub notes_rule : Rule
notes_rule = flag_rule (codes "notes")

-- `--points`
unfoldable pub points_rule : Rule
points_rule = flag_rule (codes "points")

-- `--renumber`
unfoldable pub renumber_rule : Rule
renumber_rule = flag_rule (codes "renumber")

-- `--ranks`
unfoldable pub ranks_rule : Rule
ranks_rule = flag_rule (codes "ranks")

-- `--names`
unfoldable pub names_rule : Rule
names_rule = flag_rule (codes "names")

-- `--games`
unfoldable pub games_rule : Rule
games_rule = flag_rule (codes "games")

-- `--words`
unfoldable pub words_rule : Rule
words_rule = flag_rule (codes "words")

-- `--by`, whose value is any text: whether it is a list of keys is asked of what clap reads
unfoldable pub by_rule : Rule
by_rule = option_rule (codes "by")

-- `--bye N`: 0 to 2
unfoldable pub bye_rule : Rule
bye_rule = number_rule (codes "bye") (Signed (pos 0) (pos 2))

-- a word that no option is in front of, of which help says the name
abbrev pub word_rule : Text → Rule
word_rule name = record (new_rule name) { value_names = 1 }

-- one such word or more
abbrev pub words_rule_of : Text → Rule
words_rule_of name = record (word_rule name) { range = Some (record { start_inclusive = 1; end_inclusive = usize_max }); required = true }

-- the entries of `enter`, whatever they say: whether they are entries is asked of what clap reads
unfoldable pub entries_rule : Rule
entries_rule = words_rule_of (codes "entry")

-- `--correct`
unfoldable pub correct_rule : Rule
correct_rule = flag_rule (codes "correct")

-- the rule of each option
abbrev pub rule_for : OptionName → Rule
rule_for Bracket = bracket_rule
rule_for From = from_rule
rule_for Count = count_rule
rule_for Player = player_rule
rule_for Instead = instead_rule
rule_for Round = round_rule
rule_for PlayedRound = round_rule
rule_for Rounds = rounds_rule
rule_for Initial = initial_rule
rule_for Steps = steps_rule
rule_for Report = report_rule
rule_for Notes = notes_rule
rule_for Points = points_rule
rule_for Renumber = renumber_rule
rule_for Ranks = ranks_rule
rule_for RankedBy = by_rule
rule_for BoardNames = names_rule
rule_for PlayedNames = names_rule
rule_for PlayerNames = names_rule
rule_for Games = games_rule
rule_for Words = words_rule
rule_for By = by_rule
rule_for Bye = bye_rule
rule_for Entries = entries_rule
rule_for EnteredRound = round_rule
rule_for Correct = correct_rule

-- ---- commands

-- two commands have global arguments, or neither has
abbrev pub HasSameGlobals : Command → Command → Type 0
HasSameGlobals old new = (out-Command new).has_globals ≡ (out-Command old).has_globals

-- a command with one more option
unfoldable pub with_option : App → Rule → App
with_option = with_rule

-- a command with some more options
abbrev pub with_options : App → List OptionName → App
with_options = fold (λ app name. with_option app (rule_for name))

-- a command with the options of a round: `--round`, `--rounds`, `--initial` and `--steps`
unfoldable pub with_round_rules : App → App
with_round_rules app = with_option (with_option (with_option (with_option app round_rule) rounds_rule) initial_rule) steps_rule

-- with those of a bracket: `--bracket`, `--from` and `--count`
unfoldable pub with_bracket_rules : App → App
with_bracket_rules app = with_option (with_option (with_option app bracket_rule) from_rule) count_rule

-- with those of the players' places: `--ranks` and `--by`
unfoldable pub with_rank_rules : App → App
with_rank_rules app = with_option (with_option app ranks_rule) by_rule

-- with those of the standings: `--by`, `--names`, `--games` and `--round`
unfoldable pub with_table_rules : App → App
with_table_rules app = with_option (with_option (with_option (with_option app by_rule) names_rule) games_rule) round_rule

-- `check`
unfoldable pub check_app : App
check_app = with_option (with_option (new_app (codes "check")) notes_rule) bye_rule

-- `format`
unfoldable pub format_app : App
format_app = with_option (with_option (with_rank_rules (with_option (with_option (new_app (codes "format")) points_rule) renumber_rule)) round_rule) bye_rule

-- `enter`
unfoldable pub enter_app : App
enter_app = with_option (with_option (with_option (with_option (new_app (codes "enter")) entries_rule) round_rule) correct_rule) bye_rule

-- `pair`
unfoldable pub pair_app : App
pair_app = with_option (with_option (with_option (with_round_rules (new_app (codes "pair"))) names_rule) report_rule) bye_rule

-- `boards`
unfoldable pub boards_app : App
boards_app = with_option (with_option (with_option (new_app (codes "boards")) round_rule) names_rule) bye_rule

-- `candidates`
unfoldable pub candidates_app : App
candidates_app = with_option (with_round_rules (with_bracket_rules (new_app (codes "candidates")))) bye_rule

-- `explain`
unfoldable pub explain_app : App
explain_app = with_option (with_option (with_round_rules (with_option (with_option (new_app (codes "explain")) player_rule) instead_rule)) words_rule) bye_rule

-- `standings`
unfoldable pub standings_app : App
standings_app = with_option (with_table_rules (new_app (codes "standings"))) bye_rule

-- `sheet`
unfoldable pub sheet_app : App
sheet_app = with_option (with_option (with_option (new_app (codes "sheet")) by_rule) round_rule) bye_rule

-- a command of the command line with its options, as clap is told of them [with arbiter_app]
abbrev pub app_for : CommandName → App
app_for CheckName = check_app
app_for FormatName = format_app
app_for EnterName = enter_app
app_for PairName = pair_app
app_for BoardsName = boards_app
app_for CandidatesName = candidates_app
app_for ExplainName = explain_app
app_for StandingsName = standings_app
app_for SheetName = sheet_app
