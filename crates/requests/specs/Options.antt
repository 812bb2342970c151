-- What the options of a command say, by the rows that clap makes of its words.
use Rattle.std.specs.Prelude.{ℕ, ◌-◌, ◌^◌, Bool, true, false, if◌then◌else◌, List, Option, Some, None, Result, Ok, Err, option_and_then, unwrap_or, codes}
use Rattle.std.specs.Option.{option_map_or}
use Rattle.std.specs.Str.{bytes_eq}
use Rattle.std.specs.Str.Parse.{digits_value, without_leading_plus}
use Rattle.clap.specs.ValueTests.{is_unsigned_in}
use Rattle.clap.specs.Words.{Row, Text, first_of, found_of, one_of, rows_of}
use Rattle.clap.specs.declared.parser.matches.ArgMatches.{ArgMatches}
use Rattle.trf16_report.specs.declared.cell.Colour.{Colour}
use Rattle.trf16_report.specs.declared.cell.Colour.TheVariants.{White, Black}
use Rattle.requests.specs.Keys.{keys_in, usual_keys}
use Rattle.tables.specs.declared.key.Key.{Key}
use Rattle.requests.specs.declared.options.WordFault.{WordFault}
use Rattle.requests.specs.declared.options.WordFault.TheVariants.{BadColour, BadKeys, BadCursor, NamesAndReport, InsteadAlone, ByAlone}
use Rattle.requests.specs.declared.options.BoardsOptions.{BoardsOptions}
use Rattle.requests.specs.declared.options.CandidatesOptions.{CandidatesOptions}
use Rattle.requests.specs.declared.options.CheckOptions.{CheckOptions}
use Rattle.requests.specs.declared.options.ExplainOptions.{ExplainOptions}
use Rattle.requests.specs.declared.options.FormatOptions.{FormatOptions}
use Rattle.requests.specs.declared.options.PairOptions.{PairOptions}
use Rattle.requests.specs.declared.options.Question.{Question}
use Rattle.requests.specs.declared.options.SheetOptions.{SheetOptions}
use Rattle.requests.specs.declared.options.Shown.{Shown}
use Rattle.requests.specs.declared.options.Shown.TheVariants.{Boards, Names, Report}
use Rattle.requests.specs.declared.options.StandingsOptions.{StandingsOptions}
use Rattle.requests.specs.declared.options.Wording.{Wording}
use Rattle.requests.specs.declared.options.Wording.TheVariants.{Plain, Words}
use Rattle.trf16_report.specs.declared.limits.TheConstants.{MOST_ROUNDS}

-- what follows where there is no fault
infixl 10 ◌>>=◌
abbrev pub ◌>>=◌ : {A B : Type 0} → Result A WordFault → (A → Result B WordFault) → Result B WordFault
(Ok x) >>= f = f x
(Err fault) >>= f = Err fault

-- the rows of the options that clap found
abbrev pub rows_in : ArgMatches → List Row
rows_in matches = rows_of (found_of matches)

-- the largest number of 64 bits
abbrev pub u64_max : ℕ
u64_max = 2 ^ 64 - 1

-- the largest number of 16 bits
abbrev pub u16_max : ℕ
u16_max = 2 ^ 16 - 1

-- ---- one option

-- the number from 0 to `most` that a text writes in decimal
abbrev pub number_of : ℕ → Text → Option ℕ
number_of most text = if is_unsigned_in 0 most text then Some (digits_value 10 (without_leading_plus text)) else None

-- the number of an option
abbrev pub number_in : ℕ → Text → List Row → Option ℕ
number_in most id rows = option_and_then (number_of most) (one_of id rows)

-- whether a flag is set
abbrev pub flag_in : Text → List Row → Bool
flag_in id rows = option_map_or (λ text. bytes_eq text (codes "true")) (first_of id rows) false

-- what a reader makes of an option that may be left out; a text that it does not read is a fault
abbrev pub read_by : {T : Type 0} → (Text → Option T) → WordFault → Option Text → Result (Option T) WordFault
read_by read fault None = Ok None
read_by read fault (Some text) = option_map_or (λ value. Ok (Some value)) (read text) (Err fault)

-- the colour that a text names, in lower case
abbrev pub colour_named : Text → Option Colour
colour_named text = if bytes_eq text (codes "white") then Some White else (if bytes_eq text (codes "black") then Some Black else None)

-- `--initial`: the colour of the higher-ranked of two players if nothing else decides and that player's start rank is odd (C.04.3 E.5)
abbrev pub initial_in : List Row → Result (Option Colour) WordFault
initial_in rows = read_by colour_named BadColour (first_of (codes "initial") rows)

-- `--round`: the round that is asked for (clap lets no words pass with 0 or with a greater one than there can be) [with pair_options]
abbrev pub round_in : List Row → Option ℕ
round_in rows = number_in MOST_ROUNDS (codes "round") rows

-- `--rounds`: the number of rounds of the tournament (clap lets no words pass with more than there can be)
abbrev pub rounds_in : List Row → Option ℕ
rounds_in rows = number_in MOST_ROUNDS (codes "rounds") rows

-- `--steps`: how many steps a bracket may take, 10000000 where it is left out
abbrev pub steps_in : List Row → ℕ
steps_in rows = unwrap_or (number_in u64_max (codes "steps") rows) 10000000

-- `--count`: how many candidates are wanted, 100 where it is left out
abbrev pub count_in : List Row → ℕ
count_in rows = unwrap_or (number_in u64_max (codes "count") rows) 100

-- `--bracket`: the number of the bracket (clap lets no words pass that leave it out)
abbrev pub bracket_in : List Row → ℕ
bracket_in rows = unwrap_or (number_in u16_max (codes "bracket") rows) 1

-- `--player`: the player of whom it is asked (clap lets no words pass with 0 or with one above 9999)
abbrev pub player_in : List Row → Option ℕ
player_in rows = number_in u16_max (codes "player") rows

-- `--instead`: whom the player might have met, 0 for the bye (clap lets no words pass with one above 9999)
abbrev pub instead_in : List Row → Option ℕ
instead_in rows = number_in u16_max (codes "instead") rows

-- `--bye`: what the pairing-allocated bye gives in half points, 2 where it is left out (clap lets no words pass with one above 2) [with
-- pair_options]
abbrev pub bye_in : List Row → ℕ
bye_in rows = unwrap_or (number_in 2 (codes "bye") rows) 2

-- `--from`: the cursor behind which the candidates begin, where a test says which texts are cursors
abbrev pub from_in : (Text → Bool) → List Row → Result (Option Text) WordFault
from_in is_cursor rows = read_by (λ text. if is_cursor text then Some text else None) BadCursor (first_of (codes "from") rows)

-- `--by`: the keys of the standings
abbrev pub keys_by : Option Text → Result (List Key) WordFault
keys_by None = Ok usual_keys
keys_by (Some text) = option_map_or (λ keys. Ok keys) (keys_in text) (Err BadKeys)

-- the keys by which places are written
abbrev pub some_keys : Result (List Key) WordFault → Result (Option (List Key)) WordFault
some_keys (Ok keys) = Ok (Some keys)
some_keys (Err fault) = Err fault

-- `--ranks` and `--by` of `format`: the keys by which the players' places are written, where they are wanted; else `--by` asks for nothing
-- that there is [with pair_options]
abbrev pub ranks_by : Bool → Option Text → Result (Option (List Key)) WordFault
ranks_by true text = some_keys (keys_by text)
ranks_by false None = Ok None
ranks_by false (Some text) = Err ByAlone

-- `--player` and `--instead`: what is asked of a player; it is the whole round's where no player is named, and then nobody stands instead
-- [with pair_options]
abbrev pub question_by : Option ℕ → Option ℕ → Result (Option Question) WordFault
question_by None None = Ok None
question_by None (Some instead) = Err InsteadAlone
question_by (Some player) instead = Ok (Some (record { player = player; instead = instead }))

-- `--words`: how the lines of an explanation are worded
abbrev pub wording_by : Bool → Wording
wording_by words = if words then Words else Plain

-- `--report` and `--names`: what is printed of a round; both at once ask for nothing that there is [with pair_options]
abbrev pub shown_by : Bool → Bool → Result Shown WordFault
shown_by false false = Ok Boards
shown_by false true = Ok Names
shown_by true false = Ok Report
shown_by true true = Err NamesAndReport

-- ---- the options of a command

-- `check`
abbrev pub check_options : List Row → CheckOptions
check_options rows = record { notes = flag_in (codes "notes") rows }

-- `format`
unfoldable pub format_options : List Row → Result FormatOptions WordFault
format_options rows = do
  ranks ← ranks_by (flag_in (codes "ranks") rows) (first_of (codes "by") rows)
  Ok (record { points = flag_in (codes "points") rows; renumber = flag_in (codes "renumber") rows; ranks = ranks; round = round_in rows })

-- what the options of `pair` say, or the first that cannot be read; 10000000 steps where none are named [own]
unfoldable pub pair_options : List Row → Result PairOptions WordFault
pair_options rows = do
  initial ← initial_in rows
  shown ← shown_by (flag_in (codes "report") rows) (flag_in (codes "names") rows)
  Ok (record { round = round_in rows; rounds = rounds_in rows; initial = initial; steps = steps_in rows; shown = shown })

-- `boards`
abbrev pub boards_options : List Row → BoardsOptions
boards_options rows = record { round = round_in rows; names = flag_in (codes "names") rows }

-- `explain`
unfoldable pub explain_options : List Row → Result ExplainOptions WordFault
explain_options rows = do
  initial ← initial_in rows
  question ← question_by (player_in rows) (instead_in rows)
  Ok (record { question = question; round = round_in rows; rounds = rounds_in rows; initial = initial; steps = steps_in rows; wording = wording_by (flag_in (codes "words") rows) })

-- `standings`
unfoldable pub standings_options : List Row → Result StandingsOptions WordFault
standings_options rows = do
  keys ← keys_by (first_of (codes "by") rows)
  Ok (record { keys = keys; names = flag_in (codes "names") rows; games = flag_in (codes "games") rows; round = round_in rows })

-- `sheet`
unfoldable pub sheet_options : List Row → Result SheetOptions WordFault
sheet_options rows = do
  keys ← keys_by (first_of (codes "by") rows)
  Ok (record { keys = keys; round = round_in rows })

-- what the options of `candidates` say, where a test says which texts are cursors; 100 candidates where no count is named [with
-- pair_options]
unfoldable pub candidates_options : (Text → Bool) → List Row → Result CandidatesOptions WordFault
candidates_options is_cursor rows = do
  initial ← initial_in rows
  cursor ← from_in is_cursor rows
  Ok (record {
    bracket = bracket_in rows;
    from = cursor;
    count = count_in rows;
    round = round_in rows;
    rounds = rounds_in rows;
    initial = initial;
    steps = steps_in rows;
  })
