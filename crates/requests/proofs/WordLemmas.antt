-- What clap's rules make of the words of the program.
use Rattle.std.proofs.Common.{Result, Ok, Err, Option, None, Some, Bor, ◌≡◌, inl, inr, Bool, true, false, List, [], ◌∷◌, ◌||◌, refl, sym, ◌∙◌, ap}
use Rattle.std.specs.List.{list_any}
use Rattle.std.proofs.lemmas.Bool.{or_right}
use Rattle.clap.specs.Words.{App, Row, Text, fault_of, subcommand_of, is_simple_and_free, Kinds, IsAmong, HasKind, kind_of, found_of, rows_of, subcommand_name_of, subcommand_rows, subcommand_rows_of}
use Rattle.clap.specs.declared.error.kind.ErrorKind.{ErrorKind}
use Rattle.std.specs.Prelude.{⊤, option_map}
use Rattle.std.specs.Box.{box_value}
use Rattle.clap.specs.declared.Error.{Error}
use Rattle.clap.specs.declared.parser.matches.ArgMatches.{ArgMatches}
use Rattle.clap.specs.declared.parser.matches.ArgMatches.TheViews.{out-ArgMatches, out-SubCommand}
use Rattle.requests.specs.Prelude.{rows_in, bracket_rule, by_rule, bye_rule, correct_rule, count_rule, entries_rule, from_rule, games_rule, initial_rule, instead_rule, names_rule, notes_rule, player_rule, points_rule, ranks_rule, renumber_rule, report_rule, round_rule, rounds_rule, steps_rule, words_rule, boards_app, candidates_app, enter_app, explain_app, pair_app, sheet_app, standings_app, with_bracket_rules, with_option, with_rank_rules, with_round_rules, with_table_rules, ComesTo, FitsKind, arbiter_app, asked_by, check_app, format_app, is_mistake, is_shown, with_settings, task_by, with_version, with_command, with_engine, with_tables}
use Rattle.clap.proofs.OnLiterals.{clap_on_literals}
use Rattle.requests.specs.declared.options.WordFault.{WordFault}
use Rattle.requests.specs.declared.words.Task.{Task}
use Rattle.requests.specs.declared.words.Meaning.{Meaning}
use Rattle.requests.specs.declared.words.Meaning.TheVariants.{Command, Help, Mistake, Refused}

-- what a proof unfolds to see the options of a command
unfoldable pub options_on_literals : ⊤
unfolding bracket_rule by_rule bye_rule correct_rule count_rule entries_rule from_rule games_rule initial_rule instead_rule names_rule notes_rule player_rule points_rule ranks_rule renumber_rule report_rule round_rule rounds_rule steps_rule words_rule
options_on_literals = tt

-- what a proof unfolds to see the commands of the program
unfoldable pub commands_on_literals : ⊤
unfolding arbiter_app with_command with_engine with_tables with_settings with_version check_app format_app enter_app pair_app boards_app candidates_app explain_app standings_app sheet_app with_option with_bracket_rules with_rank_rules with_round_rules with_table_rules
commands_on_literals = tt

pub simple_and_free : is_simple_and_free arbiter_app ≡ true
unfolding clap_on_literals options_on_literals commands_on_literals
simple_and_free = refl

-- words that clap's rules accept come to what their command and options make
pub accepted_words : (app : App) (words : List Text) (made : Option (Text × List Row)) (read : Result Task WordFault) → app ≡ arbiter_app → fault_of app words ≡ []
    → made ≡ subcommand_of app words → Some read ≡ task_by made → ComesTo words (asked_by read)
accepted_words app words made (Ok task) same accepted rows e = record {
  accepted = ap (λ a. fault_of a words) (sym same) ∙ accepted;
  named = ap task_by (ap (λ a. subcommand_of a words) (sym same) ∙ sym rows) ∙ sym e;
}
accepted_words app words made (Err fault) same accepted rows e = record {
  accepted = ap (λ a. fault_of a words) (sym same) ∙ accepted;
  named = ap task_by (ap (λ a. subcommand_of a words) (sym same) ∙ sym rows) ∙ sym e;
}

-- a kind that passes a test is among kinds of which one passes it
among_passes : (p : ErrorKind → Bool) (k : ErrorKind) (kinds : Kinds) → IsAmong k kinds → p k ≡ true → list_any p kinds ≡ true
among_passes p k [] h e = absurd h
among_passes p k (x ∷ xs) (inl same) e = ap (λ y. p y || list_any p xs) (sym same) ∙ ap (λ b. b || list_any p xs) e
among_passes p k (x ∷ xs) (inr later) e = or_right (p x) (list_any p xs) (among_passes p k xs later e)

-- what an error of a parse comes to is what the words come to
pub told_of_words : (words : List Text) (error : Error) (asked : Meaning) → HasKind (fault_of arbiter_app words) error → FitsKind (kind_of error) asked → ComesTo words asked
told_of_words words error (Command task) h told = absurd told
told_of_words words error (Refused fault) h told = absurd told
told_of_words words error (Help text) (inl memory) told = let bad : false ≡ true = sym (ap is_shown memory) ∙ told in cc
told_of_words words error (Help text) (inr among) told = among_passes is_shown _ _ among told
told_of_words words error (Mistake text) (inl memory) told = let bad : false ≡ true = sym (ap is_mistake memory) ∙ told in cc
told_of_words words error (Mistake text) (inr among) told = among_passes is_mistake _ _ among told

-- two readings of an option are one of both
both_read : {A B X Y : Type 0} (f : X → A) (g : X → B) (f' : Y → A) (g' : Y → B) (o : Option X) (r : Option Y) → option_map f' r ≡ option_map f o
    → option_map g' r ≡ option_map (λ (p : A × B). p.1) (option_map {U = A × B} (λ x. (f x, g x)) o) → option_map {U = A × B} (λ x. (f x, g x)) o ≡ option_map {U = A × B} (λ y. (f' y, g' y)) r
both_read f g f' g' None None e h = refl
both_read f g f' g' None (Some y) e h = cc
both_read f g f' g' (Some x) None e h = cc
both_read f g f' g' (Some x) (Some y) e h =
    let first : f' y ≡ f x = cc in
    let second : g' y ≡ g x = cc in
    ap (λ a. Some (a, g x)) (sym first) ∙ ap (λ b. Some (f' y, b)) (sym second)

-- the command that clap found, and its rows
pub entered_rows : (matches : ArgMatches) (r : Option (Bor Text × Bor ArgMatches)) → option_map (λ p. p.0.now) r ≡ subcommand_name_of matches
    → option_map (λ p. rows_of (found_of p.1.now)) r ≡ option_map (λ (p : Text × List Row). p.1) (subcommand_rows (out-ArgMatches matches).subcommand)
    → subcommand_rows_of matches ≡ option_map {U = Text × List Row} (λ p. (p.0.now, rows_in p.1.now)) r
entered_rows matches r name rows =
    both_read (λ b. (out-SubCommand (box_value b)).name.now) (λ b. rows_of (found_of (out-SubCommand (box_value b)).matches))
    (λ p. p.0.now) (λ p. rows_in p.1.now) (out-ArgMatches matches).subcommand r name rows
