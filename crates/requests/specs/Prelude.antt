-- The words of requests by one name: for its proofs, and for the crates above.
pub use Rattle.requests.specs.CommandLine.{HasSameGlobals, app_for, few_rounds_rule, flag_rule, number_rule, option_rule, rule_for, with_options, word_rule, words_rule_of}
unfoldable pub use Rattle.requests.specs.CommandLine.{boards_app, bracket_rule, by_rule, bye_rule, candidates_app, check_app, correct_rule, count_rule, enter_app, entries_rule, explain_app, format_app, from_rule, games_rule, initial_rule, instead_rule, names_rule, notes_rule, pair_app, player_rule, points_rule, ranks_rule, renumber_rule, report_rule, round_rule, rounds_rule, sheet_app, standings_app, steps_rule, words_rule, with_bracket_rules, with_option, with_rank_rules, with_round_rules, with_table_rules}
pub use Rattle.requests.specs.Words.{AsksFor, AsksForHelp, AsksWrongly, ComesTo, FitsKind, IsMistaken, asked_by, enter_request, enter_request_with, is_mistake, is_shown, meant_words, other_request_of, request_of, task_by, task_of, with_bye, with_commands, without_help}
unfoldable pub use Rattle.requests.specs.Words.{arbiter_app, candidates_request, explain_request, format_request, pair_request, sheet_request, standings_request, with_command, with_engine, with_settings, with_tables, with_version}
pub use Rattle.requests.specs.Keys.{are_different, if_listed, is_same, key_named, keys_in, keys_named, names, usual_keys}
pub use Rattle.requests.specs.KeySteps.{names_left, with_key, with_name}
pub use Rattle.requests.specs.Options.{boards_options, bracket_in, bye_in, check_options, colour_named, count_in, flag_in, from_in, initial_in, instead_in, keys_by, number_in, number_of, player_in, question_by, ranks_by, read_by, round_in, rounds_in, rows_in, shown_by, some_keys, steps_in, u16_max, u64_max, wording_by}
pub use Rattle.requests.specs.EntryWords.{enter_options, enter_options_with, entries_behind, entries_in, entry_words}
unfoldable pub use Rattle.requests.specs.Options.{candidates_options, explain_options, format_options, pair_options, sheet_options, standings_options}
