-- What the words of `enter` say, by the rows that clap makes of them.
use Rattle.std.specs.Prelude.{◌+◌, List, [], ◌∷◌, ◌++◌, length, Result, Ok, Err, unwrap_or, codes}
use Rattle.std.specs.Option.{option_map_or}
use Rattle.clap.specs.Words.{Row, Text, all_of}
use Rattle.entries.specs.Prelude.{entry_in}
use Rattle.entries.specs.declared.entry.HandEntry.{HandEntry}
use Rattle.requests.specs.Options.{flag_in, round_in}
use Rattle.requests.specs.declared.options.EnterOptions.{EnterOptions}
use Rattle.requests.specs.declared.options.WordFault.{WordFault}
use Rattle.requests.specs.declared.options.WordFault.TheVariants.{BadEntry}

-- the entries so far, and those that some words name
abbrev pub entries_behind : List HandEntry → List Text → Result (List HandEntry) WordFault
entries_behind so_far [] = Ok so_far
entries_behind so_far (word ∷ rest) = option_map_or (λ entry. entries_behind (so_far ++ entry ∷ []) rest) (entry_in word) (Err (BadEntry (length so_far + 1)))

-- the entries that some words name, or the place of the first that is of no form, from 1 [with pair_options]
abbrev pub entries_in : List Text → Result (List HandEntry) WordFault
entries_in words = entries_behind [] words

-- the words that are entries (clap lets no words pass without one)
abbrev pub entry_words : List Row → List Text
entry_words rows = unwrap_or (all_of (codes "entry") rows) []

-- the same with the other options of `enter`
abbrev pub enter_options_with : List Row → Result (List HandEntry) WordFault → Result EnterOptions WordFault
enter_options_with rows (Ok entries) = Ok (record { entries = entries; round = round_in rows; correct = flag_in (codes "correct") rows })
enter_options_with rows (Err fault) = Err fault

-- what the options of `enter` say, or the first entry that is of no form [with pair_options]
abbrev pub enter_options : List Row → Result EnterOptions WordFault
enter_options rows = enter_options_with rows (entries_in (entry_words rows))
