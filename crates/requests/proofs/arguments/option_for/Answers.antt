use Rattle.std.proofs.Common.{◌∙◌, ap, codes}
use Rattle.requests.specs.Prelude.{number_rule, by_rule, bye_rule, correct_rule, count_rule, entries_rule, from_rule, games_rule, initial_rule, instead_rule, names_rule, notes_rule, player_rule, points_rule, ranks_rule, renumber_rule, report_rule, round_rule, rounds_rule, steps_rule, words_rule}
use Rattle.requests.proofs.arguments.option_for.Goals as goal

pub returns-in-Bracket-clause-rule : goal.returns-in-Bracket-clause-rule
returns-in-Bracket-clause-rule c = rw c.in-Bracket.is c.bracket.ensures.rule

pub returns-in-From-clause-rule : goal.returns-in-From-clause-rule
unfolding from_rule
returns-in-From-clause-rule c = rw c.in-From.is c.option.ensures.rule

pub returns-in-Count-clause-rule : goal.returns-in-Count-clause-rule
unfolding count_rule
returns-in-Count-clause-rule c = rw c.in-Count.is (c.number.ensures.rule ∙ ap (number_rule (codes "count")) c.counts.ensures)

pub returns-in-Player-clause-rule : goal.returns-in-Player-clause-rule
unfolding player_rule
returns-in-Player-clause-rule c = rw c.in-Player.is (c.number-in-Player.ensures.rule ∙ ap (number_rule (codes "player")) c.players.ensures)

pub returns-in-Instead-clause-rule : goal.returns-in-Instead-clause-rule
unfolding instead_rule
returns-in-Instead-clause-rule c = rw c.in-Instead.is (c.number-in-Instead.ensures.rule ∙ ap (number_rule (codes "instead")) c.opponents.ensures)

pub returns-in-Round-clause-rule : goal.returns-in-Round-clause-rule
unfolding round_rule
returns-in-Round-clause-rule c = rw c.in-Round.is c.few_rounds.ensures.rule

pub returns-in-PlayedRound-clause-rule : goal.returns-in-PlayedRound-clause-rule
unfolding round_rule
returns-in-PlayedRound-clause-rule c = rw c.in-PlayedRound.is c.few_rounds-in-PlayedRound.ensures.rule

pub returns-in-Rounds-clause-rule : goal.returns-in-Rounds-clause-rule
unfolding rounds_rule
returns-in-Rounds-clause-rule c = rw c.in-Rounds.is c.few_rounds-in-Rounds.ensures.rule

pub returns-in-Initial-clause-rule : goal.returns-in-Initial-clause-rule
unfolding initial_rule
returns-in-Initial-clause-rule c = rw c.in-Initial.is c.option-in-Initial.ensures.rule

pub returns-in-Steps-clause-rule : goal.returns-in-Steps-clause-rule
unfolding steps_rule
returns-in-Steps-clause-rule c = rw c.in-Steps.is (c.number-in-Steps.ensures.rule ∙ ap (number_rule (codes "steps")) c.limits.ensures)

pub returns-in-Report-clause-rule : goal.returns-in-Report-clause-rule
unfolding report_rule
returns-in-Report-clause-rule c = rw c.in-Report.is c.flag.ensures.rule

pub returns-in-Notes-clause-rule : goal.returns-in-Notes-clause-rule
unfolding notes_rule
returns-in-Notes-clause-rule c = rw c.in-Notes.is c.flag-in-Notes.ensures.rule

pub returns-in-Points-clause-rule : goal.returns-in-Points-clause-rule
unfolding points_rule
returns-in-Points-clause-rule c = rw c.in-Points.is c.flag-in-Points.ensures.rule

pub returns-in-Renumber-clause-rule : goal.returns-in-Renumber-clause-rule
unfolding renumber_rule
returns-in-Renumber-clause-rule c = rw c.in-Renumber.is c.flag-in-Renumber.ensures.rule

pub returns-in-Ranks-clause-rule : goal.returns-in-Ranks-clause-rule
unfolding ranks_rule
returns-in-Ranks-clause-rule c = rw c.in-Ranks.is c.flag-in-Ranks.ensures.rule

pub returns-in-RankedBy-clause-rule : goal.returns-in-RankedBy-clause-rule
unfolding by_rule
returns-in-RankedBy-clause-rule c = rw c.in-RankedBy.is c.option-in-RankedBy.ensures.rule

pub returns-in-BoardNames-clause-rule : goal.returns-in-BoardNames-clause-rule
unfolding names_rule
returns-in-BoardNames-clause-rule c = rw c.in-BoardNames.is c.flag-in-BoardNames.ensures.rule

pub returns-in-PlayedNames-clause-rule : goal.returns-in-PlayedNames-clause-rule
unfolding names_rule
returns-in-PlayedNames-clause-rule c = rw c.in-PlayedNames.is c.flag-in-PlayedNames.ensures.rule

pub returns-in-PlayerNames-clause-rule : goal.returns-in-PlayerNames-clause-rule
unfolding names_rule
returns-in-PlayerNames-clause-rule c = rw c.in-PlayerNames.is c.flag-in-PlayerNames.ensures.rule

pub returns-in-Games-clause-rule : goal.returns-in-Games-clause-rule
unfolding games_rule
returns-in-Games-clause-rule c = rw c.in-Games.is c.flag-in-Games.ensures.rule

pub returns-in-Words-clause-rule : goal.returns-in-Words-clause-rule
unfolding words_rule
returns-in-Words-clause-rule c = rw c.in-Words.is c.flag-in-Words.ensures.rule

pub returns-in-By-clause-rule : goal.returns-in-By-clause-rule
unfolding by_rule
returns-in-By-clause-rule c = rw c.in-By.is c.option-in-By.ensures.rule

pub returns-in-Bye-clause-rule : goal.returns-in-Bye-clause-rule
unfolding bye_rule
returns-in-Bye-clause-rule c = rw c.in-Bye.is (c.number-in-Bye.ensures.rule ∙ ap (number_rule (codes "bye")) c.half_points.ensures)

pub returns-in-Entries-clause-rule : goal.returns-in-Entries-clause-rule
unfolding entries_rule
returns-in-Entries-clause-rule c = rw c.in-Entries.is c.some_words.ensures.rule

pub returns-in-EnteredRound-clause-rule : goal.returns-in-EnteredRound-clause-rule
unfolding round_rule
returns-in-EnteredRound-clause-rule c = rw c.in-EnteredRound.is c.few_rounds-in-EnteredRound.ensures.rule

pub returns-in-Correct-clause-rule : goal.returns-in-Correct-clause-rule
unfolding correct_rule
returns-in-Correct-clause-rule c = rw c.in-Correct.is c.flag-in-Correct.ensures.rule
