use Rattle.std.proofs.Common.{◌≡◌, IfOk, subst, sym}
use Rattle.clap.specs.Words.{app_of}
use Rattle.requests.specs.Prelude.{app_for, boards_app, candidates_app, check_app, enter_app, explain_app, format_app, pair_app, sheet_app, standings_app, with_bracket_rules, with_rank_rules, with_round_rules, with_table_rules}
use Rattle.requests.specs.declared.commands.CommandName.{CommandName}
use Rattle.requests.proofs.commands.command_for.Goals as goal

pub returns-in-Check-clause-app : goal.returns-in-Check-clause-app
unfolding check_app
returns-in-Check-clause-app c =
    subst (λ (which : CommandName). IfOk c.command_with.result (λ command. app_of command ≡ app_for which)) (sym c.in-Check.is)
    c.command_with.ensures.app

pub returns-in-Format-clause-app : goal.returns-in-Format-clause-app
unfolding format_app with_rank_rules
returns-in-Format-clause-app c =
    subst (λ (which : CommandName). IfOk c.command_with-in-Format.result (λ command. app_of command ≡ app_for which)) (sym c.in-Format.is)
    c.command_with-in-Format.ensures.app

pub returns-in-Enter-clause-app : goal.returns-in-Enter-clause-app
unfolding enter_app
returns-in-Enter-clause-app c =
    subst (λ (which : CommandName). IfOk c.command_with-in-Enter.result (λ command. app_of command ≡ app_for which)) (sym c.in-Enter.is)
    c.command_with-in-Enter.ensures.app

pub returns-in-Pair-clause-app : goal.returns-in-Pair-clause-app
unfolding pair_app with_round_rules
returns-in-Pair-clause-app c =
    subst (λ (which : CommandName). IfOk c.command_with-in-Pair.result (λ command. app_of command ≡ app_for which)) (sym c.in-Pair.is)
    c.command_with-in-Pair.ensures.app

pub returns-in-Boards-clause-app : goal.returns-in-Boards-clause-app
unfolding boards_app
returns-in-Boards-clause-app c =
    subst (λ (which : CommandName). IfOk c.command_with-in-Boards.result (λ command. app_of command ≡ app_for which)) (sym c.in-Boards.is)
    c.command_with-in-Boards.ensures.app

pub returns-in-Candidates-clause-app : goal.returns-in-Candidates-clause-app
unfolding candidates_app with_bracket_rules with_round_rules
returns-in-Candidates-clause-app c =
    subst (λ (which : CommandName). IfOk c.command_with-in-Candidates.result (λ command. app_of command ≡ app_for which)) (sym c.in-Candidates.is)
    c.command_with-in-Candidates.ensures.app

pub returns-in-Explain-clause-app : goal.returns-in-Explain-clause-app
unfolding explain_app with_round_rules
returns-in-Explain-clause-app c =
    subst (λ (which : CommandName). IfOk c.command_with-in-Explain.result (λ command. app_of command ≡ app_for which)) (sym c.in-Explain.is)
    c.command_with-in-Explain.ensures.app

pub returns-in-Standings-clause-app : goal.returns-in-Standings-clause-app
unfolding standings_app with_table_rules
returns-in-Standings-clause-app c =
    subst (λ (which : CommandName). IfOk c.command_with-in-Standings.result (λ command. app_of command ≡ app_for which)) (sym c.in-Standings.is)
    c.command_with-in-Standings.ensures.app

pub returns-in-Sheet-clause-app : goal.returns-in-Sheet-clause-app
unfolding sheet_app
returns-in-Sheet-clause-app c =
    subst (λ (which : CommandName). IfOk c.command_with-in-Sheet.result (λ command. app_of command ≡ app_for which)) (sym c.in-Sheet.is)
    c.command_with-in-Sheet.ensures.app
