use Rattle.std.proofs.Common.{ap, refl, sym, ◌∙◌, subst, map}
use Rattle.std.proofs.lemmas.Result.{IfOk-weaker}
use Rattle.clap.specs.Words.{HasKind, Kinds, fault_of, is_simple_and_free, subcommand_of}
use Rattle.clap.proofs.WalkLemmas.{both}
use Rattle.requests.specs.OneCommand.{first_command}
use Rattle.requests.specs.Prelude.{ComesTo, arbiter_app}
use Rattle.requests.proofs.OneCommandLemmas.{all_simple_and_free, same_by_first}
use Rattle.requests.proofs.RequestLemmas.{no_words_without}
use Rattle.requests.proofs.WordLemmas.{accepted_words, told_of_words}
use Rattle.requests.proofs.words.read_words.Goals as goal

pub unreachable-requires : goal.unreachable-requires
unreachable-requires c =
    let words = map (λ w. w.now) c.args.words.now in
    let app = c.in_ok-arbiter_command.ensures.app in
    let free = ap is_simple_and_free app ∙ all_simple_and_free (first_command words) in
    let same = same_by_first words in
    let kinds = sym (ap (λ a. fault_of a words) app ∙ same.0) ∙ c.in-Ok.ensures.kinds free in
    let rows = (c.in-Ok.ensures.matches (both _ _ free).0).1 ∙ (ap (λ a. subcommand_of a words) app ∙ same.1) in
    no_words_without arbiter_app words _ refl kinds rows (sym c.in_default.is ∙ c.in_ok-task-in-Ok.ensures)

pub returns-in-Some : goal.returns-in-Some
returns-in-Some c =
    let words = map (λ w. w.now) c.args.words.now in
    let app = c.in_ok-arbiter_command.ensures.app in
    let free = ap is_simple_and_free app ∙ all_simple_and_free (first_command words) in
    let same = same_by_first words in
    let kinds = sym (ap (λ a. fault_of a words) app ∙ same.0) ∙ c.in-Ok.ensures.kinds free in
    let rows = (c.in-Ok.ensures.matches (both _ _ free).0).1 ∙ (ap (λ a. subcommand_of a words) app ∙ same.1) in
    subst (ComesTo words) (sym c.asked_by.ensures)
    (accepted_words arbiter_app words _ c.in-Some.task refl kinds rows (sym c.in-Some.is ∙ c.in_ok-task-in-Ok.ensures))

pub returns-in-Err : goal.returns-in-Err
returns-in-Err c =
    let words = map (λ w. w.now) c.args.words.now in
    let app = c.in_ok-arbiter_command.ensures.app in
    let kinds = c.in-Err.ensures.kinds (ap is_simple_and_free app ∙ all_simple_and_free (first_command words)) in
    let same = ap (λ a. fault_of a words) app ∙ (same_by_first words).0 in
    IfOk-weaker c.meaning_of_error.result _ _
    (λ asked h. told_of_words words c.in-Err.error asked (subst (λ (faults : Kinds). HasKind faults c.in-Err.error) same kinds) h) c.meaning_of_error.ensures
