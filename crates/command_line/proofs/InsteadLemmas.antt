-- The number of a seat in a bracket, and what a search answers.
use Rattle.std.proofs.Common.{◌≡◌, ◌∙◌, ℕ, true, false, ◌==◌, ◌+◌, ◌≤◌, ◌<◌, List, Option, Some, None, Result, Ok, Err, IfOk, length, get_or, drop, refl, sym, ap, arith}
use Rattle.std.specs.List.{position_from}
use Rattle.std.specs.Option.{option_map_or}
use Rattle.std.proofs.lemmas.List.{drop_more, drop_all, length-map}
use Rattle.dutch_sequence.specs.declared.numbers.TheConstants.{LIMIT}
use Rattle.dutch_player.specs.Prelude.{Facts}
use Rattle.dutch_rounds.specs.Prelude.{above_lower, IsStage, IsInstead}
use Rattle.dutch_bracket.specs.Prelude.{score_at}
use Rattle.dutch_rounds.specs.declared.instead.Instead.{Instead}
use Rattle.dutch_rounds.specs.Stage.{Stage}
use Rattle.dutch_candidates.specs.declared.wish.Wish.{Wish}
use Rattle.command_line.specs.InsteadAnswers.{AnswersPresent, IsSearched}
use Rattle.stage_lines.specs.InsteadTexts.{instead_text}
use Rattle.command_line.specs.InsteadAnswers.{search_answer}
use Rattle.player_lines.specs.Obstacles.{obstacle_text}
use Rattle.player_lines.specs.declared.obstacle.Obstacle.{Obstacle}
use Rattle.round_lines.specs.Tellings.{TellingFacts}
use Rattle.replies.specs.Prelude.{answer_of, done}
use Rattle.replies.specs.declared.reply.Reply.{Reply}

-- the number that is found from a place on
abbrev pub from_place : List ℕ → ℕ → ℕ → ℕ
from_place seats seat i = option_map_or (λ number. number) (position_from (λ other. other == seat) (i + 1) (drop i seats)) 0

pub passed : (seats : List ℕ) (seat i d : ℕ) → i < length seats → (get_or seats i d == seat) ≡ false → from_place seats seat i ≡ from_place seats seat (i + 1)
passed seats seat i d lt other = rw (drop_more seats i d lt, other) refl

pub found : (seats : List ℕ) (seat i d : ℕ) → i < length seats → (get_or seats i d == seat) ≡ true → from_place seats seat i ≡ i + 1
found seats seat i d lt same = rw (drop_more seats i d lt, same) refl

pub none : (seats : List ℕ) (seat i : ℕ) → length seats ≤ i → from_place seats seat i ≡ 0
none seats seat i le = rw (drop_all i seats le) refl

pub few_seats : (facts : Facts) (stage : Stage) → IsStage facts stage → length stage.reached.seats ≤ LIMIT
few_seats facts stage is = omega (arith, is.bracket.sound.few, length-map stage.reached.seats (score_at facts))

-- what is told of what a search finds
pub searched : (telling : TellingFacts) (steps player number : ℕ) (stage : Stage) (wish : Wish) (found : Instead) {E : Type 0} (r : Result Reply E)
    → IsInstead (above_lower telling.facts stage.reached) stage.shape wish steps found
    → IfOk r (λ reply. answer_of reply ≡ search_answer telling player number stage wish found)
    → IfOk r (λ reply. IsSearched telling steps player number stage wish (answer_of reply))
searched telling steps player number stage wish found (Ok reply) is tells = record { found = found; is = is; tells = tells }
searched telling steps player number stage wish found (Err error) is tells = tells

-- an obstacle that is told of a round stands against it there
pub against_told : (told telling : TellingFacts) (steps player number : ℕ) (found : Option Obstacle) (obstacle : Obstacle) (decided : Option (Stage × Wish))
    {E : Type 0} (r : Result Reply E) → told ≡ telling → found ≡ Some obstacle
    → IfOk r (λ reply. answer_of reply ≡ done (instead_text told player number (obstacle_text told player number obstacle)))
    → IfOk r (λ reply. AnswersPresent telling steps player number found decided (answer_of reply))
against_told told telling steps player number None obstacle decided r same is tells = cc
against_told told telling steps player number (Some found) obstacle decided (Err error) same is tells = tells
against_told told telling steps player number (Some found) obstacle decided (Ok reply) same is tells =
    let one : found ≡ obstacle = cc in
    tells ∙ (ap (λ (t : TellingFacts). done (instead_text t player number (obstacle_text t player number obstacle))) same
    ∙ ap (λ (o : Obstacle). done (instead_text telling player number (obstacle_text telling player number o))) (sym one))
