-- A task that words make can be answered: the total of rounds that it names is not above the most rounds, and the pairing-allocated bye gives at most 2.
use Rattle.std.proofs.Common.{◌≡◌, ◌&&◌, ◌≤◌, ◌^◌, cond, refl, sym, ap, arith, subst, ℕ, Bool, true, false, nat_le, nat_lt, List, Option, Some, None, Result, Ok, Err}
use Rattle.std.specs.Prelude.{IfSome, codes, option_and_then, option_map, unwrap_or}
use Rattle.std.specs.Str.{bytes_eq}
use Rattle.std.specs.Str.Parse.{digits_value, without_leading_plus}
use Rattle.std.proofs.lemmas.Bool.{leb-true, and_parts, cond_both}
use Rattle.clap.specs.ValueTests.{is_numeral, is_unsigned_in}
use Rattle.clap.specs.Words.{Row, Text, one_of, subcommand_of}
use Rattle.dutch_arrangements.specs.Prelude.{has_syntax}
use Rattle.trf16_report.specs.declared.cell.Colour.{Colour}
use Rattle.command_line.specs.Known.{CanBeAnswered}
use Rattle.round_commands.specs.Known.{HasFewRounds}
use Rattle.requests.specs.Prelude.{boards_options, bye_in, candidates_options, check_options, enter_options, enter_request, enter_request_with, explain_options, other_request_of, flag_in, initial_in, number_in, number_of, pair_options, round_in, rounds_in, sheet_options, sheet_request, shown_by, standings_options, steps_in, AsksFor, arbiter_app, candidates_request, explain_request, format_options, format_request, pair_request, request_of, standings_request, task_by, with_bye}
use Rattle.requests.specs.Options.{◌>>=◌}
use Rattle.requests.specs.declared.options.EnterOptions.{EnterOptions}
use Rattle.requests.specs.declared.options.PairOptions.{PairOptions}
use Rattle.requests.specs.declared.options.Shown.{Shown}
use Rattle.requests.specs.declared.options.WordFault.{WordFault}
use Rattle.requests.specs.declared.words.Task.{Task}
use Rattle.requests.specs.declared.words.Request.{Request}
use Rattle.requests.specs.declared.words.Request.TheVariants.{Check, Format, Enter, Pair, Boards, Candidates, Explain, Standings, Sheet as SheetRequest}
use Rattle.trf16_report.specs.declared.limits.TheConstants.{MOST_ROUNDS}

-- what a step gives that met no fault
not_ok : {A : Type 0} (fault : WordFault) (x : A) → ◌≡◌ {A = Result A WordFault} (Err fault) (Ok x) → ⊥
not_ok fault x e = cc

same_ok : {A : Type 0} (x y : A) → ◌≡◌ {A = Result A WordFault} (Ok x) (Ok y) → x ≡ y
same_ok x y e = cc

then_ok : {A B : Type 0} (r : Result A WordFault) (f : A → Result B WordFault) (y : B) → (r >>= f) ≡ Ok y → (x : A) × (r ≡ Ok x) × (f x ≡ Ok y)
then_ok (Ok x) f y e = (x, refl, e)
then_ok (Err fault) f y e = absurd (not_ok fault y e)

-- a number that is read is at most the greatest
number_few : (most : ℕ) (found : Option Text) → IfSome (option_and_then (number_of most) found) (λ x. x ≤ most)
number_few most None = tt
number_few most (Some text) =
    let n = digits_value 10 (without_leading_plus text) in
    cond_both (is_unsigned_in 0 most text) (Some n) None (λ (found : Option ℕ). IfSome found (λ x. x ≤ most))
    (λ passes.
    let small = nat_lt n (2 ^ 64) in
    let one = and_parts (is_numeral (without_leading_plus text)) (small && (nat_le 0 n && nat_le n most)) passes in
    let two = and_parts small (nat_le 0 n && nat_le n most) one.1 in
    let three = and_parts (nat_le 0 n) (nat_le n most) two.1 in
    leb-true n most three.1)
    (λ fails. tt)

rounds_few : (rows : List Row) → IfSome (rounds_in rows) (λ x. x ≤ MOST_ROUNDS)
rounds_few rows = number_few MOST_ROUNDS (one_of (codes "rounds") rows)

pair_few : (rows : List Row) (options : PairOptions) → pair_options rows ≡ Ok options → HasFewRounds options
unfolding pair_options
pair_few rows options e =
    let shown : Result Shown WordFault = shown_by (flag_in (codes "report") rows) (flag_in (codes "names") rows) in
    let made : Option Colour → Shown → PairOptions = λ initial shown. record { round = round_in rows; rounds = rounds_in rows; initial = initial; steps = steps_in rows; shown = shown } in
    let s = then_ok (initial_in rows) (λ initial. shown >>= (λ shown. Ok (made initial shown))) options e in
    let t = then_ok shown (λ shown. Ok (made s.0 shown)) options s.2 in
    subst HasFewRounds (same_ok (made s.0 t.0) options t.2) (rounds_few rows)

asked_of : {A : Type 0} (r : Result A WordFault) (f : A → Request) → ((options : A) → r ≡ Ok options → CanBeAnswered (f options)) → (request : Request)
    → (r >>= (λ options. Ok (f options))) ≡ Ok request → CanBeAnswered request
asked_of (Ok options) f can request e = subst CanBeAnswered (same_ok (f options) request e) (can options refl)
asked_of (Err fault) f can request e = absurd (not_ok fault request e)

some_ok : (x y : Result Request WordFault) → Some x ≡ Some y → x ≡ y
some_ok x y e = cc

asked_at : (rows : List Row) (request : Request) (check format pair boards candidates explain standings sheet : Bool)
    → cond check (Some (Ok (Check (check_options rows)))) (cond format (Some (format_request rows)) (cond pair (Some (pair_request rows))
    (cond boards (Some (Ok (Boards (boards_options rows)))) (cond candidates (Some (candidates_request rows)) (cond explain (Some (explain_request rows))
    (cond standings (Some (standings_request rows)) (cond sheet (Some (sheet_request rows)) None))))))) ≡ Some (Ok request) → CanBeAnswered request
unfolding format_request pair_request candidates_request explain_request standings_request sheet_request
asked_at rows request true format pair boards candidates explain standings sheet e = subst CanBeAnswered (same_ok (Check (check_options rows)) request (some_ok (Ok (Check (check_options rows))) (Ok request) e)) tt
asked_at rows request false true pair boards candidates explain standings sheet e =
    asked_of (format_options rows) (λ options. Format options) (λ options e. tt) request (some_ok (format_request rows) (Ok request) e)
asked_at rows request false false true boards candidates explain standings sheet e =
    asked_of (pair_options rows) (λ options. Pair options) (pair_few rows) request (some_ok (pair_request rows) (Ok request) e)
asked_at rows request false false false true candidates explain standings sheet e = subst CanBeAnswered (same_ok (Boards (boards_options rows)) request (some_ok (Ok (Boards (boards_options rows))) (Ok request) e)) tt
asked_at rows request false false false false true explain standings sheet e =
    asked_of (candidates_options has_syntax rows) (λ options. Candidates options) (λ options e. tt) request (some_ok (candidates_request rows) (Ok request) e)
asked_at rows request false false false false false true standings sheet e =
    asked_of (explain_options rows) (λ options. Explain options) (λ options e. tt) request (some_ok (explain_request rows) (Ok request) e)
asked_at rows request false false false false false false true sheet e =
    asked_of (standings_options rows) (λ options. Standings options) (λ options e. tt) request (some_ok (standings_request rows) (Ok request) e)
asked_at rows request false false false false false false false true e =
    asked_of (sheet_options rows) (λ options. SheetRequest options) (λ options e. tt) request (some_ok (sheet_request rows) (Ok request) e)
asked_at rows request false false false false false false false false e = let bad : None ≡ Some (let made : Result Request WordFault = Ok request in made) = e in cc

enter_asked : (made : Result EnterOptions WordFault) (request : Request) → enter_request_with made ≡ Ok request → CanBeAnswered request
enter_asked (Ok options) request e = subst CanBeAnswered (same_ok (Enter options) request e) tt
enter_asked (Err fault) request e = absurd (not_ok fault request e)

other_asked : (name : Text) (rows : List Row) (request : Request) → other_request_of name rows ≡ Some (Ok request) → CanBeAnswered request
other_asked name rows request e =
    asked_at rows request (bytes_eq name (codes "check")) (bytes_eq name (codes "format")) (bytes_eq name (codes "pair")) (bytes_eq name (codes "boards")) (bytes_eq name (codes "candidates")) (bytes_eq name (codes "explain")) (bytes_eq name (codes "standings"))
    (bytes_eq name (codes "sheet")) e

first_asked : (name : Text) (rows : List Row) (request : Request) (enter : Bool) → cond enter (Some (enter_request rows)) (other_request_of name rows) ≡ Some (Ok request)
    → CanBeAnswered request
first_asked name rows request true e = enter_asked (enter_options rows) request (some_ok (enter_request rows) (Ok request) e)
first_asked name rows request false e = other_asked name rows request e

command_asked : (command : Text × List Row) (request : Request) → request_of command.0 command.1 ≡ Some (Ok request) → CanBeAnswered request
command_asked command request e =
    let name : Text = command.0 in
    first_asked name command.1 request (bytes_eq name (codes "enter")) e

-- what a command comes to
abbrev asks : Request → Option (Result Request WordFault)
asks request = Some (Ok request)

abbrev gives : Task → Option (Result Task WordFault)
gives task = Some (Ok task)

-- a task has the request that its command makes, and what the pairing-allocated bye gives by its rows
made_of : (bye : ℕ) (o : Option (Result Request WordFault)) (task : Task) → option_map (with_bye bye) o ≡ gives task → (o ≡ asks task.request) × (task.bye ≡ bye)
made_of bye None task e = cc
made_of bye (Some (Err fault)) task e = cc
made_of bye (Some (Ok request)) task e =
    let made : Task = record { request = request; bye = bye } in
    let same : made ≡ task = cc in
    (ap (λ (t : Task). asks t.request) same, ap (λ (t : Task). t.bye) (sym same))

unwrapped : (most : ℕ) (o : Option ℕ) → IfSome o (λ x. x ≤ most) → unwrap_or o most ≤ most
unwrapped most None few = omega arith
unwrapped most (Some x) few = few

bye_few : (rows : List Row) → bye_in rows ≤ 2
bye_few rows = unwrapped 2 (number_in 2 (codes "bye") rows) (number_few 2 (one_of (codes "bye") rows))

asked_by : (command : Option (Text × List Row)) (task : Task) → task_by command ≡ gives task → CanBeAnswered task.request
asked_by None task e = cc
asked_by (Some command) task e = command_asked command task.request (made_of (bye_in command.1) (request_of command.0 command.1) task e).0

small_bye : (command : Option (Text × List Row)) (task : Task) → task_by command ≡ gives task → task.bye ≤ 2
small_bye None task e = cc
small_bye (Some command) task e =
    subst (λ b. b ≤ 2) (sym (made_of (bye_in command.1) (request_of command.0 command.1) task e).1) (bye_few command.1)

pub can_be_answered : (words : List Text) (task : Task) → AsksFor words task → CanBeAnswered task.request
can_be_answered words task asks_for = asked_by (subcommand_of arbiter_app words) task asks_for.named

pub has_small_bye : (words : List Text) (task : Task) → AsksFor words task → task.bye ≤ 2
has_small_bye words task asks_for = small_bye (subcommand_of arbiter_app words) task asks_for.named
