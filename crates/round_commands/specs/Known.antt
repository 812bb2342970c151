-- What is known where a round is told, from its words and from its report: a model that carries the proof that boards fit.
use Rattle.std.specs.Prelude.{◌≤◌, IfSome}
use Rattle.dutch_bracket.specs.Prelude.{IsOf, frame_of}
use Rattle.dutch_arrangements.specs.Prelude.{Fits}
use Rattle.dutch_rounds.specs.declared.round.BracketAt.{BracketAt}
use Rattle.dutch_rounds.specs.declared.round.BracketAt.TheVariants.{Bracket, NotReached, NoPairing as NoPairingAt, Undecided as UndecidedAt}
use Rattle.dutch_rounds.specs.declared.round.Outcome.{Outcome}
use Rattle.dutch_rounds.specs.declared.round.Outcome.TheVariants.{Paired, NoPairing, Undecided}
use Rattle.dutch_player.specs.Prelude.{Facts}
use Rattle.trf16_report.specs.Prelude.{CanBePaired, Sheet}
use Rattle.requests.specs.declared.options.PairOptions.{PairOptions}
use Rattle.trf16_report.specs.declared.limits.TheConstants.{MOST_ROUNDS}

-- a total of rounds that is asked for is not above the most rounds [own]
abbrev pub HasFewRounds : PairOptions → Type 0
HasFewRounds options = IfSome options.rounds (λ rounds. rounds ≤ MOST_ROUNDS)

-- the boards of an outcome, if it has some, can be the next round of a report
abbrev pub CanBeTold : Sheet → Outcome → Type 0
CanBeTold sheet (Paired all) = CanBePaired all.items sheet
CanBeTold sheet NoPairing = Unit {0}
CanBeTold sheet (Undecided number used) = Unit {0}

-- a bracket that is found, if one is, is one of the field, and its shape fits
abbrev pub CanBeListed : Facts → BracketAt → Type 0
CanBeListed facts (Bracket reached shape) = IsOf facts reached × Fits (frame_of facts reached) shape
CanBeListed facts NotReached = Unit {0}
CanBeListed facts NoPairingAt = Unit {0}
CanBeListed facts (UndecidedAt number used) = Unit {0}
