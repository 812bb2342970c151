-- What is known of a request where it is answered, from its words.
use Rattle.round_commands.specs.Known.{HasFewRounds}
use Rattle.requests.specs.declared.words.Request.{Request}
use Rattle.requests.specs.declared.words.Request.TheVariants.{Check, Format, Enter, Pair, Boards, Candidates, Explain, Standings, Sheet as SheetRequest}

-- a total of rounds that is asked for to pair is not above the most rounds
abbrev pub CanBeAnswered : Request → Type 0
CanBeAnswered (Check options) = Unit {0}
CanBeAnswered (Format options) = Unit {0}
CanBeAnswered (Enter options) = Unit {0}
CanBeAnswered (Pair options) = HasFewRounds options
CanBeAnswered (Boards options) = Unit {0}
CanBeAnswered (Candidates options) = Unit {0}
CanBeAnswered (Explain options) = Unit {0}
CanBeAnswered (Standings options) = Unit {0}
CanBeAnswered (SheetRequest options) = Unit {0}
