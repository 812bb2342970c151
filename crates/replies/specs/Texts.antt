-- The texts that the program writes, apart from clap's and from why a report is refused.
use Rattle.std.specs.Prelude.{ℕ, List, ◌++◌, codes}
use Rattle.std.specs.Fmt.{decimal}
use Rattle.requests.specs.declared.options.WordFault.{WordFault}
use Rattle.requests.specs.declared.options.WordFault.TheVariants.{BadColour, BadKeys, BadCursor, NamesAndReport, InsteadAlone, ByAlone, BadEntry}
use Rattle.replies.specs.declared.question.QuestionFault.{QuestionFault}
use Rattle.replies.specs.declared.question.QuestionFault.TheVariants.{NotKnown, NamedTwice}

-- a call of the source failed
abbrev pub read_text : List ℕ
read_text = codes "device: read failed\n"

-- a call of standard output failed
abbrev pub write_text : List ℕ
write_text = codes "device: write failed\n"

-- what is wrong with words that clap lets pass [own]
abbrev pub word_text : WordFault → List ℕ
word_text BadColour = codes "words: bad colour\n"
word_text BadKeys = codes "words: bad keys\n"
word_text BadCursor = codes "words: bad cursor\n"
word_text NamesAndReport = codes "words: names or report, not both\n"
word_text InsteadAlone = codes "words: instead wants a player\n"
word_text ByAlone = codes "words: by wants ranks\n"
word_text (BadEntry place) = codes "words: bad entry " ++ (decimal place ++ codes "\n")

-- what is wrong with the players whom a question names [with word_text]
abbrev pub question_text : QuestionFault → List ℕ
question_text (NotKnown player) = codes "words: player " ++ (decimal player ++ codes " is not known\n")
question_text (NamedTwice player) = codes "words: player " ++ (decimal player ++ codes " is named twice\n")

-- a report is accepted: how many players it has, and how many rounds were paired
abbrev pub accepted_text : ℕ → ℕ → List ℕ
accepted_text players rounds = codes "accepted players " ++ (decimal players ++ (codes " rounds " ++ (decimal rounds ++ codes "\n")))

-- the round ends before a bracket [with word_text]
abbrev pub not_reached_text : ℕ → List ℕ
not_reached_text number = codes "words: bracket " ++ (decimal number ++ codes " is not reached\n")

-- a report does not reach a round [with word_text]
abbrev pub round_not_reached_text : ℕ → List ℕ
round_not_reached_text round = codes "words: round " ++ (decimal round ++ codes " is not reached\n")

-- a cursor is not one of a bracket [with word_text]
abbrev pub not_of_bracket_text : ℕ → List ℕ
not_of_bracket_text number = codes "words: cursor is not of bracket " ++ (decimal number ++ codes "\n")
