-- The line of an item that counts against a choice in a bracket, and its sentence (C.04.3 C.6 to C.19).
use Rattle.std.specs.Prelude.{ℕ, ◌==◌, if◌then◌else◌, List, [], ◌∷◌, ◌++◌, codes}
use Rattle.std.specs.List.{flat_map}
use Rattle.std.specs.Fmt.{decimal}
use Rattle.dutch_player.specs.Prelude.{Facts}
use Rattle.dutch_bracket.specs.Prelude.{Quality}
use Rattle.dutch_bracket.specs.declared.item.Item.{Item}
use Rattle.dutch_bracket.specs.declared.item.Item.TheVariants.{Psd, NextBracket, WideDifferences, ThirdColours, MissedPreferences, MissedStrong, DownAgain, UpAgain, DownAgainBefore, UpAgainBefore, DownAgainBy, UpAgainBy, DownAgainBeforeBy, UpAgainBeforeBy}
use Rattle.dutch_bracket.specs.declared.reached.BracketKind.{BracketKind}
use Rattle.dutch_bracket.specs.declared.reached.BracketKind.TheVariants.{Ordinary, Last, Penultimate, Collapsed}
use Rattle.requests.specs.declared.options.Wording.{Wording}
use Rattle.requests.specs.declared.options.Wording.TheVariants.{Words}
use Rattle.round_lines.specs.CandidateTexts.{rank_text}
use Rattle.round_lines.specs.Tellings.{TellingFacts, in_wording, seats_words}
use Rattle.common_texts.specs.Prelude.{halves_text}

-- the words of an item: its article, what it tells of a choice, and what it compares in two qualities [with item_words]
pub record ItemWords : Type 0 where
  pub article : List ℕ
  pub said : List ℕ
  pub meaning : List ℕ

-- C.6 to C.19 in words: the article of each item, what it tells of a choice, and what it compares in two qualities [own]
abbrev pub item_words : Item → ItemWords
item_words Psd = record { article = codes "C.6"; said = codes "Score differences"; meaning = codes "score differences" }
item_words NextBracket = record { article = codes "C.7"; said = codes "Pairs that the next bracket can make"; meaning = codes "pairs in the next bracket" }
item_words WideDifferences = record { article = codes "C.8"; said = codes "Get a colour difference over 2, in a pair with a topscorer"; meaning = codes "colour differences of topscorers' pairs" }
item_words ThirdColours = record { article = codes "C.9"; said = codes "Get one colour three times in a row, in a pair with a topscorer"; meaning = codes "colours three times in topscorers' pairs" }
item_words MissedPreferences = record { article = codes "C.10"; said = codes "Do not get the colour they prefer"; meaning = codes "colours preferred and not given" }
item_words MissedStrong = record { article = codes "C.11"; said = codes "Do not get the colour they strongly prefer"; meaning = codes "colours strongly preferred and not given" }
item_words DownAgain = record { article = codes "C.12"; said = codes "Go down, as in the last round"; meaning = codes "players who go down again" }
item_words UpAgain = record { article = codes "C.13"; said = codes "Go up, as in the last round"; meaning = codes "players who go up again" }
item_words DownAgainBefore = record { article = codes "C.14"; said = codes "Go down, as two rounds ago"; meaning = codes "players who go down again" }
item_words UpAgainBefore = record { article = codes "C.15"; said = codes "Go up, as two rounds ago"; meaning = codes "players who go up again" }
item_words DownAgainBy = record { article = codes "C.16"; said = codes "Score differences of those of C.12"; meaning = codes "score differences of those players" }
item_words UpAgainBy = record { article = codes "C.17"; said = codes "Score differences of those of C.13"; meaning = codes "score differences of those players" }
item_words DownAgainBeforeBy = record { article = codes "C.18"; said = codes "Score differences of those of C.14"; meaning = codes "score differences of those players" }
item_words UpAgainBeforeBy = record { article = codes "C.19"; said = codes "Score differences of those of C.15"; meaning = codes "score differences of those players" }

-- the article of an item, at the end of its sentence
abbrev pub closing_words : Item → List ℕ
closing_words item = codes " (" ++ ((item_words item).article ++ codes ").\n")

-- the sentence of an item: what it tells, of whom or what, and its article [with item_words]
abbrev pub item_sentence : Item → List ℕ → List ℕ
item_sentence item what = (item_words item).said ++ (codes ": " ++ (what ++ closing_words item))

-- ---- lists of differences

-- what parts differences in a list of them: a comma, and in a sentence a blank too
abbrev pub mark_text : Wording → List ℕ
mark_text wording = in_wording wording (codes ",") (codes ", ")

-- what stands for no difference
abbrev pub none_text : Wording → List ℕ
none_text wording = in_wording wording (codes "-") (codes "none")

-- differences as points, with commas between them
abbrev pub points_text : Wording → List ℕ → List ℕ
points_text wording [] = none_text wording
points_text wording (halves ∷ others) = halves_text halves ++ flat_map (λ more. mark_text wording ++ halves_text more) others

-- differences as points, each behind a blank; a dash for none
abbrev pub differences_text : List ℕ → List ℕ
differences_text [] = codes " -"
differences_text (first ∷ rest) = flat_map (λ halves. codes " " ++ halves_text halves) (first ∷ rest)

-- differences behind the article of their item
abbrev pub psd_line : Item → List ℕ → List ℕ
psd_line item differences = (item_words item).article ++ (differences_text differences ++ codes "\n")

-- the same in a sentence
abbrev pub psd_words : Item → List ℕ → List ℕ
psd_words item differences = item_sentence item (points_text Words differences)

-- what is told of C.6, in a line or in a sentence [own]
abbrev pub psd_text : Wording → Item → List ℕ → List ℕ
psd_text wording item differences = in_wording wording (psd_line item differences) (psd_words item differences)

-- what is told so of C.16 to C.19, where there are some differences [with psd_text]
abbrev pub list_text : Wording → Item → List ℕ → List ℕ
list_text wording item [] = []
list_text wording item (first ∷ rest) = psd_text wording item (first ∷ rest)

-- ---- the next bracket

-- the pairs of the next bracket and its PSD
abbrev pub next_line : Quality → List ℕ
next_line quality = (item_words NextBracket).article ++ (codes " " ++ (decimal quality.next_pairs ++ (differences_text quality.next_psd ++ codes "\n")))

-- the same in a sentence
unfoldable pub next_words : Quality → List ℕ
next_words quality =
    (item_words NextBracket).said ++ (codes ": " ++ (decimal quality.next_pairs
    ++ (codes ". Score differences there: " ++ (points_text Words quality.next_psd ++ closing_words NextBracket))))

-- what is told of C.7, in an ordinary bracket alone: the pairs of the next bracket and its PSD [with psd_text]
abbrev pub next_text : Wording → BracketKind → Quality → List ℕ
next_text wording Ordinary quality = in_wording wording (next_line quality) (next_words quality)
next_text wording Last quality = []
next_text wording Penultimate quality = []
next_text wording Collapsed quality = []

-- ---- players who count

-- how many players one of C.8 to C.15 counts, and who, by rank
unfoldable pub who_line : Facts → Item → ℕ → List ℕ → List ℕ
who_line facts item count who =
    (item_words item).article ++ (codes " " ++ (decimal count ++ (codes " players" ++ (flat_map (λ seat. codes " " ++ rank_text facts seat) who ++ codes "\n"))))

-- the same in a sentence, who alone
unfoldable pub who_words : TellingFacts → Item → List ℕ → List ℕ
who_words telling item who = item_sentence item (seats_words telling who)

-- what is told of C.8 to C.15: how many count and who, and in a sentence only who [with psd_text]
abbrev pub who_text : TellingFacts → Item → ℕ → List ℕ → List ℕ
who_text telling item count who = in_wording telling.wording (who_line telling.facts item count who) (who_words telling item who)

-- the same where somebody counts, and else nothing
abbrev pub count_text : TellingFacts → Item → ℕ → List ℕ → List ℕ
count_text telling item count who = if count == 0 then [] else who_text telling item count who
