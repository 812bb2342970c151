-- The values of a quality's items as texts, beside those of another one (C.04.3 C.6 to C.19).
use Rattle.std.specs.Prelude.{ℕ, ◌==◌, if◌then◌else◌, List, ◌++◌, Option, Some, None, codes}
use Rattle.std.specs.Fmt.{decimal}
use Rattle.dutch_arrangements.specs.Prelude.{Arrangement, cursor_text}
use Rattle.dutch_bracket.specs.Prelude.{Quality, first_difference}
use Rattle.dutch_bracket.specs.declared.item.Item.{Item}
use Rattle.dutch_bracket.specs.declared.item.Item.TheVariants.{Psd, NextBracket, WideDifferences, ThirdColours, MissedPreferences, MissedStrong, DownAgain, UpAgain, DownAgainBefore, UpAgainBefore, DownAgainBy, UpAgainBy, DownAgainBeforeBy, UpAgainBeforeBy}
use Rattle.requests.specs.declared.options.Wording.{Wording}
use Rattle.requests.specs.declared.options.Wording.TheVariants.{Plain, Words}
use Rattle.round_lines.specs.ItemTexts.{item_words, points_text}
use Rattle.round_lines.specs.Tellings.{in_wording}

-- C.7: the pairs of the next bracket; where the other quality has as many, its PSD
abbrev pub next_value : Wording → Quality → Quality → List ℕ
next_value wording mine theirs = if mine.next_pairs == theirs.next_pairs then points_text wording mine.next_psd else decimal mine.next_pairs

-- the value of an item in a quality, beside another one [own]
abbrev pub value_text : Wording → Item → Quality → Quality → List ℕ
value_text wording Psd mine theirs = points_text wording mine.psd
value_text wording NextBracket mine theirs = next_value wording mine theirs
value_text wording WideDifferences mine theirs = decimal mine.wide_differences
value_text wording ThirdColours mine theirs = decimal mine.third_colours
value_text wording MissedPreferences mine theirs = decimal mine.missed_preferences
value_text wording MissedStrong mine theirs = decimal mine.missed_strong
value_text wording DownAgain mine theirs = decimal mine.down_again
value_text wording UpAgain mine theirs = decimal mine.up_again
value_text wording DownAgainBefore mine theirs = decimal mine.down_again_before
value_text wording UpAgainBefore mine theirs = decimal mine.up_again_before
value_text wording DownAgainBy mine theirs = points_text wording mine.down_again_by
value_text wording UpAgainBy mine theirs = points_text wording mine.up_again_by
value_text wording DownAgainBeforeBy mine theirs = points_text wording mine.down_again_before_by
value_text wording UpAgainBeforeBy mine theirs = points_text wording mine.up_again_before_by

-- ---- what is compared, in words

-- what an item compares in two qualities; of C.7 the PSD of the next bracket, where both have as many pairs there
abbrev pub compared_words : Item → Quality → Quality → List ℕ
compared_words NextBracket mine theirs =
    if mine.next_pairs == theirs.next_pairs then codes "score differences in the next bracket" else (item_words NextBracket).meaning
compared_words item mine theirs = (item_words item).meaning

-- ---- a candidate beside the chosen one

-- how a quality stands to the chosen one: the first item in which they differ, and its value in both; or equal, and so behind
abbrev pub against_line : Quality → Quality → Option Item → List ℕ
against_line mine chosen (Some item) =
    codes " " ++ ((item_words item).article ++ (codes " " ++ (value_text Plain item mine chosen ++ (codes " " ++ value_text Plain item chosen mine))))
against_line mine chosen None = codes " behind"

-- the item in which a quality is worse, and what it compares
abbrev pub worse_words : Item → Quality → Quality → List ℕ
worse_words item mine chosen = codes "is worse at " ++ ((item_words item).article ++ (codes " (" ++ (compared_words item mine chosen ++ codes "): ")))

-- the same in a sentence, with what the item compares
abbrev pub against_words : Quality → Quality → Option Item → List ℕ
against_words mine chosen (Some item) =
    worse_words item mine chosen ++ (value_text Words item mine chosen ++ (codes ", where the chosen one has " ++ (value_text Words item chosen mine ++ codes ".")))
against_words mine chosen None = codes "is as good, and stands behind the chosen one in the order of article D."

-- how a candidate stands to the chosen one: the first item in which they differ, and its value in both, or that it is as good and stands
-- behind [own]
abbrev pub candidate_text : Wording → Arrangement → Quality → Quality → List ℕ
candidate_text wording lists mine chosen =
    in_wording wording (cursor_text lists ++ against_line mine chosen (first_difference mine chosen)) (against_words mine chosen (first_difference mine chosen))
