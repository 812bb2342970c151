-- The lines of what counts against the choice in a bracket, all items in their order (C.04.3 C.6 to C.19).
use Rattle.std.specs.Prelude.{ℕ, List}
use Rattle.std.specs.List.{flat_map}
use Rattle.dutch_bracket.specs.Prelude.{players_counted, who_counts, Quality, all_items, quality_in}
use Rattle.dutch_bracket.specs.declared.item.Item.{Item}
use Rattle.dutch_bracket.specs.declared.item.Item.TheVariants.{Psd, NextBracket, WideDifferences, ThirdColours, MissedPreferences, MissedStrong, DownAgain, UpAgain, DownAgainBefore, UpAgainBefore, DownAgainBy, UpAgainBy, DownAgainBeforeBy, UpAgainBeforeBy}
use Rattle.dutch_rounds.specs.Stage.{Stage}
use Rattle.round_lines.specs.ItemTexts.{count_text, list_text, next_text, psd_text}
use Rattle.round_lines.specs.Tellings.{TellingFacts}

module _ (telling : TellingFacts) (stage : Stage) where
  -- the quality of what is chosen in a bracket
  abbrev pub quality : Quality
  quality = quality_in stage.quality

  -- C.8 to C.15 of it
  unfoldable pub counted_text : Item → List ℕ
  counted_text item = count_text telling item (players_counted item quality) (who_counts telling.facts stage.reached stage.candidate item)

  -- what is told of an item
  abbrev pub item_text : Item → List ℕ
  item_text Psd = psd_text telling.wording Psd quality.psd
  item_text NextBracket = next_text telling.wording stage.reached.kind quality
  item_text WideDifferences = counted_text WideDifferences
  item_text ThirdColours = counted_text ThirdColours
  item_text MissedPreferences = counted_text MissedPreferences
  item_text MissedStrong = counted_text MissedStrong
  item_text DownAgain = counted_text DownAgain
  item_text UpAgain = counted_text UpAgain
  item_text DownAgainBefore = counted_text DownAgainBefore
  item_text UpAgainBefore = counted_text UpAgainBefore
  item_text DownAgainBy = list_text telling.wording DownAgainBy quality.down_again_by
  item_text UpAgainBy = list_text telling.wording UpAgainBy quality.up_again_by
  item_text DownAgainBeforeBy = list_text telling.wording DownAgainBeforeBy quality.down_again_before_by
  item_text UpAgainBeforeBy = list_text telling.wording UpAgainBeforeBy quality.up_again_before_by

  -- what counts against a choice: C.6 always, C.7 in an ordinary bracket, of C.8 to C.15 those that are not 0 with the players who count,
  -- of C.16 to C.19 those that are not empty [own]
  unfoldable pub items_text : List ℕ
  items_text = flat_map item_text all_items
