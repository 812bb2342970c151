-- The pieces are the pairs and the PSD of the next bracket.
use Rattle.round_lines.specs.ItemTexts.{next_words}
use Rattle.round_lines.proofs.item_texts.put_next_bracket.Goals as goal

pub returns : goal.returns
unfolding next_words
returns c = rw (c.words_of-item_words.ensures.article, c.words_of-item_words.ensures.said, c.next_pairs.ensures, c.next_psd-psd.ensures) at c.say.ensures
