-- What is written is the article and what is compared.
use Rattle.round_lines.proofs.value_texts.put_worse.Goals as goal

pub returns : goal.returns
returns c = rw (c.words_of.ensures.article, c.compared_words-meaning.ensures) at c.write.ensures
