use Rattle.trf16_laws.proofs.Characters.{columns-chars, columns-each_byte}
use Rattle.trf16_laws.proofs.written.law_columns.Goals as goal

pub returns : goal.returns
returns c = record { characters = columns-chars; bytes = columns-each_byte }
