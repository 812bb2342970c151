use Rattle.trf16_laws.proofs.WrittenPlayers.{cell_size, cell_again}
use Rattle.trf16_laws.proofs.written.law_cells.Goals as goal

pub returns : goal.returns
returns c = record { size = cell_size; read = cell_again }
