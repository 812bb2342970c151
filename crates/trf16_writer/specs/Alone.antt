-- The players of a report alone.
use Rattle.std.specs.Prelude.{[], None}
use Rattle.trf16_report.specs.Sheet.{Sheet}

-- the report that has the players of another one and none of its other lines: neither a total of rounds nor an initial colour is named [own]
abbrev pub players_alone : Sheet → Sheet
players_alone sheet = record sheet { carried = []; total = None; initial = None }
