use Rattle.report_laws.proofs.NewMap.{is_map}
use Rattle.trf16_report.specs.Prelude.{new_start}
use Rattle.report_laws.proofs.UnderMap.{cell_kept, points_kept, absent_kept, apart_kept, name_kept, rating_kept}
use Rattle.report_laws.proofs.renumbered.players_are_kept.Goals as goal

pub returns : goal.returns
returns c = record {
  cells = λ sheet start round few is. cell_kept sheet (new_start sheet) (is_map sheet few) start round is;
  points = λ sheet start upto few is. points_kept sheet (new_start sheet) (is_map sheet few) start upto is;
  absent = λ sheet start few is. absent_kept sheet (new_start sheet) (is_map sheet few) start is;
  apart = λ sheet a b few is is'. apart_kept sheet (new_start sheet) (is_map sheet few) a b is is';
  name = λ sheet start few is. name_kept sheet (new_start sheet) (is_map sheet few) start is;
  rating = λ sheet start few is. rating_kept sheet (new_start sheet) (is_map sheet few) start is;
}
