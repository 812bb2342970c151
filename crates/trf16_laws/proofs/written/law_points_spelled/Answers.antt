use Rattle.trf16_laws.proofs.PointForms.{points_spelled, spelled_points}
use Rattle.trf16_laws.proofs.written.law_points_spelled.Goals as goal

pub returns : goal.returns
returns c = λ word points. (points_spelled word points, spelled_points word points)
