use Rattle.std.proofs.Common.{refl, [], ◌∷◌}
use Rattle.trf16_report.specs.Prelude.{entry_of, blanks_at, start_at, points_at, cells_at, player_at}
use Rattle.trf16_report.proofs.ReadingLemmas.{exits}
use Rattle.trf16_reader.proofs.reading.player_at.Goals as goal

pub returns-in_err-start-clause-given : goal.returns-in_err-start-clause-given
unfolding player_at
returns-in_err-start-clause-given c =
    exits entry_of _ _ (start_at c.args.draft.now c.args.n c.args.line.now) _ c.from_residual-in_err-start.ensures.1 c.in_err-start.ensures.given
    (λ fault e. rw (c.in_ok-blank_at.ensures, e) refl)

pub returns-in_err-points-clause-given : goal.returns-in_err-points-clause-given
unfolding player_at
returns-in_err-points-clause-given c =
    exits entry_of _ _ (points_at c.args.n c.args.line.now) _ c.from_residual-in_err-points.ensures.1 c.in_err-points.ensures
    (λ fault e. rw (c.in_ok-blank_at.ensures, c.in_ok-start.ensures.given, e) refl)

pub returns-in_err-blanks_at-clause-given : goal.returns-in_err-blanks_at-clause-given
unfolding player_at
returns-in_err-blanks_at-clause-given c =
    exits entry_of _ _ (blanks_at c.args.n c.args.line.now (90 ∷ 91 ∷ [])) _ c.from_residual-in_err-blanks_at.ensures.1 c.in_err-blanks_at.ensures
    (λ fault e. rw (c.in_ok-blank_at.ensures, c.in_ok-start.ensures.given, c.in_ok-points.ensures, e) refl)

pub returns-in_err-cells-clause-given : goal.returns-in_err-cells-clause-given
unfolding player_at
returns-in_err-cells-clause-given c =
    exits entry_of _ _ (cells_at c.args.n c.args.line.now) _ c.from_residual-in_err-cells.ensures.1 c.in_err-cells.ensures.given
    (λ fault e. rw (c.in_ok-blank_at.ensures, c.in_ok-start.ensures.given, c.in_ok-points.ensures, c.in_ok-blanks_at.ensures, e) refl)
