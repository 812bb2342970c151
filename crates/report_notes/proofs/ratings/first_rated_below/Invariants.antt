use Rattle.std.proofs.Common.{◌≡◌, filter, map, min}
use Rattle.std.specs.List.{cons_option, reduce}
use Rattle.trf16_report.specs.Prelude.{entry_of}
use Rattle.report_notes.specs.Ratings.{first_rated_below, is_rated_below}
use Rattle.report_notes.proofs.ratings.first_rated_below.Given as goal

abbrev pub invariant-loop-player : goal.invariant-loop-player
invariant-loop-player l =
    reduce min (cons_option l.first (map (λ entry. entry.start) (filter (is_rated_below l.report.utf8 l.start l.rating) (map entry_of l.player-iterator))))
    ≡ first_rated_below l.report l.start l.rating
