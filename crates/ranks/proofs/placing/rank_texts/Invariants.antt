use Rattle.std.proofs.Common.{◌≡◌, ◌++◌, map}
use Rattle.trf16_report.specs.Prelude.{entry_of}
use Rattle.ranks.specs.Prelude.{place_in, rank_text}
use Rattle.ranks.proofs.placing.rank_texts.Given as goal

abbrev pub invariant-loop-player : goal.invariant-loop-player
invariant-loop-player l =
    map (λ text. text.items) l.texts.items ++ map (λ entry. rank_text (place_in l.rows entry.start)) (map entry_of l.player-iterator)
    ≡ map (λ entry. rank_text (place_in l.rows entry.start)) l.report.players
