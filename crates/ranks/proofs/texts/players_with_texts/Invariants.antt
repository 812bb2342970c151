use Rattle.std.proofs.Common.{map}
use Rattle.trf16_report.specs.Prelude.{entry_of}
use Rattle.ranks.proofs.TextLemmas.{AreWith}
use Rattle.ranks.proofs.texts.players_with_texts.Given as goal

abbrev pub invariant-loop-player : goal.invariant-loop-player
invariant-loop-player l =
    AreWith l.players.entries (map entry_of l.player-iterator) (map (λ text. text.items) l.rest) l.report.players (map (λ text. text.items) l.texts)
