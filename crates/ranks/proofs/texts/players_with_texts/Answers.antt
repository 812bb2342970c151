-- Each player is put behind the others, with their text.
use Rattle.std.proofs.Common.{◌∙◌, ℕ, List, ap, map}
use Rattle.std.proofs.lemmas.List.{length-map}
use Rattle.trf16_report.specs.Prelude.{Entry, entry_of}
use Rattle.ranks.proofs.TextLemmas.{with_none, with_one}
use Rattle.ranks.proofs.texts.players_with_texts.Goals as goal

pub loop-player-init : goal.loop-player-init
loop-player-init c =
    with_none c.in_ok-players.players.entries (map entry_of c.into_iter-player-iterator.result) c.args.report.now.players
    (map (λ text. text.items) c.args.texts.now) c.in_ok-players.ensures.empty
    (ap (map entry_of) c.into_iter-player-iterator.ensures.into_iter_gives ∙ c.players-player-items.ensures.players)
    (length-map c.args.texts.now (λ text. text.items) ∙ c.requires)

pub loop-player-preserved : goal.loop-player-preserved
loop-player-preserved c =
    let one : Entry = entry_of c.in-Some.player.now in
    with_one c.loop-player.players one (map entry_of c.loop-player.player-iterator) (map entry_of c.next.new.self)
    c.in-Some-split_first.text.now.items (map (λ text. text.items) c.loop-player.rest.now) (map (λ text. text.items) c.in-Some-split_first.others.now)
    c.args.report.now.players (map (λ text. text.items) c.args.texts.now) c.in_ok-player_with_text.field-0 c.insert.new.self.entries
    (ap (map entry_of) c.in-Some.ensures.steps) (ap (map (λ text. text.items)) c.in-Some-split_first.ensures.cases.0) c.loop-player.invariant
    (c.in_ok-player_with_text.ensures ∙ ap (λ (text : List ℕ). let made : Entry = record one { right = text } in made) c.as_slice.ensures.value)
    c.in_ok-insert.ensures.entries c.count.ensures.own
