-- Each player is put behind the others, with a start rank that nobody has yet.
use Rattle.std.proofs.Common.{◌∙◌, ◌≤◌, ap, sym, subst, length, map, List}
use Rattle.std.proofs.lemmas.List.{length-map}
use Rattle.trf16_report.specs.Prelude.{Entry, Sheet, entry_of, new_start, renumbered, renumbered_entry}
use Rattle.trf16_report.specs.declared.limits.TheConstants.{MOST_PLAYERS}
use Rattle.trf16_writer.proofs.PlayersAlone.{ArePut, all_put, few_put, fresh_start, made_start, one_put}
use Rattle.trf16_writer.proofs.alone.players_alone.Goals as goal

pub enter-requires : goal.enter-requires
enter-requires c =
    let sheet = c.args.report.now in
    let one = entry_of c.in-Some.player.now in
    let rest = map entry_of c.next.new.self in
    made_start sheet c.loop-player.draft one rest (entry_of c.in_ok-renumbered.renumbered) c.requires.own
    (c.in_ok-renumbered.ensures ∙ ap (λ new. renumbered_entry new one) c.requires.new)
    (subst (ArePut sheet c.loop-player.draft) (ap (map entry_of) c.in-Some.ensures.steps) c.loop-player.invariant)

pub loop-player-preserved : goal.loop-player-preserved
loop-player-preserved c =
    let sheet = c.args.report.now in
    let one = entry_of c.in-Some.player.now in
    one_put sheet c.loop-player.draft c.enter.new.draft one (entry_of c.in_ok-renumbered.renumbered) (map entry_of c.next.new.self)
    (c.in_ok-renumbered.ensures ∙ ap (λ new. renumbered_entry new one) c.requires.new) c.in_ok-enter.ensures
    (subst (ArePut sheet c.loop-player.draft) (ap (map entry_of) c.in-Some.ensures.steps) c.loop-player.invariant)

pub returns-clause-few : goal.returns-clause-few
returns-clause-few c =
    few_put c.args.report.now c.loop-player.draft (map entry_of c.loop-player.player-iterator) (ap (map entry_of) c.in-None.ensures.steps.0) c.loop-player.invariant _
    (ap (λ (all : List Entry). length all) (sym c.players-player-items.ensures.players) ∙ length-map c.players-player-items.result entry_of)
    c.players-player-items.ensures.few

pub returns-clause-alone : goal.returns-clause-alone
returns-clause-alone c =
    all_put c.args.report.now c.loop-player.draft (map entry_of c.loop-player.player-iterator) (ap (map entry_of) c.in-None.ensures.steps.0) c.loop-player.invariant
