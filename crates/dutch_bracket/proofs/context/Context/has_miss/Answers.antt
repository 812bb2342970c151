-- One of a pair misses where both want one colour.
use Rattle.std.proofs.Common.{ℕ, ◌∙◌, ap, sym, Option}
use Rattle.dutch_bracket.specs.Prelude.{one_if, Context, collide}
use Rattle.dutch_player.specs.Prelude.{seat_at, preference}
use Rattle.dutch_player.specs.declared.preference.Pref.{Pref}
use Rattle.dutch_bracket.proofs.PairMisses.{pair_misses}
use Rattle.dutch_bracket.proofs.context.Context.has_miss.Goals as goal

pub returns : goal.returns
returns c =
    let wish : ℕ → Context → Option Pref = λ seat k. preference (seat_at k.facts seat).played in
    pair_misses c.args.self.now.facts c.args.pair.0 c.args.pair.1
    ∙ ap one_if (sym (c.collide.ensures ∙ ap (λ p. collide p c.preference-2.result) (c.preference.ensures ∙ ap (wish c.args.pair.0) c.self.view_is)
    ∙ ap (collide _) (c.preference-2.ensures ∙ ap (wish c.args.pair.1) c.self.view_is)))
