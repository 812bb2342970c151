use Rattle.std.proofs.Common.{◌∙◌, ap, arith, length}
use Rattle.dutch_sequence.specs.Prelude.{first_hint, places_in}
use Rattle.dutch_sequence.proofs.TupleSearch.{transpositions-from, tuple-members, tuples-at}
use Rattle.dutch_sequence.proofs.transposition.Transpositions.start_from.Goals as goal

pub put_places-requires-clause-few : goal.put_places-requires-clause-few
put_places-requires-clause-few g c =
    let known = tuple-members (g.R.Rule.meets c.args.rule.now) c.args.meeting.now.first.now c.args.meeting.now.pool.now c.args.meeting.now.ascends (length c.args.meeting.now.first.now) c.args.meeting.now.pool.now c.args.tuple.now c.requires.given in
    omega (arith, known.0, c.args.meeting.now.few_first)

pub returns : goal.returns
returns g c =
    let hint = places_in c.args.meeting.now.pool.now c.args.tuple.now in
    record {
      coming = tuples-at (g.R.Rule.meets c.args.rule.now) _ c.args.meeting.now.first.now _ c.args.meeting.now.pool.now _ hint _ _ (first_hint hint) c.fill.ensures c.fill-2.ensures c.put_places.ensures c.restart.ensures.path
          (c.restart.ensures.number ∙ c.first_hint.ensures ∙ ap first_hint (c.deref.ensures.0 ∙ c.put_places.ensures))
          ∙ transpositions-from (g.R.Rule.meets c.args.rule.now) c.args.meeting.now.first.now c.args.meeting.now.pool.now c.args.meeting.now.ascends c.args.tuple.now c.requires.given;
    }
