use Rattle.std.proofs.Common.{◌<◌, ◌-◌, ◌++◌, ◌∙◌, ap, sym, subst, arith, length}
use Rattle.std.specs.List.{AllByRecursion}
use Rattle.std.proofs.lemmas.List.{length-map}
use Rattle.dutch_sequence.specs.Prelude.{first_hint, places_of, leaders, limbo_path}
use Rattle.dutch_sequence.proofs.LimboSets.{set-places, limbo-from, limbo-at, leaders-length, climbs-within}
use Rattle.dutch_sequence.proofs.limbo.LimboExchanges.start_from.Goals as goal

pub places_of-places-requires : goal.places_of-places-requires
places_of-places-requires c =
    let known = set-places c.args.scores.now c.args.k c.requires.descends (λ i. omega (arith, c.type_inv.scores i)) c.args.set.now c.requires.given in
    record { few = omega (arith, known.1, length-map c.args.set.now (λ number. number - 1), c.requires.few, c.requires.enough) }

pub leaders-self-inside-requires-clause-within : goal.leaders-self-inside-requires-clause-within
leaders-self-inside-requires-clause-within c =
    let known = set-places c.args.scores.now c.args.k c.requires.descends (λ i. omega (arith, c.type_inv.scores i)) c.args.set.now c.requires.given in
    subst (AllByRecursion (λ place. place < length c.args.scores.now)) (sym (c.deref.ensures.0 ∙ c.places_of-places.ensures))
    (climbs-within 0 (length c.args.scores.now) (places_of c.args.set.now) known.0)

pub leaders-self-inside-requires-clause-few : goal.leaders-self-inside-requires-clause-few
leaders-self-inside-requires-clause-few c =
    let known = set-places c.args.scores.now c.args.k c.requires.descends (λ i. omega (arith, c.type_inv.scores i)) c.args.set.now c.requires.given in
    omega (arith, ap length (c.deref.ensures.0 ∙ c.places_of-places.ensures), known.1, c.requires.few, c.requires.enough)

pub put_behind-requires : goal.put_behind-requires
put_behind-requires c =
    let known = set-places c.args.scores.now c.args.k c.requires.descends (λ i. omega (arith, c.type_inv.scores i)) c.args.set.now c.requires.given in
    let behind = ap length (c.deref-2.ensures.0 ∙ c.places_of-places.ensures) in
    let front = ap length (c.leaders-self-inside.ensures ∙ ap (leaders c.args.scores.now 0) (c.deref.ensures.0 ∙ c.places_of-places.ensures)) in
    record { room = omega (arith, behind, front, leaders-length c.args.scores.now 0 (places_of c.args.set.now), known.1, c.requires.few, c.requires.enough) }

pub returns : goal.returns
returns c =
    let hint = limbo_path c.args.scores.now c.args.set.now in
    let is =
    c.put_behind.ensures
    ∙ ap (λ front. front ++ c.deref-2.result.now) (c.leaders-self-inside.ensures ∙ ap (leaders c.args.scores.now 0) (c.deref.ensures.0 ∙ c.places_of-places.ensures))
    ∙ ap (λ back. leaders c.args.scores.now 0 (places_of c.args.set.now) ++ back) (c.deref-2.ensures.0 ∙ c.places_of-places.ensures) in
    record {
      coming = limbo-at _ c.args.scores.now c.args.k _ hint _ _ (first_hint hint) c.fill.ensures is c.restart.ensures.path
          (c.restart.ensures.number ∙ c.first_hint.ensures ∙ ap first_hint (c.deref-3.ensures.0 ∙ is))
          ∙ limbo-from c.args.scores.now c.args.k c.requires.descends (λ i. omega (arith, c.type_inv.scores i)) c.args.set.now c.requires.given;
    }
