-- The first candidate that can be chosen is looked at, or all candidates are to come.
use Rattle.std.proofs.Common.{subst, sym}
use Rattle.dutch_choice.specs.declared.start.Start.{Start}
use Rattle.dutch_choice.specs.Prelude.{StandsAt, StandsBehindFirst}
use Rattle.dutch_choice.proofs.Listings.{listed_narrowed, sound_here}
use Rattle.dutch_passes.specs.Passes.{IsChosenNext, LooksThrough}
use Rattle.dutch_passes.proofs.BeginLemmas.{begun_anew, begun_behind, drawn_is_here}
use Rattle.dutch_passes.proofs.passes.begin.Given.{Over}
use Rattle.dutch_passes.proofs.passes.begin.Goals as goal
use Rattle.dutch_passes.proofs.passes.begin.Goals.{In-Drawn}

stands : (g : Over) (c : In-Drawn g) → let lister = c.args.search.now.lister.now in let shaped = c.args.pass.now.shaped in StandsBehindFirst shaped.context.now shaped.shape lister.listing lister.drawn
stands g c =
    let shaped = c.args.pass.now.shaped in
    subst (λ (s : Start). StandsAt shaped.context.now shaped.shape s c.args.search.now.lister.now) c.in-Drawn.is c.requires.lister.1

pub consider-requires-clause-candidate : goal.consider-requires-clause-candidate
consider-requires-clause-candidate g c =
    let shaped = c.args.pass.now.shaped in
    let lister = c.args.search.now.lister.now in
    drawn_is_here shaped.context.now shaped.shape lister.listing lister.drawn (stands g (goal.at.consider-requires-clause-candidate g c).In-Drawn)

pub returns-in_ok-consider-in-Drawn-clause-answer : goal.returns-in_ok-consider-in-Drawn-clause-answer
returns-in_ok-consider-in-Drawn-clause-answer g c =
    let lister = c.args.search.now.lister.now in
    begun_behind c.args.pass.now c.consider.new.state.incumbent lister.listing lister.drawn (stands g (goal.at.returns-in_ok-consider-in-Drawn-clause-answer g c).In-Drawn)
    c.consider.ensures.incumbent (subst (λ incumbent. IsChosenNext c.args.pass.now incumbent c.consider.new.state.incumbent lister.drawn.lists) c.clear.ensures c.in_ok-consider-in-Drawn.ensures.answer)

pub returns-in-Anew-clause-answer : goal.returns-in-Anew-clause-answer
returns-in-Anew-clause-answer g c =
    let pass = c.args.pass.now in
    let context = pass.shaped.context.now in
    let before = c.args.search.now.lister.now.listing in
    let lists = c.requires.lister.0 in
    subst (λ incumbent. LooksThrough pass incumbent c.restart.new.self) (sym c.clear.ensures) (begun_anew pass c.restart.new.self (sound_here context pass.wish before lists)
    (listed_narrowed context pass.wish before lists pass.shaped.shape c.restart.new.self.coming c.restart.ensures.coming) c.restart.ensures.shape)
