-- A number that is there already is written: where it stands is copied.
use Rattle.std.proofs.Common.{◌<◌, ◌∙◌, ℕ, List, ap, get_or, length, set, sym, subst}
use Rattle.std.proofs.lemmas.List.{get_or_default, length-map}
use Rattle.std.specs.Prelude.{slice_index}
use Rattle.dual.proofs.WideTableLemmas.{repeated}
use Rattle.dual.proofs.wide_table.WideTable.repeat.Goals as goal

pub returns : goal.returns
returns c =
    let indices : List ℕ = c.self.inside.indices.items in
    let lt : c.args.from < length indices =
    subst (λ (n : ℕ). c.args.from < n) (sym (ap length c.self.view_is) ∙ length-map indices (slice_index c.self.inside.distinct.numbers.items)) c.requires.from in
    repeated c.self.inside.distinct.numbers.items indices c.args.place c.args.from c.index.result.now c.self.invariant lt
    (c.index.ensures ∙ get_or_default indices c.args.from c.index.result.now 0 lt)
    ∙ ap (λ (told : List ℕ). set told c.args.place (get_or told c.args.from 0)) c.self.view_is
