-- What is kept more changes no place, and what is written changes one.
use Rattle.std.proofs.Common.{◌∙◌, List, ℕ, ap, set}
use Rattle.dual.proofs.WideTableLemmas.{inside_set, numbers_set, on_err, same_still}
use Rattle.dual.proofs.wide_table.WideTable.set.Goals as goal

pub returns-in_err-index-clause-refused : goal.returns-in_err-index-clause-refused
returns-in_err-index-clause-refused c =
    on_err c.from_residual.result _
    (same_still c.self.inside.distinct.numbers.items c.index_of.new.self.numbers.items c.self.inside.indices.items c.in_err-index.ensures.kept c.self.invariant
    ∙ c.self.view_is)

pub invariant_of-self-2 : goal.invariant_of-self-2
invariant_of-self-2 c =
    inside_set c.self.inside.distinct.numbers.items c.index_of.new.self.numbers.items c.self.inside.indices.items c.args.place c.in_ok-index.index c.args.number
    c.in_ok-index.ensures.kept c.self.invariant c.in_ok-index.ensures.value

pub returns-clause-written : goal.returns-clause-written
returns-clause-written c =
    numbers_set c.self.inside.distinct.numbers.items c.index_of.new.self.numbers.items c.self.inside.indices.items c.args.place c.in_ok-index.index c.args.number
    c.in_ok-index.ensures.kept c.self.invariant c.in_ok-index.ensures.value
    ∙ ap (λ (told : List ℕ). set told c.args.place c.args.number) c.self.view_is
