-- At each place stands the one number that is kept.
use Rattle.std.proofs.Common.{◌∙◌}
use Rattle.dual.proofs.WideTableLemmas.{all_zero}
use Rattle.dual.proofs.wide_table.WideTable.zeros.Goals as goal

pub returns-clause-zeros : goal.returns-clause-zeros
returns-clause-zeros c =
    all_zero c.index_of.new.self.numbers.items c.in_ok-indices.indices.items c.in_ok-zero.zero c.args.count
    (c.in_ok-indices.ensures.items_if_clones_equal (λ y same. same)) (c.in_ok-zero.ensures.value.1 ∙ c.zero.ensures)
