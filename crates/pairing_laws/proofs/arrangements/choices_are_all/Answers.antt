use Rattle.std.proofs.Common.{length}
use Rattle.dutch_arrangements.specs.Prelude.{tuples, subsets, all_meet, numbers_from, sorted, lower_first, exchange_cmp, limbo_cmp}
use Rattle.dutch_sequence.proofs.Orders.{IsIn-filter, filter-IsIn}
use Rattle.dutch_sequence.proofs.Sets.{sorted-in, in-sorted}
use Rattle.pairing_laws.proofs.arrangements.choices_are_all.Goals as goal

pub returns-clause-tuples : goal.returns-clause-tuples
returns-clause-tuples c = λ pool k tuple. (sorted-in lower_first tuple (tuples pool k), in-sorted lower_first tuple (tuples pool k))

pub returns-clause-transpositions : goal.returns-clause-transpositions
returns-clause-transpositions c =
    λ meets first pool tuple. (
      (λ m. let found = IsIn-filter (all_meet meets first) tuple (sorted lower_first (tuples pool (length first))) m in
          (sorted-in lower_first tuple (tuples pool (length first)) found.0, found.1)),
      (λ m. filter-IsIn (all_meet meets first) tuple (sorted lower_first (tuples pool (length first))) (in-sorted lower_first tuple (tuples pool (length first)) m.0) m.1),
    )

pub returns-clause-exchanges : goal.returns-clause-exchanges
returns-clause-exchanges c =
    λ pool k set. (sorted-in (exchange_cmp pool k) set (subsets pool k), in-sorted (exchange_cmp pool k) set (subsets pool k))

pub returns-clause-limbo_exchanges : goal.returns-clause-limbo_exchanges
returns-clause-limbo_exchanges c =
    λ scores k set.
    (sorted-in (limbo_cmp scores) set (subsets (numbers_from 1 (length scores)) k), in-sorted (limbo_cmp scores) set (subsets (numbers_from 1 (length scores)) k))
