use Rattle.std.proofs.Common.{ℕ, List, sym, ◌∙◌, length, subst, ◌≡◌}
use Rattle.dutch_arrangements.specs.Prelude.{tuples, subsets, all_meet, numbers_from, exchange_cmp, exchanges, sum_of, IsIn, lower_first, limbo_cmp, limbo_exchanges, all_tuples, transpositions}
use Rattle.dutch_sequence.proofs.ByKeys.{Ascends, exchange_key, limbo_key_in}
use Rattle.dutch_sequence.proofs.Comparing.{ascends-in, exchange_cmp-is, limbo_cmp-is, lower_first-is, under_sum}
use Rattle.dutch_sequence.proofs.LimboSets.{limbo_key-apart}
use Rattle.dutch_sequence.proofs.Orders.{Ascends-filter, Rises-from, sorted-ascending}
use Rattle.dutch_sequence.proofs.Sets.{subsets-climb, subsets-ascend, sorted-ascends, sorted-in}
use Rattle.dutch_sequence.proofs.StageSets.{exchange_key-apart, pool-ascend}
use Rattle.dutch_sequence.proofs.TupleSearch.{tuples-ascend}
use Rattle.pairing_laws.proofs.arrangements.choices_ascend.Goals as goal

pub returns-clause-tuples : goal.returns-clause-tuples
returns-clause-tuples c =
    λ pool k rises.
    ascends-in (λ tuple. tuple) lower_first (all_tuples pool k) (λ x y m n. lower_first-is x y)
    (subst (Ascends (λ tuple. tuple)) (sym (sorted-ascending (λ tuple. tuple) lower_first (tuples pool k) (λ x y m n. lower_first-is x y) (tuples-ascend k pool (Rises-from pool rises))))
    (tuples-ascend k pool (Rises-from pool rises)))

pub returns-clause-transpositions : goal.returns-clause-transpositions
returns-clause-transpositions c =
    λ meets first pool rises.
    ascends-in (λ tuple. tuple) lower_first (transpositions meets first pool) (λ x y m n. lower_first-is x y)
    (Ascends-filter (λ tuple. tuple) (all_meet meets first) (all_tuples pool (length first))
    (subst (Ascends (λ tuple. tuple))
    (sym (sorted-ascending (λ tuple. tuple) lower_first (tuples pool (length first)) (λ x y m n. lower_first-is x y) (tuples-ascend (length first) pool (Rises-from pool rises))))
    (tuples-ascend (length first) pool (Rises-from pool rises))))

pub returns-clause-exchanges : goal.returns-clause-exchanges
returns-clause-exchanges c =
    λ pool k rises enough.
    ascends-in (exchange_key pool k) (exchange_cmp pool k) (exchanges pool k) (λ x y m n. exchange_cmp-is pool k x y)
    (sorted-ascends (exchange_key pool k) (exchange_cmp pool k) (subsets pool k) (λ x y m n. exchange_cmp-is pool k x y)
    (pool-ascend pool k rises enough) (exchange_key-apart pool k rises enough))

same_length : (scores : List ℕ) (k : ℕ) (a b : List ℕ) → IsIn a (subsets (numbers_from 1 (length scores)) k) → IsIn b (subsets (numbers_from 1 (length scores)) k) → length a ≡ length b
same_length scores k a b m n = (subsets-climb 1 (length scores) k a m).1 ∙ sym (subsets-climb 1 (length scores) k b n).1

pub returns-clause-limbo_exchanges : goal.returns-clause-limbo_exchanges
returns-clause-limbo_exchanges c =
    λ scores k.
    let sets : List (List ℕ) = subsets (numbers_from 1 (length scores)) k in
    let key : List ℕ → List ℕ = limbo_key_in (sum_of scores) scores in
    ascends-in key (limbo_cmp scores) (limbo_exchanges scores k)
    (λ x y m n. limbo_cmp-is (sum_of scores) scores (under_sum scores) x y (same_length scores k x y (sorted-in (limbo_cmp scores) x sets m) (sorted-in (limbo_cmp scores) y sets n)))
    (sorted-ascends key (limbo_cmp scores) sets (λ x y m n. limbo_cmp-is (sum_of scores) scores (under_sum scores) x y (same_length scores k x y m n))
    (subsets-ascend 1 (length scores) k)
    (λ x y m n same. limbo_key-apart (sum_of scores) scores x y (same_length scores k x y m n) same))
