-- What the partners of a matching of a bracket's graph are to the bracket (C.04.3 B.1 to B.3): its pairs, and those in none.
use Rattle.std.specs.Prelude.{ℕ, ◌+◌, ◌-◌, Bool, not, ◌||◌, ◌==◌, ◌++◌, nat_lt, if◌then◌else◌, List, filter, length, map, Option, Some, None}
use Rattle.std.specs.List.{slice_get}
use Rattle.dutch_arrangements.specs.declared.bracket.Shape.{Shape}
use Rattle.dutch_arrangements.specs.Prelude.{leaves_one, numbers_from}
use Rattle.dutch_bracket.specs.Prelude.{Context, completable, ends_round, is_penultimate, number_may_be_left, seat_of}
use Rattle.dutch_choice.specs.ShapeCosts.{are_pair}

-- the mate of a number by a list of partners: whoever is in no pair of the bracket is their own mate
abbrev pub mate_at : Context → ℕ → Option (Option ℕ) → ℕ
mate_at context a None = a
mate_at context a (Some None) = a
mate_at context a (Some (Some b)) = if are_pair context a b then b else a

-- the mate of a number: its partner, if the two are a pair of the bracket
abbrev pub mate_of : Context → List (Option ℕ) → ℕ → ℕ
mate_of context partners a = mate_at context a (slice_get partners a)

-- a number has a mate
abbrev pub has_mate : Context → List (Option ℕ) → ℕ → Bool
has_mate context partners a = not (mate_of context partners a == a)

-- a number stands in front of its mate
abbrev pub goes_first : Context → List (Option ℕ) → ℕ → Bool
goes_first context partners a = nat_lt a (mate_of context partners a)

-- the shape of the pairs of mates (B.1, B.2): the moved-down players with mates, and the residents whose mates stand behind them
abbrev pub matched_shape : Context → List (Option ℕ) → Shape
matched_shape context partners = record {
  pairs = length (filter (has_mate context partners) (numbers_from 1 context.reached.mdps))
      + length (filter (goes_first context partners) (numbers_from (context.reached.mdps + 1) (length context.reached.seats - context.reached.mdps)));
  mdps = length (filter (has_mate context partners) (numbers_from 1 context.reached.mdps));
}

-- those who are in no pair
abbrev pub numbers_unmated : Context → List (Option ℕ) → List ℕ
numbers_unmated context partners = filter (λ a. mate_of context partners a == a) (numbers_from 1 (length context.reached.seats))

-- C.2, C.4: a candidate that can be chosen may leave these numbers over
abbrev pub may_leave : Context → List ℕ → Bool
may_leave context alone =
    if is_penultimate context.reached.kind then completable context.facts (map (seat_of context.reached.seats) alone ++ context.lower)
    else (not (ends_round context.reached.kind) || leaves_one (number_may_be_left context.facts context.reached) alone)
