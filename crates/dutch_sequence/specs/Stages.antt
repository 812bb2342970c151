-- How exchanges are searched, stage by stage, one for each number of exchanged players and each difference of the sums: a model that
-- carries the search, and which a reader of the promises may pass by.
use Rattle.std.specs.Prelude.{◌≡◌, ℕ, zero, suc, ◌+◌, ◌*◌, ◌-◌, ◌≤◌, Bool, false, not, ◌&&◌, nat_lt, nat_le, min, List, [], ◌∷◌, ◌++◌, map, filter, reverse, take, drop, length, slice_index, if◌then◌else◌, Option, Some, None}
use Rattle.dutch_sequence.specs.Choices.{is_member, numbers_from}
use Rattle.dutch_sequence.specs.Exchanged.{ExchangeClass}
use Rattle.dutch_sequence.specs.Keys.{IsIn}
use Rattle.dutch_sequence.specs.declared.exchange.Known.{Known}
use Rattle.dutch_sequence.specs.declared.exchange.Known.TheVariants.{Chosen, PassedOver}
use Rattle.dutch_sequence.specs.declared.exchange.SearchState.{SearchState}
use Rattle.dutch_sequence.specs.declared.exchange.Side.{Side}
use Rattle.dutch_sequence.specs.declared.exchange.Side.TheVariants.{Out, In}
use Rattle.dutch_sequence.specs.Trials.{Plan, hits, trials, lower, lowest, ahead}
use Rattle.dutch_sequence.specs.Halves.{half_start, two_halves}
use Rattle.dutch_sequence.specs.Sides.{count_of}
use Rattle.dutch_sequence.specs.Hints.{hinted}
use Rattle.dutch_sequence.specs.Descents.{Stands, beyond_all, free_moves}
use Rattle.std.specs.List.{AllByRecursion}

-- the sum of what a function gives for the members of a list
abbrev pub total : (ℕ → ℕ) → List ℕ → ℕ
total f [] = 0
total f (x ∷ xs) = f x + total f xs

-- a difference is to be searched: it is known below which difference no set lies, and it is not below that one
abbrev pub is_next : ℕ → Option ℕ → Bool
is_next difference None = false
is_next difference (Some next) = nat_le next difference

-- the next difference to be searched after one, up to a greatest one
abbrev pub following : ℕ → ℕ → Option ℕ → Option ℕ
following difference greatest None = None
following difference greatest (Some next) =
    if nat_lt difference next
    then (if nat_le next greatest then Some next else None)
    else (if nat_lt difference greatest then Some (suc difference) else None)

-- a place of a half is known to be chosen if it is taken, and known to be passed over if it is below the limit and not taken
abbrev pub is_fixed : List ℕ → ℕ → Known → ℕ → Bool
is_fixed taken limit Chosen place = is_member place taken
is_fixed taken limit PassedOver place = nat_lt place limit && not (is_member place taken)

module _ (pool : List ℕ) (k : ℕ) where
  -- a number of the original set by its place from the highest, and one of the others by its place from the lowest
  abbrev pub value_of : Side → ℕ → ℕ
  value_of Out place = slice_index pool (k - 1 - place)
  value_of In place = slice_index pool (k + place)

  -- the sum of so many numbers of a side, from a place on
  abbrev pub run : Side → ℕ → ℕ → ℕ
  run side first count = total (value_of side) (numbers_from first count)

  -- the least difference of the sums that an exchange of so many can have after a path and one place more
  unfoldable pub least_at : ℕ → List ℕ → ℕ → ℕ
  least_at size path place =
      if nat_lt (length path) size
      then run In 0 size - (total (value_of Out) path + value_of Out place + run Out (place + 1) (size - 1 - length path))
      else (total (value_of In) (drop size path) + value_of In place + run In (place + 1) (size + size - 1 - length path)) - total (value_of Out) (take size path)

  -- and the greatest
  unfoldable pub greatest_at : ℕ → List ℕ → ℕ → ℕ
  greatest_at size path place =
      if nat_lt (length path) size
      then run In (length pool - k - size) size - (total (value_of Out) path + value_of Out place + run Out (k - (size - 1 - length path)) (size - 1 - length path))
      else (total (value_of In) (drop size path) + value_of In place + run In (length pool - k - (size + size - 1 - length path)) (size + size - 1 - length path)) - total (value_of Out) (take size path)

  -- a place fits while the wanted difference lies between them
  unfoldable pub within_reach : ℕ → ℕ → List ℕ → ℕ → Bool
  within_reach size difference path place =
      nat_le (least_at size path place) difference && nat_le difference (greatest_at size path place)

  -- what a place that cannot reach the wanted difference gives at least, if that is more
  unfoldable pub beyond_reach : ℕ → ℕ → List ℕ → ℕ → Option ℕ
  beyond_reach size difference path place =
      if nat_lt difference (least_at size path place) then Some (least_at size path place) else None

  -- a stage fills the places of those moved out, and then those of the numbers moved in
  abbrev pub exchange_plan : ℕ → ℕ → Plan
  exchange_plan size difference = two_halves size k (length pool - k) (within_reach size difference) (beyond_reach size difference)

  -- the original numbers that were not moved out, lowest first
  abbrev pub kept_of : List ℕ → List ℕ
  kept_of outs = reverse (map (value_of Out) (filter (λ place. not (is_member place outs)) (numbers_from 0 k)))

  -- the set of a path: the original numbers that were not moved out, and those moved in
  abbrev pub set_of : ℕ → List ℕ → List ℕ
  set_of size path = kept_of (take size path) ++ map (value_of In) (drop size path)

  -- the sets that a stage has still to find
  unfoldable pub stage_sets : ℕ → ℕ → List ℕ → ℕ → List (List ℕ)
  stage_sets size difference path place =
      map (set_of size) (hits (ahead (exchange_plan size difference) path place))

  -- the same if the stage begins at a path
  unfoldable pub stage_left : List ℕ → ℕ → ℕ → List ℕ → ℕ → List (List ℕ)
  stage_left hint size difference path place =
      map (set_of size) (hits (ahead (hinted hint (exchange_plan size difference)) path place))

  -- the places of the numbers that a set has moved out
  abbrev pub out_places : List ℕ → List ℕ
  out_places set = filter (λ place. not (is_member (value_of Out place) set)) (numbers_from 0 k)

  -- the places of the numbers that a set has moved in
  abbrev pub in_places : List ℕ → List ℕ
  in_places set = filter (λ place. is_member (value_of In place) set) (numbers_from 0 (length pool - k))

  -- the path that finds a set
  abbrev pub exchange_path : List ℕ → List ℕ
  exchange_path set = out_places set ++ in_places set

  -- the difference of the sums of a set
  abbrev pub exchange_difference : List ℕ → ℕ
  exchange_difference set = total (value_of In) (in_places set) - total (value_of Out) (out_places set)

  -- below which place it is known who is moved out in all paths that begin so
  unfoldable pub out_limit : ℕ → List ℕ → ℕ
  out_limit size beginning = if nat_lt (length beginning) size then half_start size beginning else k

  -- and who is moved in
  unfoldable pub in_limit : ℕ → List ℕ → ℕ
  in_limit size beginning =
      if nat_lt (length beginning) size then 0 else (if nat_lt (length beginning) (size + size) then half_start size beginning else (length pool - k))

  -- the numbers of a side of whose places it is known that they are chosen, or that they are passed over
  abbrev pub fixed_numbers : Side → List ℕ → ℕ → Known → List ℕ
  fixed_numbers side taken limit known = map (value_of side) (filter (is_fixed taken limit known) (numbers_from 0 (count_of pool k side)))

  -- who is in the set of each path that begins so: those who are not moved out, and those who are moved in
  abbrev pub held_numbers : ℕ → List ℕ → List ℕ
  held_numbers size beginning =
      fixed_numbers Out (take size beginning) (out_limit size beginning) PassedOver ++ fixed_numbers In (drop size beginning) (in_limit size beginning) Chosen

  -- and who is in none of them
  abbrev pub barred_numbers : ℕ → List ℕ → List ℕ
  barred_numbers size beginning =
      fixed_numbers Out (take size beginning) (out_limit size beginning) Chosen ++ fixed_numbers In (drop size beginning) (in_limit size beginning) PassedOver

  -- the class of the sets of a stage whose paths begin so
  abbrev pub exchange_class : ℕ → ℕ → List ℕ → ExchangeClass
  exchange_class size difference beginning = record {
    original = take k pool;
    others = drop k pool;
    size = size;
    difference = difference;
    held = held_numbers size beginning;
    barred = barred_numbers size beginning;
  }

  -- a path is one of those that a stage finds
  abbrev pub IsOfStage : ℕ → ℕ → List ℕ → Type 0
  IsOfStage size difference path = IsIn path (hits (ahead (exchange_plan size difference) [] 0))

  -- the least difference of exchanges of so many
  abbrev pub least_difference : ℕ → ℕ
  least_difference size = run In 0 size - run Out 0 size

  -- the greatest difference of exchanges of so many
  abbrev pub greatest_difference : ℕ → ℕ
  greatest_difference size = run In (length pool - k - size) size - run Out (k - size) size

  -- the sets of so many stages of a size, from a difference on, if the next stage that finds any is known
  unfoldable pub sets_of_stages : ℕ → ℕ → ℕ → Option ℕ → List (List ℕ)
  sets_of_stages zero size difference next = []
  sets_of_stages (suc count) size difference next =
      if is_next difference next
      then stage_sets size difference [] 0 ++ sets_of_stages count size (suc difference) (lowest (ahead (exchange_plan size difference) [] 0))
      else sets_of_stages count size (suc difference) next

  -- how many trials these stages make
  unfoldable pub trials_of_stages : ℕ → ℕ → ℕ → Option ℕ → ℕ
  trials_of_stages zero size difference next = 0
  trials_of_stages (suc count) size difference next =
      if is_next difference next
      then trials (ahead (exchange_plan size difference) [] 0) + trials_of_stages count size (suc difference) (lowest (ahead (exchange_plan size difference) [] 0))
      else trials_of_stages count size (suc difference) next

  -- how many stages a size has
  abbrev pub stages_of : ℕ → ℕ
  stages_of size = suc (greatest_difference size - least_difference size)

  -- the sets of so many sizes, from one on
  unfoldable pub sets_of_sizes : ℕ → ℕ → List (List ℕ)
  sets_of_sizes zero size = []
  sets_of_sizes (suc count) size =
      sets_of_stages (stages_of size) size (least_difference size) (Some (least_difference size)) ++ sets_of_sizes count (suc size)

  -- how many trials these sizes make
  unfoldable pub trials_of_sizes : ℕ → ℕ → ℕ
  trials_of_sizes zero size = 0
  trials_of_sizes (suc count) size =
      trials_of_stages (stages_of size) size (least_difference size) (Some (least_difference size)) + trials_of_sizes count (suc size)

  -- how many stages these sizes have
  unfoldable pub stages_of_sizes : ℕ → ℕ → ℕ
  stages_of_sizes zero size = 0
  stages_of_sizes (suc count) size = stages_of size + stages_of_sizes count (suc size)

  -- how many can be exchanged
  abbrev pub most_exchanged : ℕ
  most_exchanged = min k (length pool - k)

  -- what is to come at a stage that began at a path, if it is known what lies beyond the trials made in it
  unfoldable pub sets_ahead : List ℕ → ℕ → ℕ → List ℕ → ℕ → Option ℕ → List (List ℕ)
  sets_ahead hint size difference path place beyond =
      stage_left hint size difference path place
      ++ (sets_of_stages (greatest_difference size - difference) size (suc difference) (lower beyond (lowest (ahead (hinted hint (exchange_plan size difference)) path place)))
      ++ sets_of_sizes (most_exchanged - size) (suc size))

  -- how many trials are to be made from there on
  unfoldable pub trials_ahead : List ℕ → ℕ → ℕ → List ℕ → ℕ → Option ℕ → ℕ
  trials_ahead hint size difference path place beyond =
      trials (ahead (hinted hint (exchange_plan size difference)) path place)
      + (trials_of_stages (greatest_difference size - difference) size (suc difference) (lower beyond (lowest (ahead (hinted hint (exchange_plan size difference)) path place)))
      + trials_of_sizes (most_exchanged - size) (suc size))

  -- how many stages follow
  unfoldable pub stages_ahead : ℕ → ℕ → ℕ
  stages_ahead size difference =
      (greatest_difference size - difference) + stages_of_sizes (most_exchanged - size) (suc size)

  -- what is known of what lies beyond a search's stage passes over no set: the same follow as if nothing were known
  abbrev pub IsKnown : SearchState → Type 0
  IsKnown state =
      sets_of_stages (greatest_difference state.size - state.difference) state.size (suc state.difference) (beyond_all (hinted state.hint.items (exchange_plan state.size state.difference)) state.descent)
      ≡ sets_of_stages (greatest_difference state.size - state.difference) state.size (suc state.difference) (Some 0)

  -- each path to come is one of its stage
  abbrev pub IsOwn : SearchState → Type 0
  IsOwn state =
      AllByRecursion (IsOfStage state.size state.difference)
      (hits (ahead (hinted state.hint.items (exchange_plan state.size state.difference)) state.descent.path state.descent.number))

  -- where a search may stand: so many can be exchanged; its path is one of its stage; no set is passed over, and each path to come is
  -- one of its stage
  abbrev pub IsSearchState : SearchState → Type 0
  IsSearchState state =
      (state.size ≤ k) × (state.size ≤ length pool - k)
      × Stands (hinted state.hint.items (exchange_plan state.size state.difference)) state.descent.path
      × IsKnown state × IsOwn state

  -- the sets to come from where it stands
  abbrev pub sets_from : SearchState → List (List ℕ)
  sets_from state = sets_ahead state.hint.items state.size state.difference state.descent.path state.descent.number state.descent.beyond

  -- and the trials
  abbrev pub trials_from : SearchState → ℕ
  trials_from state = trials_ahead state.hint.items state.size state.difference state.descent.path state.descent.number state.descent.beyond

  -- and how many moves that are no trial: those in its stage, and two for each stage that follows
  abbrev pub free_moves_from : SearchState → ℕ
  free_moves_from state = 2 * stages_ahead state.size state.difference + free_moves state.descent

  -- the class of the sets whose paths begin as its path does
  abbrev pub class_from : SearchState → ExchangeClass
  class_from state = exchange_class state.size state.difference state.descent.path
