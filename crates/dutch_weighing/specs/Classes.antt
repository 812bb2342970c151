-- Which players of a bracket weigh alike in pairs (C.04.3 C.6, C.8 to C.19): those of one class. What bounds the choice by beginnings stands on
-- these; a reader of its promise may pass them by.
use Rattle.std.specs.Prelude.{◌≡◌, ℕ, ◌<◌, ◌≤◌, ◌-◌, Bool, false, ◌&&◌, ◌==◌, if◌then◌else◌, Option, None, Some, List, length, slice_index}
use Rattle.std.specs.Option.{option_map_or}
use Rattle.dutch_player.specs.declared.preference.Pref.{Pref}
use Rattle.dutch_player.specs.Prelude.{Facts, is_absolute, preference, seat_at}
use Rattle.dutch_bracket.specs.Prelude.{float_of, score_at, seat_of}
use Rattle.dutch_weighing.specs.Weights.{Weighing}
use Rattle.dutch_weighing.specs.declared.classes.PlayerClass.{PlayerClass}

-- an absolute preference, and not another one or none
abbrev pub is_absolute_if_any : Option Pref → Bool
is_absolute_if_any preference = option_map_or (λ wanted. is_absolute wanted.strength) preference false

-- in the last round a player with an absolute preference is of a class of their own: what a pair of two such players weighs may be a matter of
-- all their games [C.8, C.9, E.2, E.3]
abbrev pub is_single : Facts → ℕ → Bool
is_single facts seat = (facts.round == facts.total) && is_absolute_if_any (preference (seat_at facts seat).played)

-- the class of a player: what a pair weighs depends on the classes of the two alone [own]
abbrev pub class_at : Facts → ℕ → PlayerClass
class_at facts seat = record {
  score = score_at facts seat;
  preference = preference (seat_at facts seat).played;
  latest = float_of facts 1 seat;
  earlier = float_of facts 2 seat;
  single = if is_single facts seat then Some seat else None;
}

-- the class of a number of a bracket
abbrev pub class_of : Weighing → ℕ → PlayerClass
class_of w a = class_at w.facts (seat_of w.reached.seats a)

-- of a number a first one is told: one that is no greater, and of the same class [own]
abbrev pub IsFirstFor : Weighing → ℕ → ℕ → Type 0
IsFirstFor w a first = (0 < first) × ((first ≤ a) × (class_of w first ≡ class_of w a))

-- a list tells of each of the first numbers of a bracket one that is no greater, and of the same class
abbrev pub TellsFirstsUpto : Weighing → List ℕ → ℕ → Type 0
TellsFirstsUpto w list end = (a : ℕ) → 0 < a → a ≤ end → IsFirstFor w a (slice_index list (a - 1))

-- and of all
abbrev pub TellsFirsts : Weighing → List ℕ → Type 0
TellsFirsts w list = (length list ≡ length w.reached.seats) × TellsFirstsUpto w list (length w.reached.seats)
