-- What the next bracket can be (C.04.3 C.7), remembered for the last lists of downfloaters that were asked about.
use Rattle.std.specs.Prelude.{◌≡◌, ℕ, Bool, true, false, ◌||◌, if◌then◌else◌, List, [], ◌∷◌, map, take, nat_eq, Contains, ◌⊎◌, Option, Some, None}
use Rattle.std.specs.Cmp.Lexicographic.{pointwise}
use Rattle.arrayvec.specs.ArrayVec.{ArrayVec}
use Rattle.lru.specs.LruCache.{LruCache}
use Rattle.dutch_arrangements.specs.Prelude.{is_same}
use Rattle.dutch_player.specs.Prelude.{Facts}
use Rattle.dutch_bracket.specs.declared.reached.BracketKind.TheVariants.{Ordinary}
use Rattle.dutch_passes.specs.declared.remembered.Look.{Look}
use Rattle.dutch_passes.specs.declared.remembered.Look.TheVariants.{Value, Undecided}
use Rattle.dutch_bracket.specs.Prelude.{Context, seat_of, Reached, IsOf, NextValue, first_group, scoregroups, IsNext, value_in}

-- a look-ahead: the bracket that it looks down from, the next lower scoregroup, the lists of downfloaters for which it keeps values, the last
-- used first, and whether memory was refused for one of them [with LooksBelow]
pub record Remembered : Type 0 where
  pub facts : Facts
  pub reached : Reached
  pub next : List ℕ
  pub kept : List (List ℕ)
  pub is_short : Bool

-- what the next bracket can be for downfloaters of a bracket [C.7]
abbrev pub value_below : Facts → Reached → List ℕ → List ℕ → NextValue
value_below facts reached next down = value_in reached.kind facts (map (seat_of reached.seats) down) next

-- a list is one of those that are kept [with IsLook]
abbrev pub is_kept : List ℕ → List (List ℕ) → Bool
is_kept down [] = false
is_kept down (other ∷ kept) = is_same down other || is_kept down kept

-- those that are kept but one
abbrev pub others : List ℕ → List (List ℕ) → List (List ℕ)
others down [] = []
others down (other ∷ kept) = if is_same down other then kept else other ∷ others down kept

-- a list that is used goes first; one that is new pushes out the last of 64
abbrev pub with_used : List ℕ → List (List ℕ) → List (List ℕ)
with_used down kept = down ∷ (if is_kept down kept then others down kept else take 63 kept)

-- a look-ahead after it used the value of a list
abbrev pub after_use : List ℕ → Remembered → Remembered
after_use down old =
    record { facts = old.facts; reached = old.reached; next = old.next; kept = with_used down old.kept; is_short = old.is_short }

-- a look-ahead after memory was refused for a value: it keeps what it kept, and says so
abbrev pub after_refusal : Remembered → Remembered
after_refusal old = record { facts = old.facts; reached = old.reached; next = old.next; kept = old.kept; is_short = true }

-- what a look-ahead answers: the value of a list of downfloaters, or that it was stopped [own]
abbrev pub IsLook : NextValue → Type 0 → Look → Type 0
IsLook value stopped (Value pairs psd) = value ≡ record { pairs = pairs; psd = psd.items }
IsLook value stopped Undecided = stopped

-- the value of a list was used: the list is kept, unless memory was refused for a new one [with IsLook]
abbrev pub IsUsed : List ℕ → Remembered → Remembered → Type 0
IsUsed down old new = (new ≡ after_use down old) ⊎ ((is_kept down old.kept ≡ false) × (new ≡ after_refusal old))

-- a value that may be kept for a list was asked for: a yes gives the value, and the list was used; after a no all is as it was
pub record Recalls (yes : Bool) (value : NextValue) (down : List ℕ) (old new : Remembered) : Type 0 where
  pub value_is : yes ≡ true → value ≡ value_below old.facts old.reached old.next down
  pub used : yes ≡ true → new ≡ after_use down old
  pub none : yes ≡ false → is_kept down old.kept ≡ false
  pub unused : yes ≡ false → new ≡ old

-- what is kept after an answer: with a value its list, which was used; where the limit was reached, all is as it was [with IsLook]
abbrev pub IsKeptAfter : List ℕ → Remembered → Remembered → Look → Type 0
IsKeptAfter down old new (Value pairs psd) = IsUsed down old new
IsKeptAfter down old new Undecided = new ≡ old

-- a look-ahead of an ordinary bracket above lower seats: it looks to their first scoregroup [with LooksBelow]
pub record LooksFrom (context : Context) (look : Remembered) : Type 0 where
  pub ordinary : context.reached.kind ≡ Ordinary
  pub field : look.facts ≡ context.facts
  pub bracket : look.reached ≡ context.reached
  pub group : look.next ≡ first_group context.facts (scoregroups context.facts context.lower)

-- there is a look-ahead in an ordinary bracket, and none in another one [C.7]
abbrev pub LooksBelow : Context → Option Remembered → Type 0
LooksBelow context None = context.reached.kind ≡ Ordinary → ⊥
LooksBelow context (Some look) = LooksFrom context look

-- the lists for which values are kept
abbrev pub lists_kept : List (ArrayVec ℕ × NextValue) → List (List ℕ)
lists_kept entries = map (λ e. e.0.items) entries

-- a list that is kept is the one asked about
abbrev pub is_key : ArrayVec ℕ → ArrayVec ℕ → Bool
is_key down key = pointwise nat_eq down.items key.items

-- the values kept below an ordinary bracket: at most 64, and each is that of the list that it is kept for
pub record AreValues (facts : Facts) (reached : Reached) (next : List ℕ) (values : LruCache (ArrayVec ℕ) NextValue) : Type 0 where
  pub bracket : IsOf facts reached
  pub ordinary : reached.kind ≡ Ordinary
  pub next_below : IsNext facts reached next
  pub most : values.cap ≡ 64
  pub each : (e : ArrayVec ℕ × NextValue) → Contains values.entries e → e.1 ≡ value_below facts reached next e.0.items
