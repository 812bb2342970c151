-- Which players can be paired out (C.04.3 A.9), and how many steps it may take to tell.
use Rattle.std.specs.Prelude.{◌≡◌, ℕ, zero, suc, ◌+◌, ◌*◌, ◌<◌, ◌≤◌, Bool, true, false, ◌&&◌, List, [], ◌∷◌, flat_map, map}
use Rattle.std.specs.List.{list_all, list_any}
use Rattle.dutch_arrangements.specs.Prelude.{leaves_one}
use Rattle.dutch_sequence.specs.declared.steps.Budget.{Budget}
use Rattle.dutch_bracket.specs.declared.answer.Answer.{Answer}
use Rattle.dutch_bracket.specs.declared.answer.Answer.TheVariants.{Yes, No, Undecided}
-- A.9: some list of pairs of those who may meet leaves out at most one of the players, who may be left out; in each pair the one first who
-- stands earlier in the list (our own choice), the pairs in the order of their first members
pub use Rattle.dual.specs.Matchings.{Covers, MayBeLeftOut, Completable}

-- a way to pair some players: its pairs, and those whom it leaves out [with all_pairings]
pub record Way : Type 0 where
  pub pairs : List (ℕ × ℕ)
  pub out : List ℕ

-- a member of a list with the others, and one player more among these
abbrev pub with_member : ℕ → ℕ × List ℕ → ℕ × List ℕ
with_member x pick = (pick.0, x ∷ pick.1)

-- each member of a list, with the others
abbrev pub picks : List ℕ → List (ℕ × List ℕ)
picks [] = []
picks (x ∷ others) = (x, others) ∷ map (with_member x) (picks others)

-- a way to pair players, with one more in front who is left out
abbrev pub left_out : ℕ → Way → Way
left_out a way = record { pairs = way.pairs; out = a ∷ way.out }

-- a way to pair players, with one more in front who is paired with one of those left out
abbrev pub paired : ℕ → Way → ℕ × List ℕ → Way
paired a way pick = record { pairs = (a, pick.0) ∷ way.pairs; out = pick.1 }

-- a way to pair players, with one more in front: left out, or paired with any of those left out
abbrev pub with_first : ℕ → Way → List Way
with_first a way = left_out a way ∷ map (paired a way) (picks way.out)

-- all ways to pair the players of a list: the first is left out, or paired with any of those whom a way to pair the later ones leaves out
-- [A.9]
abbrev pub all_pairings : List ℕ → List Way
all_pairings [] = record { pairs = []; out = [] } ∷ []
all_pairings (a ∷ later) = flat_map (with_first a) (all_pairings later)

-- all pairs of a way may meet, and it leaves out at most one player, who may be left out [with can_complete]
abbrev pub is_complete : (ℕ → ℕ → Bool) → (ℕ → Bool) → Way → Bool
is_complete meets may_be_left way = list_all (λ pair. meets pair.0 pair.1) way.pairs && leaves_one may_be_left way.out

-- players are completable: one of all ways to pair them is such [A.9, C.1 to C.3]
abbrev pub can_complete : (ℕ → ℕ → Bool) → (ℕ → Bool) → List ℕ → Bool
can_complete meets may_be_left players = list_any (is_complete meets may_be_left) (all_pairings players)

-- the steps of one who is left out, if one may be: the question and what the others may take
abbrev pub most_of_bye : ℕ → Bool → ℕ
most_of_bye most true = 1 + most
most_of_bye most false = 0

-- the most steps that it takes to tell whether n players are completable, where one may be left out and where none may: the partners of the
-- first, and the bye [with SpendsAtMost]
abbrev pub most : ℕ → Bool → ℕ
most zero bye = 0
most (suc zero) bye = most_of_bye 0 bye
most (suc (suc n)) bye = (n + 1) * (1 + most n bye) + most_of_bye (most (suc n) false) bye

-- a call made at most n steps and took none back, and the limit stays [own]
pub record SpendsAtMost (n : ℕ) (old new : Budget) : Type 0 where
  pub few : new.used ≤ old.used + n
  pub rises : old.used ≤ new.used
  pub limit : new.limit ≡ old.limit

-- a call was stopped at a limit that n steps would have passed [with SpendsAtMost]
pub record IsStopped (n : ℕ) (old new : Budget) : Type 0 where
  pub reached : new.used ≡ new.limit
  pub needed : old.limit < old.used + n

-- an answer takes steps: Yes at least one for each two players, and No one for each trial of the first player [with SpendsAtMost]
abbrev pub Takes : Answer → ℕ → ℕ → Budget → Budget → Type 0
Takes Yes players trials old new = 2 * old.used + players ≤ 2 * new.used
Takes No players trials old new = old.used + trials ≤ new.used
Takes Undecided players trials old new = Unit {0}

-- a fact for each answer: yes, no, stopped [with SpendsAtMost]
abbrev pub MatchAnswer : Answer → Type 0 → Type 0 → Type 0 → Type 0
MatchAnswer Yes completed failed undecided = completed
MatchAnswer No completed failed undecided = failed
MatchAnswer Undecided completed failed undecided = undecided

-- an answer tells what a test says, but for a call that was stopped
abbrev pub Tells : Answer → Bool → Type 0 → Type 0
Tells answer test stopped = MatchAnswer answer (test ≡ true) (test ≡ false) stopped
