-- The lines with which `explain` tells why there is no pairing: who blocks, the odd groups behind them, and that nobody may have the bye; each as
-- codes, and as a sentence.
use Rattle.std.specs.Prelude.{ℕ, ◌==◌, if◌then◌else◌, List, [], ◌++◌, filter, Option, Some, None, codes}
use Rattle.std.specs.List.{flat_map}
use Rattle.dutch_rounds.specs.Prelude.{Barrier, has_blockers, label, lacks_bye, opens_odd_group, everybody}
use Rattle.requests.specs.declared.options.Wording.{Wording}
use Rattle.round_lines.specs.CandidateTexts.{rank_text}
use Rattle.round_lines.specs.Tellings.{TellingFacts, in_wording, seats_words}

-- that an odd number of players are present and nobody may have the bye
abbrev pub no_bye_text : Wording → List ℕ
no_bye_text wording =
    in_wording wording (codes "bye none\n") (codes "One player would have to have the bye, and none of those present may have it.\n")

module _ (telling : TellingFacts) where
  module _ (barrier : Barrier) where
    -- the players who have a label, by rank
    abbrev pub seats_with_label : ℕ → List ℕ
    seats_with_label l = filter (λ seat. label barrier seat == l) (everybody telling.facts)

    -- the same by their start ranks
    abbrev pub ranks_with_label : ℕ → List ℕ
    ranks_with_label l = flat_map (λ seat. codes " " ++ rank_text telling.facts seat) (seats_with_label l)

    -- who blocks, by rank, if anybody does
    abbrev pub blockers_text : List ℕ
    blockers_text = if has_blockers telling.facts barrier then ranks_with_label 0 else codes " -"

    -- the line of those who block
    unfoldable pub blocked_line : List ℕ
    blocked_line = codes "blocked by" ++ (blockers_text ++ codes "\n")

    -- the same in a sentence
    unfoldable pub blocked_words : List ℕ
    blocked_words = codes "Blocking players: " ++ (seats_words telling (seats_with_label 0) ++ codes ".\n")

    -- a group: its players, by rank
    unfoldable pub group_line : ℕ → List ℕ
    group_line l = codes "group" ++ (ranks_with_label l ++ codes "\n")

    -- the same in a sentence
    unfoldable pub group_words : ℕ → List ℕ
    group_words l =
        codes "Odd group, whose players may meet only each other and the blocking players: " ++ (seats_words telling (seats_with_label l) ++ codes ".\n")

    -- a group, in a line or in a sentence
    abbrev pub group_text : ℕ → List ℕ
    group_text l = in_wording telling.wording (group_line l) (group_words l)

    -- the odd groups that some players are the first of
    abbrev pub groups_text : List ℕ → List ℕ
    groups_text seats =
        flat_map (λ seat. if opens_odd_group telling.facts barrier seat then group_text (label barrier seat) else []) seats

  -- that nobody may have the bye, where it is so
  abbrev pub lacking_text : List ℕ
  lacking_text = if lacks_bye telling.facts then no_bye_text telling.wording else []

  -- why there is no pairing: who blocks, each odd group, in the order of their first players, and that nobody may have the bye, where it is
  -- so [own]
  unfoldable pub barrier_text : Barrier → List ℕ
  barrier_text barrier =
      in_wording telling.wording (blocked_line barrier) (blocked_words barrier) ++ (groups_text barrier (everybody telling.facts) ++ lacking_text)

  -- the same, where a barrier was found
  abbrev pub reason_text : Option Barrier → List ℕ
  reason_text None = []
  reason_text (Some barrier) = barrier_text barrier
