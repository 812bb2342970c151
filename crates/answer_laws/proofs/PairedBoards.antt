-- The boards of the pairs that the brackets of a round keep are those of its pairing.
use Rattle.std.proofs.Common.{◌≡◌, ◌∙◌, ℕ, ◌+◌, true, false, cond, List, [], ◌∷◌, ◌++◌, map, Option, Some, None, refl, sym, ap, subst}
use Rattle.std.proofs.lemmas.Bool.{cond_both}
use Rattle.std.specs.Prelude.{option_map}
use Rattle.std.specs.List.{concat, flat_map}
use Rattle.dutch_player.specs.Prelude.{Facts}
use Rattle.dutch_bracket.specs.Prelude.{Reached, Choice, bracket, choice, completable, downfloaters, scoregroups, all_pairs}
use Rattle.dutch_bracket.specs.declared.reached.BracketKind.TheVariants.{Ordinary, Last, Collapsed}
use Rattle.dutch_rounds.specs.Prelude.{Round, Pairing, Visit, boards, brackets, ending, everybody, final_bracket, no_pairing, own_pairs, paired_again, pairing_in, passing, penultimate_bracket, round, visit}
use Rattle.dutch_rounds.specs.Stage.{Stage}
use Rattle.dutch_rounds.proofs.RoundBy.{final_by, penultimate_by, ordinary_by}
use Rattle.command_line.specs.OtherBoards.{boards_paired}

-- the pairs that a bracket keeps
abbrev kept : Visit → List (ℕ × ℕ)
kept passed = cond passed.again [] (all_pairs passed.bracket.seats passed.lists)

-- the pairs of a pairing are those that brackets keep
abbrev HasPairs : List Visit → Option Pairing → Type 0
HasPairs reached None = Unit {0}
HasPairs reached (Some pairing) = pairing.pairs ≡ flat_map kept reached

-- the pairs of a round are those that its brackets keep
abbrev AreKept : Round → Type 0
AreKept r = HasPairs r.reached r.pairing

module _ (facts : Facts) where
  -- ---- a bracket before the rest of a round

  -- the pairs of a bracket in front of those of the rest
  abbrev with_pairs : Reached → Choice → Pairing → Pairing
  with_pairs reached chosen later = record { pairs = all_pairs reached.seats chosen.lists ++ later.pairs; bye = later.bye }

  in_front_of : (reached : Reached) (chosen : Choice) (behind : List Visit) (later : Option Pairing) → HasPairs behind later
      → HasPairs (record { bracket = reached; shape = chosen.shape; lists = chosen.lists; again = false } ∷ behind)
      (option_map (with_pairs reached chosen) later)
  in_front_of reached chosen behind None has = tt
  in_front_of reached chosen behind (Some later) has = ap (λ pairs. all_pairs reached.seats chosen.lists ++ pairs) has

  kept_here : (reached : Reached) (chosen : Choice) (rest : Round) → AreKept rest → AreKept (pairing_in facts reached chosen rest)
  kept_here reached chosen rest has = in_front_of reached chosen rest.reached rest.pairing has

  without : (reached : Reached) (chosen : Choice) (behind : List Visit) (later : Option Pairing) → HasPairs behind later
      → HasPairs (record { bracket = reached; shape = chosen.shape; lists = chosen.lists; again = true } ∷ behind) later
  without reached chosen behind None has = tt
  without reached chosen behind (Some later) has = has

  kept_later : (reached : Reached) (chosen : Choice) (rest : Round) → AreKept rest → AreKept (passing facts reached chosen rest)
  kept_later reached chosen rest has = without reached chosen rest.reached rest.pairing has

  -- ---- the bracket that ends a round

  final_at : (reached : Reached) (found : Option Choice) → AreKept (final_by facts reached found)
  final_at reached None = tt
  final_at reached (Some chosen) = kept_here reached chosen (ending facts (downfloaters facts reached chosen.lists)) refl

  final_keeps : (reached : Reached) → AreKept (final_bracket facts reached)
  final_keeps reached = final_at reached (choice facts reached [])

  -- ---- the penultimate bracket

  penultimate_at : (reached : Reached) (lower : List ℕ) (found : Option Choice) → AreKept (penultimate_by facts reached lower found)
  penultimate_at reached lower None = tt
  penultimate_at reached lower (Some chosen) =
      let last : Reached = bracket (reached.number + 1) Collapsed (downfloaters facts reached chosen.lists) lower in
      kept_here reached chosen (final_bracket facts last) (final_keeps last)

  penultimate_keeps : (reached : Reached) (lower : List ℕ) → AreKept (penultimate_bracket facts reached lower)
  penultimate_keeps reached lower = penultimate_at reached lower (choice facts reached lower)

  -- ---- an ordinary bracket

  ordinary_at : (reached : Reached) (lower : List ℕ) (goes_on : List ℕ → Round) (found : Option Choice)
      → ((left : List ℕ) → AreKept (goes_on left)) → AreKept (ordinary_by facts reached lower goes_on found)
  ordinary_at reached lower goes_on None later = tt
  ordinary_at reached lower goes_on (Some chosen) later =
      let left : List ℕ = downfloaters facts reached chosen.lists in
      let again : Round = penultimate_bracket facts (paired_again reached) lower in
      cond_both (completable facts (left ++ lower)) (pairing_in facts reached chosen (goes_on left)) (passing facts reached chosen again) AreKept
      (λ t. kept_here reached chosen (goes_on left) (later left))
      (λ t. kept_later reached chosen again (penultimate_keeps (paired_again reached) lower))

  -- ---- all brackets

  brackets_keep : (number : ℕ) (moved_down : List ℕ) (groups : List (List ℕ)) → AreKept (brackets facts number moved_down groups)
  brackets_keep number moved_down [] = refl
  brackets_keep number moved_down (group ∷ []) = final_keeps (bracket number Last moved_down group)
  brackets_keep number moved_down (group ∷ next ∷ groups) =
      let reached : Reached = bracket number Ordinary moved_down group in
      let lower : List ℕ = concat (next ∷ groups) in
      ordinary_at reached lower (λ left. brackets facts (number + 1) left (next ∷ groups)) (choice facts reached lower)
      (λ left. brackets_keep (number + 1) left (next ∷ groups))

  round_keeps : AreKept (round facts)
  round_keeps =
      let all : List ℕ = everybody facts in
      cond_both (completable facts all) (brackets facts 1 [] (scoregroups facts all)) (no_pairing facts) AreKept
      (λ t. brackets_keep 1 [] (scoregroups facts all))
      (λ t. tt)

-- the pairs that stages keep are those that their brackets keep
kept_by_stages : (stages : List Stage) → flat_map own_pairs stages ≡ flat_map kept (map visit stages)
kept_by_stages [] = refl
kept_by_stages (stage ∷ stages) = ap (λ pairs. own_pairs stage ++ pairs) (kept_by_stages stages)

-- where a round is paired, its pairs are those that its brackets keep
pairs_are : (facts : Facts) (reached : List Visit) (paired : Option Pairing) (pairing : Pairing) → paired ≡ Some pairing → HasPairs reached paired
    → pairing.pairs ≡ flat_map kept reached
pairs_are facts reached paired pairing is has = subst (HasPairs reached) is has

pub boards_are_of_pair : (facts : Facts) (pairing : Pairing) (stages : List Stage) → (round facts).pairing ≡ Some pairing
    → map visit stages ≡ (round facts).reached → boards_paired facts stages pairing.bye ≡ boards facts pairing
boards_are_of_pair facts pairing stages paired are =
    let same : flat_map own_pairs stages ≡ pairing.pairs =
    kept_by_stages stages ∙ ap (flat_map kept) are
    ∙ sym (pairs_are facts (round facts).reached (round facts).pairing pairing paired (round_keeps facts)) in
    ap (λ pairs. boards facts (record { pairs = pairs; bye = pairing.bye })) same
