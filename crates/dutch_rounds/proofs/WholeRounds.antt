-- The pairs of a round and its bye are all present players, each once, and at most one has the bye, bracket by bracket.
use Rattle.std.proofs.Common.{◌≡◌, ℕ, ◌+◌, ◌≤◌, true, List, [], ◌∷◌, ◌++◌, length, Option, Some, None, refl, ap, subst, arith, length-append}
use Rattle.std.proofs.lemmas.Bool.{cond_both}
use Rattle.std.specs.Prelude.{IfSome, option_map}
use Rattle.std.specs.List.{concat}
use Rattle.dutch_arrangements.specs.Prelude.{Candidate, down}
use Rattle.dutch_player.specs.Prelude.{Facts}
use Rattle.dutch_bracket.specs.Prelude.{Reached, ends_round, frame_of, Choice, bracket, choice, completable, downfloaters, scoregroups, all_pairs}
use Rattle.dutch_rounds.proofs.OneBye.{left_few}
use Rattle.dutch_rounds.proofs.WalkEnds.{of_bracket}
use Rattle.dutch_bracket.specs.declared.reached.BracketKind.{BracketKind}
use Rattle.dutch_bracket.specs.declared.reached.BracketKind.TheVariants.{Ordinary, Last, Collapsed}
use Rattle.dutch_rounds.specs.Prelude.{Round, Pairing, everybody, pairing_in, passing, no_pairing, final_bracket, penultimate_bracket, paired_again, ordinary_bracket, brackets, round}
use Rattle.dutch_rounds.proofs.RoundBy.{final_by, penultimate_by, ordinary_by}
use Rattle.dutch_bracket.proofs.GroupLemmas.{concat_scoregroups}
use Rattle.dutch_bracket.proofs.Totals.{total, total_append}
use Rattle.dutch_bracket.proofs.Everybody.{pairs_total, pairs_append, bracket_whole}

module _ (w : ℕ → ℕ) (facts : Facts) (reached : Reached) where
  -- what is chosen in a bracket pairs and leaves over its players, each once
  pub choice_whole : (lower : List ℕ) (chosen : Choice) → reached.mdps ≤ length reached.seats → choice facts reached lower ≡ Some chosen
      → pairs_total w (all_pairs reached.seats chosen.lists) + total w (downfloaters facts reached chosen.lists) ≡ total w reached.seats
  choice_whole lower chosen within e =
      let candidate : Candidate = record { lists = chosen.lists; down = down (frame_of facts reached) chosen.lists } in
      let of_bracket' = of_bracket facts reached lower chosen.shape candidate e refl in
      bracket_whole w facts reached of_bracket'.lists.0 chosen.lists within of_bracket'.lists.1

module _ (w : ℕ → ℕ) where
  -- what all of a pairing weigh
  abbrev pub pairing_total : Pairing → ℕ
  pairing_total pairing = pairs_total w pairing.pairs + total w pairing.bye

  -- a pairing, if there is one, weighs so much, and has at most one bye
  abbrev pub Weighs : ℕ → Option Pairing → Type 0
  Weighs n found = IfSome found (λ pairing. (pairing_total pairing ≡ n) × (length pairing.bye ≤ 1))

  reweighed : (n m : ℕ) (found : Option Pairing) → n ≡ m → Weighs n found → Weighs m found
  reweighed n m found same weighs = subst (λ k. Weighs k found) same weighs

  module _ (facts : Facts) where
    pairing_more : (reached : Reached) (chosen : Choice) (rest : Option Pairing) (n m : ℕ) → pairs_total w (all_pairs reached.seats chosen.lists) + m ≡ n → Weighs m rest
        → Weighs n (option_map (λ later. record { pairs = all_pairs reached.seats chosen.lists ++ later.pairs; bye = later.bye }) rest)
    pairing_more reached chosen None n m sum weighs = tt
    pairing_more reached chosen (Some later) n m sum weighs =
        (omega (arith, sum, weighs.0, pairs_append w (all_pairs reached.seats chosen.lists) later.pairs), weighs.1)

    -- ---- the bracket that ends a round

    final_at : (reached : Reached) (found : Option Choice) → reached.mdps ≤ length reached.seats → ends_round reached.kind ≡ true → choice facts reached [] ≡ found
        → Weighs (total w reached.seats) (final_by facts reached found).pairing
    final_at reached None within ends e = tt
    final_at reached (Some chosen) within ends e =
        let whole = choice_whole w facts reached [] chosen within e in
        pairing_more reached chosen (Some (record { pairs = []; bye = downfloaters facts reached chosen.lists })) (total w reached.seats) (total w (downfloaters facts reached chosen.lists)) whole
        (omega arith, left_few facts reached [] chosen ends e)

    final_whole : (reached : Reached) → reached.mdps ≤ length reached.seats → ends_round reached.kind ≡ true → Weighs (total w reached.seats) (final_bracket facts reached).pairing
    final_whole reached within ends = final_at reached (choice facts reached []) within ends refl

    -- as many are moved down into a bracket as it has players, or fewer
    moved_within : (number : ℕ) (kind : BracketKind) (moved_down residents : List ℕ) → (bracket number kind moved_down residents).mdps ≤ length (bracket number kind moved_down residents).seats
    moved_within number kind moved_down residents = omega (arith, length-append moved_down residents)

    -- ---- the penultimate bracket

    penultimate_at : (reached : Reached) (lower : List ℕ) (found : Option Choice) → reached.mdps ≤ length reached.seats → choice facts reached lower ≡ found
        → Weighs (total w reached.seats + total w lower) (penultimate_by facts reached lower found).pairing
    penultimate_at reached lower None within e = tt
    penultimate_at reached lower (Some chosen) within e =
        let left : List ℕ = downfloaters facts reached chosen.lists in
        let last : Reached = bracket (reached.number + 1) Collapsed left lower in
        let whole = choice_whole w facts reached lower chosen within e in
        let both = total_append w left lower in
        pairing_more reached chosen (final_bracket facts last).pairing (total w reached.seats + total w lower) (total w last.seats) (omega (arith, whole, both))
        (final_whole last (moved_within (reached.number + 1) Collapsed left lower) refl)

    penultimate_whole : (reached : Reached) (lower : List ℕ) → reached.mdps ≤ length reached.seats → Weighs (total w reached.seats + total w lower) (penultimate_bracket facts (paired_again reached) lower).pairing
    penultimate_whole reached lower within = penultimate_at (paired_again reached) lower (choice facts (paired_again reached) lower) within refl

    -- ---- an ordinary bracket

    ordinary_at : (reached : Reached) (lower : List ℕ) (goes_on : List ℕ → Round) (found : Option Choice) → reached.mdps ≤ length reached.seats → choice facts reached lower ≡ found
        → ((left : List ℕ) → Weighs (total w left + total w lower) (goes_on left).pairing)
        → Weighs (total w reached.seats + total w lower) (ordinary_by facts reached lower goes_on found).pairing
    ordinary_at reached lower goes_on None within e later = tt
    ordinary_at reached lower goes_on (Some chosen) within e later =
        let left : List ℕ = downfloaters facts reached chosen.lists in
        let whole = choice_whole w facts reached lower chosen within e in
        cond_both (completable facts (left ++ lower)) (pairing_in facts reached chosen (goes_on left)) (passing facts reached chosen (penultimate_bracket facts (paired_again reached) lower))
        (λ (r : Round). Weighs (total w reached.seats + total w lower) r.pairing)
        (λ t. pairing_more reached chosen (goes_on left).pairing (total w reached.seats + total w lower) (total w left + total w lower) (omega (arith, whole)) (later left))
        (λ t. penultimate_whole reached lower within)

    -- ---- all brackets

    no_groups : (group : List ℕ) (groups : List (List ℕ)) → (group ∷ groups) ≡ [] → ⊥
    no_groups group groups e = cc

    brackets_whole : (number : ℕ) (moved_down : List ℕ) (groups : List (List ℕ)) → (groups ≡ [] → length moved_down ≤ 1)
        → Weighs (total w moved_down + total w (concat groups)) (brackets facts number moved_down groups).pairing
    brackets_whole number moved_down [] few = (omega arith, few refl)
    brackets_whole number moved_down (group ∷ []) few =
        let reached : Reached = bracket number Last moved_down group in
        reweighed (total w reached.seats) (total w moved_down + total w (concat (group ∷ []))) (final_bracket facts reached).pairing
        (omega (arith, total_append w moved_down group, total_append w group []))
        (final_whole reached (moved_within number Last moved_down group) refl)
    brackets_whole number moved_down (group ∷ next ∷ groups) few =
        let reached : Reached = bracket number Ordinary moved_down group in
        let lower : List ℕ = concat (next ∷ groups) in
        let goes_on : List ℕ → Round = λ left. brackets facts (number + 1) left (next ∷ groups) in
        reweighed (total w reached.seats + total w lower) (total w moved_down + total w (concat (group ∷ next ∷ groups))) (ordinary_bracket facts reached lower goes_on).pairing
        (omega (arith, total_append w moved_down group, total_append w group lower))
        (ordinary_at reached lower goes_on (choice facts reached lower) (moved_within number Ordinary moved_down group) refl
        (λ left. brackets_whole (number + 1) left (next ∷ groups) (λ e. absurd (no_groups next groups e))))

    pub round_whole : Weighs (total w (everybody facts)) (round facts).pairing
    round_whole =
        let all : List ℕ = everybody facts in
        cond_both (completable facts all) (brackets facts 1 [] (scoregroups facts all)) (no_pairing facts) (λ (r : Round). Weighs (total w all) r.pairing)
        (λ t. reweighed (total w [] + total w (concat (scoregroups facts all))) (total w all) (brackets facts 1 [] (scoregroups facts all)).pairing
        (omega (arith, ap (total w) (concat_scoregroups facts all))) (brackets_whole 1 [] (scoregroups facts all) (λ e. omega arith))) (λ t. tt)

pub one_bye : (facts : Facts) (pairing : Pairing) → (round facts).pairing ≡ Some pairing → length pairing.bye ≤ 1
one_bye facts pairing e =
    let w : ℕ → ℕ = λ seat. 0 in
    (subst (λ found. Weighs w (total w (everybody facts)) found) e (round_whole w facts)).1
