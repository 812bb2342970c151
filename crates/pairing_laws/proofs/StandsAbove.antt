-- Each bracket that a round reaches comes next in a walk, so it stands above the players below it, above whom it has its shape.
use Rattle.std.proofs.Common.{◌≡◌, ℕ, zero, suc, ◌+◌, ◌<◌, ◌≤◌, Bool, true, false, List, [], ◌∷◌, ◌++◌, length, drop, Option, Some, None, refl, sym, ap, ◌∙◌, subst, arith}
use Rattle.std.proofs.lemmas.Bool.{cond_both}
use Rattle.std.specs.List.{AllByRecursion, concat}
use Rattle.dutch_arrangements.specs.declared.bracket.Shape.{Shape}
use Rattle.dutch_player.specs.Prelude.{Facts}
use Rattle.dutch_bracket.specs.declared.reached.BracketKind.{BracketKind}
use Rattle.dutch_bracket.specs.declared.reached.BracketKind.TheVariants.{Ordinary, Last, Penultimate, Collapsed}
use Rattle.dutch_bracket.specs.Prelude.{Reached, IsAbove, Choice, bracket, choice, completable, downfloaters, first_group, scoregroups, shape_of}
use Rattle.dutch_rounds.specs.Prelude.{Goes, GoesOut, StandsBefore, lower_of, bracket_and_shape, visit_at, visit_of, group_kind, Round, Visit, everybody, no_pairing, passing, pairing_in, penultimate_bracket, paired_again, brackets, round}
use Rattle.dutch_rounds.proofs.RoundBy.{final_by, penultimate_by, ordinary_by}
use Rattle.dutch_choice.proofs.BestLemmas.{chosen_is}
use Rattle.dutch_bracket.proofs.GroupLemmas.{concat_scoregroups}
use Rattle.dutch_rounds.proofs.GroupWalk.{IsParted, parted_by, everybody_few, everybody_goes}
use Rattle.dutch_rounds.proofs.NoDeadEnd.{everybody_out, ordinary_out}
use Rattle.dutch_rounds.proofs.WalkLemmas.{Descends}
use Rattle.dutch_rounds.proofs.WalkSteps.{stands_above, stands_again, stands_collapsed, stands_group, stands_left, stands_lower, stands_number}

ordinary_kind : (lower : List ℕ) → 0 < length lower → group_kind lower ≡ Ordinary
ordinary_kind [] h = absurd (omega (arith, h))
ordinary_kind (y ∷ ys) h = refl

module _ (facts : Facts) where
  -- a bracket that a round reached came next above some lower seats, and this was chosen in it
  pub record IsPassed (visit : Visit) : Type 0 where
    pub number : ℕ
    pub lower : List ℕ
    pub stands : StandsBefore facts number visit.bracket lower
    pub is : choice facts visit.bracket lower ≡ Some (record { shape = visit.shape; lists = visit.lists })

  abbrev pub AllPassed : List Visit → Type 0
  AllPassed visits = AllByRecursion IsPassed visits

  passed : (number : ℕ) (reached : Reached) (lower : List ℕ) (made : Choice) (again : Bool) → StandsBefore facts number reached lower → choice facts reached lower ≡ Some made
      → IsPassed (record { bracket = reached; shape = made.shape; lists = made.lists; again = again })
  passed number reached lower made again s e = record { number = number; lower = lower; stands = s; is = e }

  -- the bracket that ends a round
  final_passed : (number : ℕ) (reached : Reached) (found : Option Choice) → choice facts reached [] ≡ found → StandsBefore facts number reached [] → AllPassed (final_by facts reached found).reached
  final_passed number reached None e s = tt
  final_passed number reached (Some made) e s = (passed number reached [] made false s e, tt)

  module _ (descends : Descends facts) where
    penultimate_passed : (number : ℕ) (reached : Reached) (lower : List ℕ) (found : Option Choice) → choice facts reached lower ≡ found → reached.kind ≡ Penultimate
        → StandsBefore facts number reached lower → AllPassed (penultimate_by facts reached lower found).reached
    penultimate_passed number reached lower None e kind s = tt
    penultimate_passed number reached lower (Some made) e kind s =
        let left : List ℕ = downfloaters facts reached made.lists in
        let collapsed : Reached = bracket (reached.number + 1) Collapsed left lower in
        let own : number + 1 ≡ reached.number + 1 = ap (λ n. n + 1) (sym (stands_number facts number reached lower s)) in (
          passed number reached lower made false s e,
          final_passed (reached.number + 1) collapsed (choice facts collapsed []) refl
              (subst (λ n. StandsBefore facts n (bracket n Collapsed left lower) []) own (stands_collapsed facts number reached lower s descends made kind e)),
        )

    module _ (number : ℕ) (reached : Reached) (lower : List ℕ) (s : StandsBefore facts number reached lower) (kind : reached.kind ≡ Ordinary) (goes_on : List ℕ → Round)
        (later : (left : List ℕ) → Goes facts left lower → GoesOut facts left lower → AllPassed (goes_on left).reached) where
      ordinary_passed : (found : Option Choice) → choice facts reached lower ≡ found → AllPassed (ordinary_by facts reached lower goes_on found).reached
      ordinary_passed None e = tt
      ordinary_passed (Some made) e =
          let left : List ℕ = downfloaters facts reached made.lists in
          let again : Reached = paired_again reached in
          cond_both (completable facts (left ++ lower)) (pairing_in facts reached made (goes_on left)) (passing facts reached made (penultimate_bracket facts again lower))
          (λ (r : Round). AllPassed r.reached)
          (λ kept. (
            passed number reached lower made false s e,
            later left (stands_left facts number reached lower s descends made) (ordinary_out facts number reached lower made s kind e kept),
          ))
          (λ gone. (
            passed number reached lower made true s e,
            penultimate_passed (number + 1) again lower (choice facts again lower) refl refl (stands_again facts number reached lower s kind),
          ))

    -- ---- all brackets

    some_rest : (rest group : List ℕ) (groups : List (List ℕ)) → group ∷ groups ≡ scoregroups facts rest → 0 < length rest
    some_rest [] group groups e = let bad : group ∷ groups ≡ [] = e in absurd (cc)
    some_rest (x ∷ xs) group groups e = omega arith

    whole_rest : (rest group : List ℕ) (groups : List (List ℕ)) → group ∷ groups ≡ scoregroups facts rest → group ++ concat groups ≡ rest
    whole_rest rest group groups e = ap concat e ∙ concat_scoregroups facts rest

    parted_at : (md rest group : List ℕ) (groups : List (List ℕ)) → Goes facts md rest → group ∷ groups ≡ scoregroups facts rest → IsParted facts md rest group (concat groups)
    parted_at md rest group groups goes e = parted_by facts descends goes (some_rest rest group groups e) (whole_rest rest group groups e) (ap (first_group facts) e)

    brackets_passed : (number : ℕ) (md rest : List ℕ) (groups : List (List ℕ)) → groups ≡ scoregroups facts rest → Goes facts md rest → GoesOut facts md rest
        → number + length rest ≤ length facts.seats + 1 → AllPassed (brackets facts number md groups).reached
    brackets_passed number md rest [] e goes out small = tt
    brackets_passed number md rest (group ∷ []) e goes out small =
        let reached : Reached = bracket number Last md group in
        final_passed number reached (choice facts reached []) refl (stands_group facts number (parted_at md rest group [] goes e) (whole_rest rest group [] e) out small)
    brackets_passed number md rest (group ∷ next ∷ groups) e goes out small =
        let lower : List ℕ = concat (next ∷ groups) in
        let reached : Reached = bracket number Ordinary md group in
        let parts = parted_at md rest group (next ∷ groups) goes e in
        let others : next ∷ groups ≡ scoregroups facts lower = ap (drop 1) (e ∙ parts.groups) in
        let s : StandsBefore facts number reached lower =
        subst (λ (k : BracketKind). StandsBefore facts number (bracket number k md group) lower) (ordinary_kind lower (some_rest lower next groups others))
        (stands_group facts number parts (whole_rest rest group (next ∷ groups) e) out small) in
        ordinary_passed number reached lower s refl (λ left. brackets facts (number + 1) left (next ∷ groups))
        (λ left goes' out'. brackets_passed (number + 1) left lower (next ∷ groups) others goes' out' (omega (arith, s.out.2))) (choice facts reached lower) refl

    pub all_passed : AllPassed (round facts).reached
    all_passed =
        let all : List ℕ = everybody facts in
        cond_both (completable facts all) (brackets facts 1 [] (scoregroups facts all)) (no_pairing facts) (λ (r : Round). AllPassed r.reached)
        (λ e.
        brackets_passed 1 [] all (scoregroups facts all) refl (everybody_goes facts [] all refl refl) (everybody_out facts all refl e) (omega (arith, everybody_few facts all refl)))
        (λ e. tt)

    -- ---- the bracket of a number

    none_there : (place : ℕ) → None ≡ visit_at place []
    none_there zero = refl
    none_there (suc place) = refl

    at_place : (place : ℕ) (visits : List Visit) (visit : Visit) → AllPassed visits → visit_at place visits ≡ Some visit → IsPassed visit
    at_place place [] visit all e = let bad : None ≡ Some visit = none_there place ∙ e in absurd (cc)
    at_place zero (first ∷ visits) visit all e = let same : first ≡ visit = cc in subst IsPassed same all.0
    at_place (suc place) (first ∷ visits) visit all e = at_place place visits visit all.1 e

    abbrev StandsAbove : Reached × Shape → Type 0
    StandsAbove found = IsAbove facts found.0 (lower_of facts found.0) × (shape_of facts found.0 (lower_of facts found.0) ≡ Some found.1)

    passed_above : (visit : Visit) → IsPassed visit → StandsAbove (visit.bracket, visit.shape)
    passed_above visit p =
        let below = stands_lower facts p.number visit.bracket p.lower p.stands descends in (
          subst (IsAbove facts visit.bracket) (sym below) (stands_above facts p.number visit.bracket p.lower p.stands descends),
          ap (shape_of facts visit.bracket) below ∙ (chosen_is facts visit.bracket p.lower (record { shape = visit.shape; lists = visit.lists }) p.is).0,
        )

    shown_stands : (number : ℕ) (reached : Reached) (shape : Shape) (found : Option Visit) → found ≡ visit_of number (round facts).reached → bracket_and_shape found ≡ Some (reached, shape) → StandsAbove (reached, shape)
    shown_stands number reached shape None e is' = let bad : bracket_and_shape None ≡ Some (reached, shape) = is' in absurd (cc)
    shown_stands zero reached shape (Some visit) e is' = let bad : Some visit ≡ None = e in absurd (cc)
    shown_stands (suc place) reached shape (Some visit) e is' =
        let same : (visit.bracket, visit.shape) ≡ (reached, shape) = cc in
        subst StandsAbove same (passed_above visit (at_place place (round facts).reached visit all_passed (sym e)))

    pub bracket_stands : (number : ℕ) (reached : Reached) (shape : Shape) → bracket_and_shape (visit_of number (round facts).reached) ≡ Some (reached, shape)
        → IsAbove facts reached (lower_of facts reached) × (shape_of facts reached (lower_of facts reached) ≡ Some shape)
    bracket_stands number reached shape = shown_stands number reached shape (visit_of number (round facts).reached) refl
