-- Where it is decided, bracket by bracket.
use Rattle.std.proofs.Common.{◌≡◌, ◌∙◌, ℕ, ◌<◌, Bool, true, false, cond, ◌&&◌, ◌||◌, not, inl, inr, List, [], ◌∷◌, length, map, Option, Some, None, refl, sym, ap, subst, find}
use Rattle.std.specs.Prelude.{is_some}
use Rattle.std.proofs.lemmas.Bool.{and_from, and_parts, not-true, true≢false}
use Rattle.dutch_player.specs.Prelude.{Facts}
use Rattle.dutch_bracket.specs.Prelude.{all_pairs}
use Rattle.dutch_rounds.specs.Prelude.{Pairing, is_reached, own_pairs, round, visit}
use Rattle.dutch_rounds.proofs.EverybodyStands.{stands_in_one as stands_in_a_bracket}
use Rattle.dutch_rounds.specs.Stage.{Stage}
use Rattle.dutch_candidates.specs.declared.wish.Wish.{Wish}
use Rattle.dutch_candidates.specs.declared.wish.Wish.TheVariants.{Pair, LeftOver}
use Rattle.pairing_laws.specs.SharedBrackets.{ArePaired, shares}
use Rattle.pairing_laws.proofs.SharedBrackets.{there_or_nowhere as meet_there}
use Rattle.command_line.specs.InsteadAnswers.{IsRival, decided_by, decided_in, goes_on, keeps_both, number_in, settled_in, settled_of, shared_in, stands_in, stands_in_one}
use Rattle.answer_laws.specs.InsteadLaws.{GoesDownInFirst, IsDecidedIn, IsLastOf, IsSettledIn, MeetInFirst, ShareNone}
use Rattle.command_line.specs.declared.instead.Rival.{Rival}
use Rattle.command_line.specs.declared.instead.Rival.TheVariants.{Bye, Seat}

same_found : (found other : Stage × Wish) → Some found ≡ Some other → found ≡ other
same_found found other e = cc

-- ---- the first bracket that two share

module _ (player other : ℕ) where
  abbrev meeting : Stage → Wish
  meeting stage = Pair (number_in stage player) (number_in stage other)

  shared_at : (first : Stage) (rest : List Stage) (stage : Stage) (t : Bool) → keeps_both player other first ≡ t
      → (shared_in rest player other ≡ Some stage → MeetInFirst rest player other stage (meeting stage))
      → cond t (Some first) (shared_in rest player other) ≡ Some stage → MeetInFirst (first ∷ rest) player other stage (meeting stage)
  shared_at first rest stage true is later e =
      let same : first ≡ stage = cc in
      let here : keeps_both player other stage ≡ true = ap (keeps_both player other) (sym same) ∙ is in
      let parts = and_parts (not stage.again) (stands_in player stage && stands_in other stage) here in
      record {
        front = [];
        behind = rest;
        split = ap (λ (s : Stage). s ∷ rest) same;
        none_before = λ s m. absurd m;
        keeps_pairs = not-true stage.again parts.0;
        both_stand = and_parts (stands_in player stage) (stands_in other stage) parts.1;
        wished = refl;
      }
  shared_at first rest stage false is later e =
      let there = later e in
      record {
        front = first ∷ there.front;
        behind = there.behind;
        split = ap (λ s. first ∷ s) there.split;
        none_before = λ s m. elim m [ inl same ↦ ap (keeps_both player other) same ∙ is | inr n ↦ there.none_before s n ];
        keeps_pairs = there.keeps_pairs;
        both_stand = there.both_stand;
        wished = there.wished;
      }

  is_shared : (stages : List Stage) (stage : Stage) → shared_in stages player other ≡ Some stage → MeetInFirst stages player other stage (meeting stage)
  is_shared [] stage e = cc
  is_shared (first ∷ rest) stage e = shared_at first rest stage (keeps_both player other first) refl (is_shared rest stage) e

  none_at : (first : Stage) (rest : List Stage) (t : Bool) → keeps_both player other first ≡ t → (shared_in rest player other ≡ None → ShareNone rest player other)
      → cond t (Some first) (shared_in rest player other) ≡ None → ShareNone (first ∷ rest) player other
  none_at first rest true is later e = absurd (let bad : Some first ≡ None = e in cc)
  none_at first rest false is later e = λ stage m. elim m [ inl same ↦ ap (keeps_both player other) same ∙ is | inr n ↦ later e stage n ]

  none_shared : (stages : List Stage) → shared_in stages player other ≡ None → ShareNone stages player other
  none_shared [] e = λ stage m. absurd m
  none_shared (first ∷ rest) e = none_at first rest (keeps_both player other first) refl (none_shared rest) e

  -- it is the first of the brackets that were reached
  reached_at : (first : Stage) (rest : List Stage) (stage : Stage) (t : Bool)
      → (shared_in rest player other ≡ Some stage → find (shares player other) (map visit rest) ≡ Some (visit stage))
      → cond t (Some first) (shared_in rest player other) ≡ Some stage → cond t (Some (visit first)) (find (shares player other) (map visit rest)) ≡ Some (visit stage)
  reached_at first rest stage true later e = let same : first ≡ stage = cc in ap (λ s. Some (visit s)) same
  reached_at first rest stage false later e = later e

  shared_reached : (stages : List Stage) (stage : Stage) → shared_in stages player other ≡ Some stage → find (shares player other) (map visit stages) ≡ Some (visit stage)
  shared_reached [] stage e = absurd (let bad : None ≡ Some stage = e in cc)
  shared_reached (first ∷ rest) stage e = reached_at first rest stage (keeps_both player other first) (shared_reached rest stage) e

-- ---- the first of the last brackets

here_of : (here later : Bool) → (here || later) ≡ true → later ≡ false → here ≡ true
here_of true later came none = refl
here_of false later came none = absurd (true≢false (sym came ∙ none))

-- who stands in a bracket or behind it, and in none behind it, has the last bracket there
last_of : (seat : ℕ) (stage : Stage) (behind : List Stage) → stands_in_one (stage ∷ behind) seat ≡ true → stands_in_one behind seat ≡ false → IsLastOf seat stage behind
last_of seat stage behind came none =
    record { stands_here = here_of (stands_in seat stage) (stands_in_one behind seat) came none; none_behind = none }

-- both stand in some of these brackets
abbrev both_in : ℕ → Rival → List Stage → Bool
both_in player rival stages = stands_in_one stages player && goes_on stages rival

-- where one of two does not stand behind a bracket, it is the last of whoever is settled there
settles : (player : ℕ) (rival : Rival) (stage : Stage) (behind : List Stage) (t : Bool) → stands_in_one behind player ≡ t → (t && goes_on behind rival) ≡ false
    → both_in player rival (stage ∷ behind) ≡ true → IsSettledIn player rival stage behind (settled_of behind player rival)
settles player Bye stage behind true e ends both = absurd (true≢false ends)
settles player Bye stage behind false e ends both = record {
  one = refl;
  last = last_of player stage behind (and_parts (stands_in_one (stage ∷ behind) player) true both).0 e;
  player_first = λ none. refl;
  both_come = both;
}
settles player (Seat other) stage behind true e ends both =
    let two = and_parts (stands_in_one (stage ∷ behind) player) (stands_in_one (stage ∷ behind) other) both in
    subst (λ t. IsSettledIn player (Seat other) stage behind (cond t other player)) (sym e)
    (record { one = inr refl; last = last_of other stage behind two.1 ends; player_first = λ none. absurd (true≢false (sym e ∙ none)); both_come = both })
settles player (Seat other) stage behind false e ends both =
    let two = and_parts (stands_in_one (stage ∷ behind) player) (stands_in_one (stage ∷ behind) other) both in
    subst (λ t. IsSettledIn player (Seat other) stage behind (cond t other player)) (sym e)
    (record { one = inl refl; last = last_of player stage behind two.0 e; player_first = λ none. refl; both_come = both })

module _ (player : ℕ) (rival : Rival) where
  -- that whoever is settled in a bracket is left over in it
  abbrev going_down : Stage → List Stage → Wish
  going_down stage behind = LeftOver (number_in stage (settled_of behind player rival))

  settled_at : (first : Stage) (rest : List Stage) (stage : Stage) (wish : Wish) (t : Bool) → both_in player rival rest ≡ t → both_in player rival (first ∷ rest) ≡ true
      → (both_in player rival rest ≡ true → settled_in rest player rival ≡ Some (stage, wish) → GoesDownInFirst rest player rival stage wish)
      → cond t (settled_in rest player rival) (Some (first, going_down first rest)) ≡ Some (stage, wish) → GoesDownInFirst (first ∷ rest) player rival stage wish
  settled_at first rest stage wish true both came later e =
      let there = later both e in
      record {
        front = first ∷ there.front;
        behind = there.behind;
        split = ap (λ s. first ∷ s) there.split;
        settled = there.settled;
        ends = there.ends;
        wished = there.wished;
      }
  settled_at first rest stage wish false ends came later e =
      let both = same_found (first, going_down first rest) (stage, wish) e in
      subst (λ (found : Stage × Wish). GoesDownInFirst (first ∷ rest) player rival found.0 found.1) both
      (record {
        front = [];
        behind = rest;
        split = refl;
        settled = settled_of rest player rival;
        ends = settles player rival first rest (stands_in_one rest player) refl ends came;
        wished = refl;
      })

  is_settled : (stages : List Stage) (stage : Stage) (wish : Wish) → both_in player rival stages ≡ true → settled_in stages player rival ≡ Some (stage, wish)
      → GoesDownInFirst stages player rival stage wish
  is_settled [] stage wish both e = cc
  is_settled (first ∷ rest) stage wish both e = settled_at first rest stage wish (both_in player rival rest) refl both (is_settled rest stage wish) e

  some_at : (first : Stage) (rest : List Stage) (t : Bool) → both_in player rival rest ≡ t → (both_in player rival rest ≡ true → is_some (settled_in rest player rival) ≡ true)
      → is_some (cond t (settled_in rest player rival) (Some (first, going_down first rest))) ≡ true
  some_at first rest true both later = later both
  some_at first rest false ends later = refl

  is_somewhere : (stages : List Stage) → both_in player rival stages ≡ true → is_some (settled_in stages player rival) ≡ true
  is_somewhere [] both = absurd (true≢false (sym both))
  is_somewhere (first ∷ rest) both = some_at first rest (both_in player rival rest) refl (is_somewhere rest)

-- ---- either of them

decided_some : (stages : List Stage) (player other : ℕ) (found : Option Stage) → is_some (settled_in stages player (Seat other)) ≡ true
    → is_some (decided_by found stages player other) ≡ true
decided_some stages player other (Some stage) settled = refl
decided_some stages player other None settled = settled

is_decided_by : (stages : List Stage) (player other : ℕ) (stage : Stage) (wish : Wish) (found : Option Stage) → shared_in stages player other ≡ found
    → both_in player (Seat other) stages ≡ true → decided_by found stages player other ≡ Some (stage, wish) → IsDecidedIn stages player (Seat other) stage wish
is_decided_by stages player other stage wish (Some shared) is both e =
    inl
    (subst (λ (found : Stage × Wish). MeetInFirst stages player other found.0 found.1) (same_found (shared, meeting player other shared) (stage, wish) e)
    (is_shared player other stages shared is))
is_decided_by stages player other stage wish None is both e = inr (none_shared player other stages is, is_settled player (Seat other) stages stage wish both e)

somewhere : (stages : List Stage) (player : ℕ) (rival : Rival) → both_in player rival stages ≡ true → is_some (decided_in stages player rival) ≡ true
somewhere stages player Bye both = is_somewhere player Bye stages both
somewhere stages player (Seat other) both = decided_some stages player other (shared_in stages player other) (is_somewhere player (Seat other) stages both)

is_decided : (stages : List Stage) (player : ℕ) (rival : Rival) (stage : Stage) (wish : Wish) → both_in player rival stages ≡ true
    → decided_in stages player rival ≡ Some (stage, wish) → IsDecidedIn stages player rival stage wish
is_decided stages player Bye stage wish both e = is_settled player Bye stages stage wish both e
is_decided stages player (Seat other) stage wish both e = is_decided_by stages player other stage wish (shared_in stages player other) refl both e

-- ---- in a round that is paired

-- a seat stands in one of some stages as it stands in one of the brackets that they are
stands_as_reached : (stages : List Stage) (seat : ℕ) → stands_in_one stages seat ≡ is_reached (map visit stages) seat
stands_as_reached [] seat = refl
stands_as_reached (stage ∷ stages) seat = ap (λ t. stands_in seat stage || t) (stands_as_reached stages seat)

module _ (facts : Facts) (pairing : Pairing) (stages : List Stage) where
  stands : (seat : ℕ) → (round facts).pairing ≡ Some pairing → map visit stages ≡ (round facts).reached → seat < length facts.seats → stands_in_one stages seat ≡ true
  stands seat paired are within =
      stands_as_reached stages seat ∙ (ap (λ visits. is_reached visits seat) are ∙ stands_in_a_bracket facts seat pairing paired within)

  comes : (rival : Rival) → (round facts).pairing ≡ Some pairing → map visit stages ≡ (round facts).reached → IsRival facts rival → goes_on stages rival ≡ true
  comes Bye paired are within = refl
  comes (Seat seat) paired are within = stands seat paired are within

  both_stand : (player : ℕ) (rival : Rival) → (round facts).pairing ≡ Some pairing → map visit stages ≡ (round facts).reached → player < length facts.seats → IsRival facts rival
      → both_in player rival stages ≡ true
  both_stand player rival paired are within theirs =
      and_from (stands_in_one stages player) (goes_on stages rival) (stands player paired are within) (comes rival paired are theirs)

  pub is_decided_somewhere : (player : ℕ) (rival : Rival) → (round facts).pairing ≡ Some pairing → map visit stages ≡ (round facts).reached → player < length facts.seats
      → IsRival facts rival → is_some (decided_in stages player rival) ≡ true
  is_decided_somewhere player rival paired are within theirs = somewhere stages player rival (both_stand player rival paired are within theirs)

  pub is_decided_first : (player : ℕ) (rival : Rival) (stage : Stage) (wish : Wish) → (round facts).pairing ≡ Some pairing → map visit stages ≡ (round facts).reached
      → player < length facts.seats → IsRival facts rival → decided_in stages player rival ≡ Some (stage, wish) → IsDecidedIn stages player rival stage wish
  is_decided_first player rival stage wish paired are within theirs e = is_decided stages player rival stage wish (both_stand player rival paired are within theirs) e

  pub there_or_nowhere : (player other : ℕ) (stage : Stage) → (round facts).pairing ≡ Some pairing → map visit stages ≡ (round facts).reached
      → shared_in stages player other ≡ Some stage → ArePaired player other pairing.pairs → ArePaired player other (own_pairs stage)
  there_or_nowhere player other stage paired are shared pairs =
      let first = ap (find (shares player other)) (sym are) ∙ shared_reached player other stages stage shared in
      subst (λ t. ArePaired player other (cond t [] (all_pairs stage.reached.seats stage.candidate.lists))) (sym (is_shared player other stages stage shared).keeps_pairs)
      (meet_there facts pairing player other (visit stage) paired first pairs)
