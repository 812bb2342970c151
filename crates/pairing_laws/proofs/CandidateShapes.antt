-- The pairs of a candidate, with any others, make a shape that is no less than the candidate's (C.04.3 B.1, C.5).
use Rattle.std.proofs.Common.{◌≡◌, ℕ, ◌≤◌, Bool, true, cond, nat_le, List, [], ◌∷◌, ◌++◌, All, length, inl, inr, refl, ap, ◌∙◌, arith}
use Rattle.std.specs.Prelude.{filter}
use Rattle.std.proofs.lemmas.Bool.{or_left}
use Rattle.std.proofs.lemmas.List.{append_assoc, length-append, length-map}
use Rattle.std.proofs.lemmas.List.Elements.{All-nil, All-cons, All-head, All-tail, filter-append}
use Rattle.dutch_arrangements.specs.declared.bracket.Shape.{Shape}
use Rattle.dutch_arrangements.specs.Prelude.{Arrangement, IsIn, by_place}
use Rattle.dutch_bracket.specs.Prelude.{Context, FitsHere, IsOf, candidates_of, score_at}
use Rattle.dutch_candidates.proofs.CandidatePairs.{first_count, lists, low, other_count, s1_low}
use Rattle.dutch_bracket.proofs.LegalPairs.{IsArranged, legal_of}
use Rattle.dutch_choice.specs.Prelude.{are_pair}
use Rattle.dutch_choice.proofs.CandidateCosts.{all_pairs}
use Rattle.pairing_laws.specs.GreatestMatchings.{has_mdp, made_shape, pairs_here}

-- ---- pairs by place

placed_count : (firsts seconds : List ℕ) → length firsts ≡ length seconds → length (by_place firsts seconds) ≡ length firsts
placed_count [] [] e = refl
placed_count [] (b ∷ seconds) e = absurd (omega (arith, e))
placed_count (a ∷ firsts) [] e = absurd (omega (arith, e))
placed_count (a ∷ firsts) (b ∷ seconds) e = omega (arith, placed_count firsts seconds (omega (arith, e)))

lows_placed : {q : ℕ} (P : ℕ × ℕ → Type 0) → ((x y : ℕ) → x ≤ q → P (x, y)) → (firsts seconds : List ℕ) → ((z : ℕ) → IsIn z firsts → z ≤ q)
    → All P (by_place firsts seconds)
lows_placed P each [] seconds few = All-nil P
lows_placed P each (a ∷ firsts) [] few = All-nil P
lows_placed P each (a ∷ firsts) (b ∷ seconds) few =
    All-cons P (a, b) (by_place firsts seconds) (each a b (few a (inl refl))) (lows_placed P each firsts seconds (λ z m. few z (inr m)))

all_kept : (p : ℕ × ℕ → Bool) (ps : List (ℕ × ℕ)) → All (λ pair. p pair ≡ true) ps → filter p ps ≡ ps
all_kept p [] all = refl
all_kept p (pair ∷ ps) all =
    ap (λ t. cond t (pair ∷ filter p ps) (filter p ps)) (All-head (λ pair. p pair ≡ true) pair ps all)
    ∙ ap (λ rest. pair ∷ rest) (all_kept p ps (All-tail (λ pair. p pair ≡ true) pair ps all))

module _ (context : Context) (of' : IsOf context.facts context.reached) (shape : Shape) (a : Arrangement) (room : FitsHere context shape)
    (m : IsIn a (candidates_of context.facts context.reached shape)) where
  within : context.reached.mdps ≤ length context.reached.seats
  within = omega (arith, of'.sound.within, length-map context.reached.seats (score_at context.facts))

  legal : IsArranged context.facts context.reached shape a
  legal = legal_of context.facts context.reached shape a m

  abbrev firsts : List (ℕ × ℕ)
  firsts = by_place a.s1 a.s2

  abbrev others : List (ℕ × ℕ)
  others = by_place a.s1r a.s2r ++ []

  abbrev pairs : List (ℕ × ℕ)
  pairs = firsts ++ others

  abbrev HasLow : ℕ × ℕ → Type 0
  HasLow pair = has_mdp context pair ≡ true

  firsts_low : All HasLow firsts
  firsts_low =
      lows_placed HasLow (λ x y h. or_left (nat_le x context.reached.mdps) (nat_le y context.reached.mdps) (low x context.reached.mdps h)) a.s1 a.s2
      (λ z i. (s1_low context.facts context.reached shape a within legal z i).1)

  made_is : (all more : List (ℕ × ℕ)) → all ≡ pairs ++ more → pairs_here context all ≡ firsts ++ (others ++ pairs_here context more)
  made_is all more e =
      ap (pairs_here context) e
      ∙ filter-append (λ pair. are_pair context pair.0 pair.1) pairs more
      ∙ ap (λ ps. ps ++ pairs_here context more) (all_kept (λ pair. are_pair context pair.0 pair.1) pairs (all_pairs context of' shape a room m))
      ∙ append_assoc firsts others (pairs_here context more)

  pub many_made : (all more : List (ℕ × ℕ)) → all ≡ pairs ++ more → shape.pairs ≤ (made_shape context all).pairs
  many_made all more e =
      let four = lists context.facts context.reached shape a within legal in
      omega (
        arith,
        ap length (made_is all more e),
        length-append firsts (others ++ pairs_here context more),
        length-append others (pairs_here context more),
        length-append (by_place a.s1r a.s2r) [],
        placed_count a.s1 a.s2 (first_count context.facts context.reached shape a within legal),
        placed_count a.s1r a.s2r (other_count context.facts context.reached shape a within legal),
        four.s1.count,
        four.s1r.count,
        room.within_pairs,
      )

  pub low_made : (all more : List (ℕ × ℕ)) → all ≡ pairs ++ more → shape.mdps ≤ (made_shape context all).mdps
  low_made all more e =
      let four = lists context.facts context.reached shape a within legal in
      omega (
        arith,
        ap (λ ps. length (filter (has_mdp context) ps)) (made_is all more e),
        ap length (filter-append (has_mdp context) firsts (others ++ pairs_here context more)),
        length-append (filter (has_mdp context) firsts) (filter (has_mdp context) (others ++ pairs_here context more)),
        ap length (all_kept (has_mdp context) firsts firsts_low),
        placed_count a.s1 a.s2 (first_count context.facts context.reached shape a within legal),
        four.s1.count,
      )
