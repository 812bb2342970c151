-- Below all candidates of a shape that leaves nobody over the next bracket can be the same (C.04.3 C.7).
use Rattle.std.proofs.Common.{◌≡◌, ℕ, ◌+◌, ◌*◌, List, [], ◌∷◌, map, length, refl, sym, ap, ◌∙◌, arith}
use Rattle.std.proofs.lemmas.List.{length-map}
use Rattle.dutch_arrangements.specs.Prelude.{Arrangement, IsIn, down}
use Rattle.dutch_bracket.specs.declared.shaped.ShapedBracket.{ShapedBracket}
use Rattle.dutch_bracket.specs.Prelude.{Context, IsOf, NextValue, candidates_in, first_group, frame_of, next_in, quality, quality_here, quality_of, quality_with, score_at, scoregroups, seat_of, value_in}
use Rattle.dutch_bracket.proofs.DownCount.{down_count}
use Rattle.dutch_bracket.proofs.LegalPairs.{legal_of}
use Rattle.dutch_passes.specs.Prelude.{IsNextOfAll, LooksFrom, Remembered, value_below}

none_of : (xs : List ℕ) → length xs ≡ 0 → xs ≡ []
none_of [] e = refl
none_of (x ∷ xs) e = let bad : ⊥ = omega (arith, e) in absurd bad

module _ (shaped : ShapedBracket) (of' : IsOf shaped.context.now.facts shaped.context.now.reached)
    (all : length shaped.context.now.reached.seats ≡ 2 * shaped.shape.pairs) where
  abbrev pub context : Context
  context = shaped.context.now

  nobody_down : (a : Arrangement) → IsIn a (candidates_in shaped) → down (frame_of context.facts context.reached) a ≡ []
  nobody_down a m =
      let counted : length (frame_of context.facts context.reached).scores ≡ length context.reached.seats = length-map context.reached.seats (score_at context.facts) in
      let left = down_count (frame_of context.facts context.reached) shaped.shape a of'.sound.within shaped.fits.within_pairs (legal_of context.facts context.reached shaped.shape a m).arranged in
      none_of (down (frame_of context.facts context.reached) a) (omega (arith, left, counted, all))

  next_of : (a : Arrangement) (ds : List ℕ) → down (frame_of context.facts context.reached) a ≡ ds
      → next_in (quality_here context a) ≡ value_in context.reached.kind context.facts (map (seat_of context.reached.seats) ds) (first_group context.facts (scoregroups context.facts context.lower))
  unfolding quality_of quality quality_with
  next_of a ds e = ap (λ ds. value_in context.reached.kind context.facts (map (seat_of context.reached.seats) ds) (first_group context.facts (scoregroups context.facts context.lower))) e

  -- what a look at the next bracket tells for nobody
  pub nobody_left : (look : Remembered) (value : NextValue) → LooksFrom context look → value ≡ value_below look.facts look.reached look.next [] → IsNextOfAll shaped value
  nobody_left look value from is a m = next_of a [] (nobody_down a m) ∙ sym (grind (arith, is, from.field, from.bracket, from.group))
