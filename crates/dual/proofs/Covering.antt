-- Pairs that cover players, and those whom they leave out, make up the players, and the two of each pair may meet.
use Rattle.std.proofs.Common.{◌≡◌, ℕ, ◌+◌, Bool, true, List, [], ◌∷◌, ◌++◌, All, sum_by, ap, arith}
use Rattle.std.proofs.lemmas.List.Elements.{All-nil, All-cons}
use Rattle.std.proofs.lemmas.List.Sums.{sum_by-cons, sum_by-append}
use Rattle.dual.specs.Prelude.{in_both, Covers}

module _ (meets : ℕ → ℕ → Bool) where
  pub covers_whole : (w : ℕ → ℕ) (players : List ℕ) (pairs : List (ℕ × ℕ)) (out : List ℕ) → Covers meets players pairs out
      → sum_by (in_both w) pairs + sum_by w out ≡ sum_by w players
  covers_whole w players [] out e = omega (arith, ap (sum_by w) e)
  covers_whole w players (pair ∷ pairs) out c =
      omega (
        arith,
        sum_by-cons (in_both w) pair pairs,
        covers_whole w (c.between ++ c.behind) pairs c.later c.covered,
        ap (sum_by w) c.players_are,
        ap (sum_by w) c.out_are,
        sum_by-append w c.skipped c.later,
        sum_by-append w c.between c.behind,
        sum_by-append w c.skipped (pair.0 ∷ (c.between ++ pair.1 ∷ c.behind)),
        sum_by-cons w pair.0 (c.between ++ pair.1 ∷ c.behind),
        sum_by-append w c.between (pair.1 ∷ c.behind),
        sum_by-cons w pair.1 c.behind,
      )

  pub covers_meet : (players : List ℕ) (pairs : List (ℕ × ℕ)) (out : List ℕ) → Covers meets players pairs out
      → All (λ pair. meets pair.0 pair.1 ≡ true) pairs
  covers_meet players [] out e = All-nil (λ pair. meets pair.0 pair.1 ≡ true)
  covers_meet players (pair ∷ pairs) out c =
      All-cons (λ pair. meets pair.0 pair.1 ≡ true) pair pairs c.may_meet (covers_meet (c.between ++ c.behind) pairs c.later c.covered)
