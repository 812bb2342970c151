-- A word of points is digits, and behind them a half point or none.
use Rattle.std.proofs.Common.{◌≡◌, ℕ, ◌+◌, ◌-◌, ◌*◌, ◌≤◌, Bool, true, false, ◌&&◌, ◌||◌, ◌==◌, nat_le, cond, List, [], ◌∷◌, ◌++◌, length, refl, sym, ap, ◌∙◌, arith, inl, inr, ◌⊎◌, Some, None}
use Rattle.std.specs.List.{list_all}
use Rattle.std.specs.Char.{is_ascii_digit}
use Rattle.std.proofs.lemmas.Bool.{and_parts, and_from, or_cases, eqb-true}
use Rattle.std.proofs.lemmas.Bool.Decides.{nat_tests}
use Rattle.std.proofs.lemmas.Option.{none-some}
use Rattle.trf16_report.specs.Prelude.{number_after, half_after, points_after, points_of, SpellsHalf, SpellsPoints}

half_spelled : (whole mark : ℕ) (rest : List ℕ) (points : ℕ) → ((mark == 46) || (mark == 44)) ≡ true → half_after whole rest ≡ Some points
    → (half : ℕ) × SpellsHalf (mark ∷ rest) half × (points ≡ 2 * whole + half)
half_spelled whole mark [] points is e = absurd (none-some points e)
half_spelled whole mark (d ∷ []) points is e = by (d == 48) (d == 53) refl refl e
  where
    marks : (mark ≡ 46) ⊎ (mark ≡ 44)
    marks = elim (or_cases (mark == 46) (mark == 44) is) [ inl point ↦ inl (eqb-true mark 46 point) | inr comma ↦ inr (eqb-true mark 44 comma) ]

    by : (zero_half five : Bool) → (d == 48) ≡ zero_half → (d == 53) ≡ five → cond zero_half (Some (2 * whole)) (cond five (Some (2 * whole + 1)) None) ≡ Some points
        → (half : ℕ) × SpellsHalf (mark ∷ d ∷ []) half × (points ≡ 2 * whole + half)
    by true five is' is'' e' = let same : 2 * whole ≡ points = cc in (0, (marks, inl (eqb-true d 48 is', refl)), omega (arith, same))
    by false true is' is'' e' = let same : 2 * whole + 1 ≡ points = cc in (1, (marks, inr (eqb-true d 53 is'', refl)), omega (arith, same))
    by false false is' is'' e' = absurd (none-some points e')
half_spelled whole mark (d ∷ c ∷ rest) points is e = absurd (none-some points e)

spelled : (front : ℕ) (word : List ℕ) (points : ℕ) → points_after front word ≡ Some points → SpellsPoints front word points
spelled front [] points e =
    let same : 2 * front ≡ points = cc in
    record { digits = []; behind = []; half = 0; word_is = refl; are_digits = refl; is_half = refl; points_are = omega (arith, same) }
spelled front (b ∷ rest) points e =
    by (is_ascii_digit b) ((b == 46) || (b == 44)) refl refl e (spelled (10 * front + (b - 48)) rest points)
  where
    by : (digit point : Bool) → is_ascii_digit b ≡ digit → ((b == 46) || (b == 44)) ≡ point
        → cond digit (points_after (10 * front + (b - 48)) rest) (cond point (half_after front rest) None) ≡ Some points
        → (points_after (10 * front + (b - 48)) rest ≡ Some points → SpellsPoints (10 * front + (b - 48)) rest points) → SpellsPoints front (b ∷ rest) points
    by true point is is' e' again =
        let later = again e' in
        record {
          digits = b ∷ later.digits;
          behind = later.behind;
          half = later.half;
          word_is = ap (λ xs. b ∷ xs) later.word_is;
          are_digits = and_from (is_ascii_digit b) (list_all is_ascii_digit later.digits) is later.are_digits;
          is_half = later.is_half;
          points_are = later.points_are;
        }
    by false true is is' e' again =
        let found = half_spelled front b rest points is' e' in
        record { digits = []; behind = b ∷ rest; half = found.0; word_is = refl; are_digits = refl; is_half = found.1; points_are = found.2 }
    by false false is is' e' again = absurd (none-some points e')

half_again : (front : ℕ) (behind : List ℕ) (half : ℕ) → SpellsHalf behind half → points_after front behind ≡ Some (2 * front + half)
half_again front [] half h = ap Some (omega (arith, h))
half_again front (mark ∷ []) half h = absurd h
half_again front (mark ∷ digit ∷ []) half (inl point, inl zero_half) = rw (point, zero_half.0, zero_half.1) (ap Some (let e : 2 * front ≡ 2 * front + 0 = omega arith in e))
half_again front (mark ∷ digit ∷ []) half (inr comma, inl zero_half) = rw (comma, zero_half.0, zero_half.1) (ap Some (let e : 2 * front ≡ 2 * front + 0 = omega arith in e))
half_again front (mark ∷ digit ∷ []) half (inl point, inr five) = rw (point, five.0, five.1) refl
half_again front (mark ∷ digit ∷ []) half (inr comma, inr five) = rw (comma, five.0, five.1) refl
half_again front (mark ∷ digit ∷ more ∷ rest) half h = absurd h

again : (front : ℕ) (digits behind : List ℕ) (half : ℕ) → list_all is_ascii_digit digits ≡ true → SpellsHalf behind half
    → points_after front (digits ++ behind) ≡ Some (2 * number_after front digits + half)
again front [] behind half all h = half_again front behind half h
again front (b ∷ digits) behind half all h =
    let both = and_parts (is_ascii_digit b) (list_all is_ascii_digit digits) all in
    rw both.0 (again (10 * front + (b - 48)) digits behind half both.1 h)

-- ---- words of one to four bytes

within : (word : List ℕ) → 1 ≤ length word → length word ≤ 4 → (nat_le 1 (length word) && nat_le (length word) 4) ≡ true
within word some few = grind (arith, nat_tests)

are_within : (n : ℕ) → (nat_le 1 n && nat_le n 4) ≡ true → (1 ≤ n) × (n ≤ 4)
are_within n h = (grind (arith, nat_tests), grind (arith, nat_tests))

pub points_spelled : (word : List ℕ) (points : ℕ) → points_of word ≡ Some points → (1 ≤ length word) × (length word ≤ 4) × SpellsPoints 0 word points
points_spelled word points e = by (nat_le 1 (length word) && nat_le (length word) 4) refl e
  where
    by : (b : Bool) → (nat_le 1 (length word) && nat_le (length word) 4) ≡ b → cond b (points_after 0 word) None ≡ Some points
        → (1 ≤ length word) × (length word ≤ 4) × SpellsPoints 0 word points
    by true is e' = let fits = are_within (length word) is in (fits.0, fits.1, spelled 0 word points e')
    by false is e' = absurd (none-some points e')

pub spelled_points : (word : List ℕ) (points : ℕ) → (1 ≤ length word) × (length word ≤ 4) × SpellsPoints 0 word points → points_of word ≡ Some points
spelled_points word points h =
    let s = h.2 in
    ap (λ t. cond t (points_after 0 word) None) (within word h.0 h.1)
    ∙ ap (points_after 0) s.word_is ∙ again 0 s.digits s.behind s.half s.are_digits s.is_half ∙ ap Some (sym s.points_are)
