-- Which of two players with firm preferences for the same colour gets the other colour, and what they then miss (C.04.3 A.6, C.3, C.8,
-- C.9, C.11, E.2).
-- One of them gets the other colour. If their preference is strong, that is a strong one missed. If it is absolute, the other one's is
-- too, since the stronger is granted first; so by C.3 one of the two is a topscorer, and the colour is one for C.8 or C.9.
use Rattle.std.proofs.Common.{◌≡◌, ℕ, ◌+◌, ◌≤◌, ◌<◌, ◌⊎◌, Bool, true, false, not, ◌&&◌, ◌||◌, nat_lt, cond, if◌then◌else◌, List, [], ◌∷◌, Option, Some, None, inl, inr, refl, sym, ap, ◌∙◌, subst, arith}
use Rattle.std.specs.Option.{option_map_or}
use Rattle.std.proofs.lemmas.List.Sums.{sum_by-cons}
use Rattle.std.proofs.lemmas.Bool.Decides.{nat_tests}
use Rattle.trf16_report.specs.declared.cell.Colour.{Colour}
use Rattle.trf16_report.specs.declared.cell.Colour.TheVariants.{White, Black}
use Rattle.dutch_player.specs.declared.preference.Strength.{Strength}
use Rattle.dutch_player.specs.declared.preference.Strength.TheVariants.{Absolute, Strong, Mild}
use Rattle.dutch_player.specs.declared.preference.Pref.{Pref}
use Rattle.dutch_player.specs.Prelude.{other, is_same, is_white, is_black, whites, blacks, last_two, for, mild, strong_or_mild, after_last_two, preference, clash, distance, granted, SeatFacts}
use Rattle.dutch_bracket.specs.Prelude.{one_if, is_wide, is_third, is_strong, is_firm}

pub at_most_one : (b : Bool) → one_if b ≤ 1
at_most_one true = omega arith
at_most_one false = omega arith

-- a game more with a colour
white_more : (played : List Colour) → (whites (White ∷ played) ≡ 1 + whites played) × (blacks (White ∷ played) ≡ blacks played)
white_more played =
    (omega (arith, sum_by-cons (λ c. cond (is_white c) 1 0) White played), omega (arith, sum_by-cons (λ c. cond (is_black c) 1 0) White played))

black_more : (played : List Colour) → (whites (Black ∷ played) ≡ whites played) × (blacks (Black ∷ played) ≡ 1 + blacks played)
black_more played =
    (omega (arith, sum_by-cons (λ c. cond (is_white c) 1 0) Black played), omega (arith, sum_by-cons (λ c. cond (is_black c) 1 0) Black played))

-- where a difference is over +1, white makes it over +2, and likewise black
white_is_wide : (played : List Colour) → nat_lt (blacks played + 1) (whites played) ≡ true → one_if (nat_lt 2 (distance (White ∷ played))) ≡ 1
white_is_wide played h =
    let more = white_more played in
    let e : whites (White ∷ played) ≡ 1 + whites played = more.0 in
    let f : blacks (White ∷ played) ≡ blacks played = more.1 in
    let lt : 2 < distance (White ∷ played) = grind (arith, nat_tests) in
    let on : nat_lt 2 (distance (White ∷ played)) ≡ true = grind (arith, nat_tests) in
    ap one_if on

black_is_wide : (played : List Colour) → nat_lt (whites played + 1) (blacks played) ≡ true → one_if (nat_lt 2 (distance (Black ∷ played))) ≡ 1
black_is_wide played h =
    let more = black_more played in
    let e : whites (Black ∷ played) ≡ whites played = more.0 in
    let f : blacks (Black ∷ played) ≡ 1 + blacks played = more.1 in
    let lt : 2 < distance (Black ∷ played) = grind (arith, nat_tests) in
    let on : nat_lt 2 (distance (Black ∷ played)) ≡ true = grind (arith, nat_tests) in
    ap one_if on

-- what kind a preference has, and which colour
abbrev strength_of : Option Pref → Strength
strength_of None = Mild
strength_of (Some wish) = wish.strength

abbrev colour_of : Option Pref → Colour
colour_of None = White
colour_of (Some wish) = wish.colour

mild_is_not : (played : List Colour) (c : Colour) → mild played ≡ Some (for Absolute c) → ⊥
mild_is_not [] c e = let k : Mild ≡ Absolute = ap strength_of e in absurd (cc)
mild_is_not (last ∷ rest) c e = let k : Mild ≡ Absolute = ap strength_of e in absurd (cc)

milder_is_not : (played : List Colour) (c : Colour) (t : Bool) → (if t then Some (for Strong White) else mild played) ≡ Some (for Absolute c) → ⊥
milder_is_not played c true e = let k : Strong ≡ Absolute = ap strength_of e in absurd (cc)
milder_is_not played c false e = mild_is_not played c e

never_absolute_at : (played : List Colour) (c : Colour) (t : Bool)
    → (if t then Some (for Strong Black) else (if nat_lt (whites played) (blacks played) then Some (for Strong White) else mild played)) ≡ Some (for Absolute c)
    → ⊥
never_absolute_at played c true e = let k : Strong ≡ Absolute = ap strength_of e in absurd (cc)
never_absolute_at played c false e = milder_is_not played c (nat_lt (whites played) (blacks played)) e

never_absolute : (played : List Colour) (c : Colour) → strong_or_mild played ≡ Some (for Absolute c) → ⊥
never_absolute played c e = never_absolute_at played c (nat_lt (blacks played) (whites played)) e

overdue_at : (played : List Colour) (c : Colour) (t u : Bool) (last : Option Colour)
    → nat_lt (blacks played + 1) (whites played) ≡ t → nat_lt (whites played + 1) (blacks played) ≡ u
    → (if t then Some (for Absolute Black) else (if u then Some (for Absolute White) else after_last_two played last)) ≡ Some (for Absolute c)
    → 1 ≤ one_if (nat_lt 2 (distance (other c ∷ played))) + one_if (option_map_or (is_same (other c)) last false)
overdue_at played White true u last h g e = let k : Black ≡ White = ap colour_of e in absurd (cc)
overdue_at played Black true u last h g e = omega (arith, white_is_wide played h)
overdue_at played White false true last h g e = omega (arith, black_is_wide played g)
overdue_at played Black false true last h g e = let k : White ≡ Black = ap colour_of e in absurd (cc)
overdue_at played White false false (Some White) h g e = let k : Black ≡ White = ap colour_of e in absurd (cc)
overdue_at played White false false (Some Black) h g e = omega arith
overdue_at played Black false false (Some White) h g e = omega arith
overdue_at played Black false false (Some Black) h g e = let k : White ≡ Black = ap colour_of e in absurd (cc)
overdue_at played White false false None h g e = absurd (never_absolute played White e)
overdue_at played Black false false None h g e = absurd (never_absolute played Black e)

-- what a colour of a player adds to C.8 and C.9 in a pair with a topscorer
abbrev pub over : SeatFacts → Colour → ℕ
over seat c = one_if (is_wide seat c) + one_if (is_third seat c)

-- whose absolute preference is not granted counts for one of the two
overdue : (seat : SeatFacts) (c : Colour) → preference seat.played ≡ Some (for Absolute c) → 1 ≤ over seat (other c)
overdue seat c e =
    overdue_at seat.played c (nat_lt (blacks seat.played + 1) (whites seat.played)) (nat_lt (whites seat.played + 1) (blacks seat.played)) (last_two seat.played) refl refl e

-- of two with absolute preferences for one colour, whichever of the two gets it
one_overdue : (high low : SeatFacts) (c given : Colour) → preference high.played ≡ Some (for Absolute c) → preference low.played ≡ Some (for Absolute c)
    → 1 ≤ over high given + over low (other given)
one_overdue high low White White e f = omega (arith, overdue low White f)
one_overdue high low White Black e f = omega (arith, overdue high White e)
one_overdue high low Black White e f = omega (arith, overdue high Black e)
one_overdue high low Black Black e f = omega (arith, overdue low Black f)

-- 1 where a preference is firm and for a colour
abbrev pub firm : Colour → Option Pref → ℕ
firm c p = one_if (option_map_or (λ wish. is_firm wish.strength && is_same wish.colour c) p false)

-- 1 where a colour is not that of a strong preference
abbrev pub strong_missed : Option Pref → Colour → ℕ
strong_missed p c = one_if (option_map_or (λ wish. is_strong wish.strength && not (is_same wish.colour c)) p false)

-- what a pair adds to C.11, and to C.8 and C.9, where the first gets a colour
abbrev pub adds : (high low : SeatFacts) (p q : Option Pref) (top : Bool) (given : Colour) → ℕ
adds high low p q top given =
    (strong_missed p given + strong_missed q (other given)) + cond top (over high given + over low (other given)) 0

one_strong_missed : (c given : Colour) → 1 ≤ strong_missed (Some (for Strong c)) given + strong_missed (Some (for Strong c)) (other given)
one_strong_missed White White = omega arith
one_strong_missed White Black = omega arith
one_strong_missed Black White = omega arith
one_strong_missed Black Black = omega arith

-- two firm preferences for one colour
two_firm : (initial : Colour) (high low : SeatFacts) (k l : Strength) (c : Colour) (top : Bool) → is_firm k ≡ true → is_firm l ≡ true
    → preference high.played ≡ Some (for k c) → preference low.played ≡ Some (for l c)
    → (top || not (clash (Some (for k c)) (Some (for l c)))) ≡ true
    → 1 ≤ adds high low (Some (for k c)) (Some (for l c)) top (granted initial high low (Some (for k c)) (Some (for l c)))
two_firm initial high low Mild l c top e f p q allowed = absurd (cc)
two_firm initial high low Absolute Mild c top e f p q allowed = absurd (cc)
two_firm initial high low Strong Mild c top e f p q allowed = absurd (cc)
two_firm initial high low Strong Strong c top e f p q allowed =
    omega (arith, one_strong_missed c (granted initial high low (Some (for Strong c)) (Some (for Strong c))))
two_firm initial high low Absolute Strong White top e f p q allowed = omega arith
two_firm initial high low Absolute Strong Black top e f p q allowed = omega arith
two_firm initial high low Strong Absolute White top e f p q allowed = omega arith
two_firm initial high low Strong Absolute Black top e f p q allowed = omega arith
two_firm initial high low Absolute Absolute White false e f p q allowed = absurd (cc)
two_firm initial high low Absolute Absolute Black false e f p q allowed = absurd (cc)
two_firm initial high low Absolute Absolute c true e f p q allowed =
    omega (arith, one_overdue high low c (granted initial high low (Some (for Absolute c)) (Some (for Absolute c))) p q)

-- a preference counts for a colour only where it is firm and for it
counts_only : (k : Strength) (d c : Colour) → (one_if (is_firm k && is_same d c) ≡ 0) ⊎ ((d ≡ c) × (is_firm k ≡ true))
counts_only Mild d c = inl refl
counts_only Strong White White = inr (refl, refl)
counts_only Strong White Black = inl refl
counts_only Strong Black White = inl refl
counts_only Strong Black Black = inr (refl, refl)
counts_only Absolute White White = inr (refl, refl)
counts_only Absolute White Black = inl refl
counts_only Absolute Black White = inl refl
counts_only Absolute Black Black = inr (refl, refl)

both_served : (initial c : Colour) (high low : SeatFacts) (k l : Strength) (d e : Colour) (top : Bool)
    → preference high.played ≡ Some (for k d) → preference low.played ≡ Some (for l e)
    → (top || not (clash (Some (for k d)) (Some (for l e)))) ≡ true
    → firm c (Some (for k d)) + firm c (Some (for l e)) ≤ 1 + adds high low (Some (for k d)) (Some (for l e)) top (granted initial high low (Some (for k d)) (Some (for l e)))
both_served initial c high low k l d e top p q allowed =
    elim (counts_only k d c) [
      | inl none ↦ omega (arith, none, at_most_one (is_firm l && is_same e c))
      | inr first ↦ elim (counts_only l e c) [
        | inl none ↦ omega (arith, none, at_most_one (is_firm k && is_same d c))
        | inr second ↦
            let P : Colour → Type 0 = λ v. preference low.played ≡ Some (for l v) → (top || not (clash (Some (for k d)) (Some (for l v)))) ≡ true
            → 1 ≤ adds high low (Some (for k d)) (Some (for l v)) top (granted initial high low (Some (for k d)) (Some (for l v))) in
            let one = subst P (first.0 ∙ sym second.0) (λ q' allowed'. two_firm initial high low k l d top first.1 second.1 p q' allowed') q allowed in
            omega (arith, one, at_most_one (is_firm k && is_same d c), at_most_one (is_firm l && is_same e c))
      ]
    ]

-- of two who may meet, with firm preferences for one colour, somebody misses a strong one, or the pair counts for C.8 or C.9
pub firm_served : (initial c : Colour) (high low : SeatFacts) (p q : Option Pref) (top : Bool)
    → preference high.played ≡ p → preference low.played ≡ q → (top || not (clash p q)) ≡ true
    → firm c p + firm c q ≤ 1 + adds high low p q top (granted initial high low p q)
firm_served initial c high low None None top e f allowed = omega arith
firm_served initial c high low None (Some y) top e f allowed = omega (arith, at_most_one (is_firm y.strength && is_same y.colour c))
firm_served initial c high low (Some x) None top e f allowed = omega (arith, at_most_one (is_firm x.strength && is_same x.colour c))
firm_served initial c high low (Some x) (Some y) top e f allowed = both_served initial c high low x.strength y.strength x.colour y.colour top e f allowed
