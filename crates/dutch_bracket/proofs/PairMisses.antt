-- If both players of a pair want the same colour, one of them misses their preference; otherwise neither does.
use Rattle.std.proofs.Common.{◌≡◌, ℕ, ◌+◌, Bool, true, false, not, ◌&&◌, ◌≤◌, if◌then◌else◌, nat_lt, Option, Some, None, refl, sym, ap, ◌∙◌, arith}
use Rattle.std.specs.Option.{option_map_or}
use Rattle.trf16_report.specs.declared.cell.Colour.{Colour}
use Rattle.trf16_report.specs.declared.cell.Colour.TheVariants.{White, Black}
use Rattle.dutch_player.specs.declared.preference.Pref.{Pref}
use Rattle.dutch_player.specs.Prelude.{other, is_same, preference, Facts, SeatFacts, seat_at, granted, with_colour, colour_of_higher, colours}
use Rattle.dutch_player.proofs.LawLemmas.{granted-pair, same_comm}
use Rattle.dutch_bracket.specs.declared.colours_missed.Miss.TheVariants.{Preference, StrongPreference}
use Rattle.dutch_bracket.specs.Prelude.{one_if, is_strong, misses, count_of_both, count_in, collide}

-- a colour is not that of a preference
abbrev unmet : Option Pref → Colour → Bool
unmet wish colour = option_map_or (λ wanted. not (is_same wanted.colour colour)) wish false

met : (c : Colour) → one_if (not (is_same c c)) ≡ 0
met White = refl
met Black = refl

met_other : (c : Colour) → one_if (not (is_same c (other (other c)))) ≡ 0
met_other White = refl
met_other Black = refl

both_wish : (c d e : Colour)
    → one_if (not (is_same c (if is_same c d then e else c))) + one_if (not (is_same d (other (if is_same c d then e else c)))) ≡ one_if (is_same c d)
both_wish White White White = refl
both_wish White White Black = refl
both_wish White Black e = refl
both_wish Black White e = refl
both_wish Black Black White = refl
both_wish Black Black Black = refl

granted_misses : (initial : Colour) (high low : SeatFacts) (p q : Option Pref)
    → one_if (unmet p (granted initial high low p q)) + one_if (unmet q (other (granted initial high low p q))) ≡ one_if (collide p q)
granted_misses initial high low (Some p) (Some q) =
    ap (λ c. one_if (unmet (Some p) c) + one_if (unmet (Some q) (other c))) (granted-pair initial high low p q) ∙ both_wish p.colour q.colour _
granted_misses initial high low (Some p) None = let h = met p.colour in omega (arith, h)
granted_misses initial high low None (Some q) = let h = met_other q.colour in omega (arith, h)
granted_misses initial high low None None = refl

-- the preference of a seat
abbrev wish : Facts → ℕ → Option Pref
wish facts seat = preference (seat_at facts seat).played

with_misses : (facts : Facts) (a b : ℕ) (colour : Colour)
    → count_of_both facts (misses Preference) (with_colour a b colour) ≡ one_if (unmet (wish facts a) colour) + one_if (unmet (wish facts b) (other colour))
with_misses facts a b White = refl
with_misses facts a b Black = omega arith

higher_misses : (facts : Facts) (a b : ℕ)
    → count_of_both facts (misses Preference) (with_colour a b (colour_of_higher facts a b)) ≡ one_if (collide (wish facts a) (wish facts b))
higher_misses facts a b =
    with_misses facts a b (colour_of_higher facts a b)
    ∙ granted_misses facts.initial (seat_at facts a) (seat_at facts b) (wish facts a) (wish facts b)

collide_sym : (p q : Option Pref) → collide p q ≡ collide q p
collide_sym (Some p) (Some q) = same_comm p.colour q.colour
collide_sym (Some p) None = refl
collide_sym None (Some q) = refl
collide_sym None None = refl

either_misses : (facts : Facts) (a b : ℕ) (t : Bool)
    → count_of_both facts (misses Preference) (if t then with_colour a b (colour_of_higher facts a b) else with_colour b a (colour_of_higher facts b a))
    ≡ one_if (collide (wish facts a) (wish facts b))
either_misses facts a b true = higher_misses facts a b
either_misses facts a b false = higher_misses facts b a ∙ ap one_if (collide_sym (wish facts b) (wish facts a))

pub pair_misses : (facts : Facts) (a b : ℕ) → count_in facts (misses Preference) (a, b) ≡ one_if (collide (wish facts a) (wish facts b))
unfolding count_in
pair_misses facts a b = either_misses facts a b (nat_lt a b)

pub pair_sym : (facts : Facts) (a b : ℕ) → count_in facts (misses Preference) (a, b) ≡ count_in facts (misses Preference) (b, a)
pair_sym facts a b =
    pair_misses facts a b ∙ (ap one_if (collide_sym (wish facts a) (wish facts b)) ∙ sym (pair_misses facts b a))

-- a strong preference that is missed is a preference that is missed
and_less : (s t : Bool) → one_if (s && t) ≤ one_if t
and_less true t = omega arith
and_less false t = omega arith

strong_less : (p : Option Pref) (colour : Colour)
    → one_if (option_map_or (λ wanted. is_strong wanted.strength && not (is_same wanted.colour colour)) p false) ≤ one_if (unmet p colour)
strong_less (Some p) colour = and_less (is_strong p.strength) (not (is_same p.colour colour))
strong_less None colour = omega arith

strong_in_both : (facts : Facts) (both : ℕ × ℕ) → count_of_both facts (misses StrongPreference) both ≤ count_of_both facts (misses Preference) both
strong_in_both facts both =
    omega (arith, strong_less (wish facts both.0) White, strong_less (wish facts both.1) Black)

pub no_strong_miss : (facts : Facts) (pair : ℕ × ℕ) (test : Bool) → count_in facts (misses Preference) pair ≡ one_if test → test ≡ false
    → 0 ≡ count_in facts (misses StrongPreference) pair
unfolding count_in
no_strong_miss facts pair test e h =
    omega (arith, strong_in_both facts (colours facts pair.0 pair.1), e ∙ ap one_if h)
