-- What a pair weighs depends on the classes of its two players alone (C.04.3 C.6, C.8 to C.19).
-- Scores and floats are told by the classes, and so are C.6 and C.12 to C.19. Of C.10 and C.11 it is the two preferences that tell how many
-- players miss theirs, whoever that is. C.8 and C.9 count no player without an absolute preference; and where one of the two has none, the
-- other one is granted theirs. Where both have one, in the last round each of them is of a class of their own.
use Rattle.std.proofs.Common.{◌≡◌, ℕ, ◌+◌, ◌-◌, ◌≤◌, Bool, true, false, not, ◌&&◌, ◌||◌, nat_lt, cond, if◌then◌else◌, List, [], ◌∷◌, ◌++◌, map, length, sum_by, Option, Some, None, refl, sym, ap, ◌∙◌, arith}
use Rattle.std.specs.Prelude.{◌==◌}
use Rattle.std.specs.Option.{option_map_or}
use Rattle.std.proofs.lemmas.Bool.Decides.{nat_tests}
use Rattle.std.proofs.lemmas.List.{length-map}
use Rattle.std.proofs.lemmas.List.Sums.{sum_by-cons}
use Rattle.trf16_report.specs.declared.cell.Colour.{Colour}
use Rattle.trf16_report.specs.declared.cell.Colour.TheVariants.{White, Black}
use Rattle.dutch_player.specs.declared.float.Float.{Float}
use Rattle.dutch_player.specs.declared.float.Float.TheVariants.{Up, Down}
use Rattle.dutch_player.specs.declared.preference.Strength.{Strength}
use Rattle.dutch_player.specs.declared.preference.Strength.TheVariants.{Absolute, Strong, Mild}
use Rattle.dutch_player.specs.declared.preference.Pref.{Pref}
use Rattle.dutch_player.specs.Prelude.{Facts, SeatFacts, seat_at, other, is_same, is_white, is_black, whites, blacks, last_two, for, after_last_two, preference, is_absolute, distance, granted, with_colour, colour_of_higher}
use Rattle.dutch_player.proofs.LawLemmas.{granted-pair, same_comm}
use Rattle.dutch_bracket.specs.declared.seated.Floater.{Floater}
use Rattle.dutch_bracket.specs.declared.colours_missed.Miss.TheVariants.{Preference, StrongPreference}
use Rattle.dutch_bracket.specs.Prelude.{Reached, seated_so, no_value, quality_with, psd, difference, score_at, seat_of, goes_down, goes_up, going_down, going_up, is_uneven, again, float_of, is_float, highest_first, collide, count_in, count_of_both, count_with_topscorers, has_topscorer, is_firm, is_strong, is_third, is_wide, misses, one_if}
use Rattle.dutch_bracket.proofs.PairMisses.{pair_misses}
use Rattle.dutch_weighing.specs.Prelude.{Weighing, class_at, class_of, is_absolute_if_any, pair_weight, weight_with}
use Rattle.dutch_weighing.specs.declared.classes.PlayerClass.{PlayerClass}

-- ---- who of two gets which colour

-- the preference of a seat
abbrev wish : Facts → ℕ → Option Pref
wish facts seat = preference (seat_at facts seat).played

-- how many of two something holds of, where the first gets a colour and the second the other one
abbrev of_two : (SeatFacts → Colour → Bool) → SeatFacts → SeatFacts → Colour → ℕ
of_two holds high low colour = one_if (holds high colour) + one_if (holds low (other colour))

-- how many that is, where the colours are given by who has white and who has black
in_colours : (facts : Facts) (holds : SeatFacts → Colour → Bool) (a b : ℕ) (colour : Colour)
    → count_of_both facts holds (with_colour a b colour) ≡ of_two holds (seat_at facts a) (seat_at facts b) colour
in_colours facts holds a b White = refl
in_colours facts holds a b Black = omega arith

-- of two of whom the first ranks higher
abbrev of_ranked : Facts → (SeatFacts → Colour → Bool) → ℕ → ℕ → ℕ
of_ranked facts holds high low = of_two holds (seat_at facts high) (seat_at facts low) (colour_of_higher facts high low)

-- what is so of the one order and of the other is so of the order in which the two stand
in_order : (facts : Facts) (holds : SeatFacts → Colour → Bool) (a b n : ℕ) → of_ranked facts holds a b ≡ n → of_ranked facts holds b a ≡ n
    → (t : Bool) → count_of_both facts holds (if t then with_colour a b (colour_of_higher facts a b) else with_colour b a (colour_of_higher facts b a)) ≡ n
in_order facts holds a b n one two true = in_colours facts holds a b (colour_of_higher facts a b) ∙ one
in_order facts holds a b n one two false = in_colours facts holds b a (colour_of_higher facts b a) ∙ two

-- what is so of two whoever of them ranks higher is so of the pair
either_order : (facts : Facts) (holds : SeatFacts → Colour → Bool) (a b n : ℕ) → of_ranked facts holds a b ≡ n → of_ranked facts holds b a ≡ n
    → count_in facts holds (a, b) ≡ n
unfolding count_in
either_order facts holds a b n one two = in_order facts holds a b n one two (nat_lt a b)

-- ---- C.11: of two preferences for one colour the weaker one is missed

-- 1 where a colour is not that of a strong preference
abbrev missed_strongly : Option Pref → Colour → ℕ
missed_strongly p colour = one_if (option_map_or (λ wanted. is_strong wanted.strength && not (is_same wanted.colour colour)) p false)

-- 1 where the weaker one of two preferences is strong
abbrev weaker_is_strong : Strength → Strength → ℕ
weaker_is_strong k l = one_if ((is_strong k && is_firm l) || (is_firm k && is_strong l))

-- how many miss a strong preference that is not absolute: 1 where both prefer one colour and the weaker one of the two is strong
abbrev lost : Option Pref → Option Pref → ℕ
lost (Some p) (Some q) = cond (is_same p.colour q.colour) (weaker_is_strong p.strength q.strength) 0
lost _ _ = 0

weaker_sym : (k l : Strength) → weaker_is_strong k l ≡ weaker_is_strong l k
weaker_sym Absolute Absolute = refl
weaker_sym Absolute Strong = refl
weaker_sym Absolute Mild = refl
weaker_sym Strong Absolute = refl
weaker_sym Strong Strong = refl
weaker_sym Strong Mild = refl
weaker_sym Mild Absolute = refl
weaker_sym Mild Strong = refl
weaker_sym Mild Mild = refl

lost_sym : (p q : Option Pref) → lost p q ≡ lost q p
lost_sym (Some p) (Some q) =
    ap (λ t. cond t (weaker_is_strong p.strength q.strength) 0) (same_comm p.colour q.colour)
    ∙ ap (λ n. cond (is_same q.colour p.colour) n 0) (weaker_sym p.strength q.strength)
lost_sym (Some p) None = refl
lost_sym None (Some q) = refl
lost_sym None None = refl

-- of two strong preferences for one colour one is missed, whoever gets it
one_of_strong : (c given : Colour) → missed_strongly (Some (for Strong c)) given + missed_strongly (Some (for Strong c)) (other given) ≡ 1
one_of_strong White White = refl
one_of_strong White Black = refl
one_of_strong Black White = refl
one_of_strong Black Black = refl

-- who gets the colour of their preference misses none
served : (k : Strength) (c : Colour) → missed_strongly (Some (for k c)) c ≡ 0
served Absolute c = refl
served Strong White = refl
served Strong Black = refl
served Mild c = refl

module _ (initial : Colour) (high low : SeatFacts) where
  -- what two preferences miss as they are granted
  abbrev miss_by : Option Pref → Option Pref → ℕ
  miss_by p q = missed_strongly p (granted initial high low p q) + missed_strongly q (other (granted initial high low p q))

  -- the stronger one is granted
  for_one_colour : (k l : Strength) (c : Colour) → miss_by (Some (for k c)) (Some (for l c)) ≡ weaker_is_strong k l
  for_one_colour Absolute Absolute c = refl
  for_one_colour Absolute Strong White = refl
  for_one_colour Absolute Strong Black = refl
  for_one_colour Absolute Mild c = refl
  for_one_colour Strong Absolute White = refl
  for_one_colour Strong Absolute Black = refl
  for_one_colour Strong Strong c = one_of_strong c (granted initial high low (Some (for Strong c)) (Some (for Strong c)))
  for_one_colour Strong Mild White = refl
  for_one_colour Strong Mild Black = refl
  for_one_colour Mild Absolute c = refl
  for_one_colour Mild Strong White = refl
  for_one_colour Mild Strong Black = refl
  for_one_colour Mild Mild c = refl

  for_two : (k l : Strength) (c d : Colour) → miss_by (Some (for k c)) (Some (for l d)) ≡ lost (Some (for k c)) (Some (for l d))
  for_two k l White White = for_one_colour k l White
  for_two k l White Black = omega (arith, served k White, served l Black)
  for_two k l Black White = omega (arith, served k Black, served l White)
  for_two k l Black Black = for_one_colour k l Black

  alone_second : (l : Strength) (d : Colour) → miss_by None (Some (for l d)) ≡ 0
  alone_second l White = omega (arith, served l White)
  alone_second l Black = omega (arith, served l Black)

  granted_loses : (p q : Option Pref) → miss_by p q ≡ lost p q
  granted_loses (Some p) (Some q) = for_two p.strength q.strength p.colour q.colour
  granted_loses (Some p) None = omega (arith, served p.strength p.colour)
  granted_loses None (Some q) = alone_second q.strength q.colour
  granted_loses None None = refl

-- how many of a pair miss a strong preference is told by the two preferences
pair_loses : (facts : Facts) (a b : ℕ) → count_in facts (misses StrongPreference) (a, b) ≡ lost (wish facts a) (wish facts b)
pair_loses facts a b =
    either_order facts (misses StrongPreference) a b (lost (wish facts a) (wish facts b))
    (granted_loses facts.initial (seat_at facts a) (seat_at facts b) (wish facts a) (wish facts b))
    (granted_loses facts.initial (seat_at facts b) (seat_at facts a) (wish facts b) (wish facts a) ∙ lost_sym (wish facts b) (wish facts a))

-- ---- C.8 and C.9: no player without an absolute preference is counted, and where one of two has none, the other one is granted theirs

-- a game more with a colour
white_more : (played : List Colour) → (whites (White ∷ played) ≡ 1 + whites played) × (blacks (White ∷ played) ≡ blacks played)
white_more played =
    (omega (arith, sum_by-cons (λ c. cond (is_white c) 1 0) White played), omega (arith, sum_by-cons (λ c. cond (is_black c) 1 0) White played))

black_more : (played : List Colour) → (whites (Black ∷ played) ≡ whites played) × (blacks (Black ∷ played) ≡ 1 + blacks played)
black_more played =
    (omega (arith, sum_by-cons (λ c. cond (is_white c) 1 0) Black played), omega (arith, sum_by-cons (λ c. cond (is_black c) 1 0) Black played))

-- where a colour difference is -1, 0 or 1, one game more makes it no more than 2 from 0
not_wide : (played : List Colour) (colour : Colour) → nat_lt (blacks played + 1) (whites played) ≡ false → nat_lt (whites played + 1) (blacks played) ≡ false
    → nat_lt 2 (distance (colour ∷ played)) ≡ false
not_wide played White h g =
    let more = white_more played in
    let e : whites (White ∷ played) ≡ 1 + whites played = more.0 in
    let f : blacks (White ∷ played) ≡ blacks played = more.1 in
    let le : distance (White ∷ played) ≤ 2 = grind (arith, nat_tests) in
    grind (arith, nat_tests)
not_wide played Black h g =
    let more = black_more played in
    let e : whites (Black ∷ played) ≡ whites played = more.0 in
    let f : blacks (Black ∷ played) ≡ 1 + blacks played = more.1 in
    let le : distance (Black ∷ played) ≤ 2 = grind (arith, nat_tests) in
    grind (arith, nat_tests)

-- without an absolute preference the colour difference is -1, 0 or 1, and the last two games were not of one colour
calm_at : (played : List Colour) (t u : Bool) (last : Option Colour)
    → is_absolute_if_any (if t then Some (for Absolute Black) else (if u then Some (for Absolute White) else after_last_two played last)) ≡ false
    → (t ≡ false) × ((u ≡ false) × (last ≡ None))
calm_at played true u last e = absurd (cc)
calm_at played false true last e = absurd (cc)
calm_at played false false (Some colour) e = absurd (cc)
calm_at played false false None e = (refl, (refl, refl))

calm : (played : List Colour) → is_absolute_if_any (preference played) ≡ false
    → (nat_lt (blacks played + 1) (whites played) ≡ false) × ((nat_lt (whites played + 1) (blacks played) ≡ false) × (last_two played ≡ None))
calm played e =
    calm_at played (nat_lt (blacks played + 1) (whites played)) (nat_lt (whites played + 1) (blacks played)) (last_two played) e

-- something holds of nobody without an absolute preference, whatever colour they get
record IsOfAbsolute (holds : SeatFacts → Colour → Bool) : Type 0 where
  never : (seat : SeatFacts) (colour : Colour) → is_absolute_if_any (preference seat.played) ≡ false → holds seat colour ≡ false

wide_of_absolute : IsOfAbsolute is_wide
wide_of_absolute = record { never = λ seat colour e. let parts = calm seat.played e in not_wide seat.played colour parts.0 parts.1.0 }

third_of_absolute : IsOfAbsolute is_third
third_of_absolute = record { never = λ seat colour e. ap (λ last. option_map_or (is_same colour) last false) (calm seat.played e).1.1 }

same_either : (t : Bool) (c : Colour) → (if t then c else c) ≡ c
same_either true c = refl
same_either false c = refl

other_either : (c d : Colour) → (if is_same c d then other c else c) ≡ other d
other_either White White = refl
other_either White Black = refl
other_either Black White = refl
other_either Black Black = refl

other_twice : (c : Colour) → other (other c) ≡ c
other_twice White = refl
other_twice Black = refl

-- whether something holds of one with the colour of their absolute preference, 1 for yes
abbrev own : (SeatFacts → Colour → Bool) → SeatFacts → Option Pref → ℕ
own holds seat None = 0
own holds seat (Some p) = cond (is_absolute p.strength) (one_if (holds seat p.colour)) 0

own_none : (holds : SeatFacts → Colour → Bool) (seat : SeatFacts) (p : Option Pref) → is_absolute_if_any p ≡ false → own holds seat p ≡ 0
own_none holds seat None e = refl
own_none holds seat (Some p) e = ap (λ t. cond t (one_if (holds seat p.colour)) 0) e

own_some : (holds : SeatFacts → Colour → Bool) (seat : SeatFacts) (p : Pref) → is_absolute p.strength ≡ true → own holds seat (Some p) ≡ one_if (holds seat p.colour)
own_some holds seat p e = ap (λ t. cond t (one_if (holds seat p.colour)) 0) e

module _ (initial : Colour) (high low : SeatFacts) where
  -- an absolute preference is granted against one that is not
  first_of_two : (k l : Strength) (c d : Colour) → is_absolute k ≡ true → is_absolute l ≡ false → granted initial high low (Some (for k c)) (Some (for l d)) ≡ c
  first_of_two Absolute Absolute c d e f = absurd (cc)
  first_of_two Absolute Strong c d e f = granted-pair initial high low (for Absolute c) (for Strong d) ∙ same_either (is_same c d) c
  first_of_two Absolute Mild c d e f = granted-pair initial high low (for Absolute c) (for Mild d) ∙ same_either (is_same c d) c
  first_of_two Strong l c d e f = absurd (cc)
  first_of_two Mild l c d e f = absurd (cc)

  second_of_two : (k l : Strength) (c d : Colour) → is_absolute k ≡ false → is_absolute l ≡ true → granted initial high low (Some (for k c)) (Some (for l d)) ≡ other d
  second_of_two Absolute l c d e f = absurd (cc)
  second_of_two Strong Absolute c d e f = granted-pair initial high low (for Strong c) (for Absolute d) ∙ other_either c d
  second_of_two Mild Absolute c d e f = granted-pair initial high low (for Mild c) (for Absolute d) ∙ other_either c d
  second_of_two Strong Strong c d e f = absurd (cc)
  second_of_two Strong Mild c d e f = absurd (cc)
  second_of_two Mild Strong c d e f = absurd (cc)
  second_of_two Mild Mild c d e f = absurd (cc)

  -- and against none
  first_granted : (p : Pref) (q : Option Pref) → is_absolute p.strength ≡ true → is_absolute_if_any q ≡ false → granted initial high low (Some p) q ≡ p.colour
  first_granted p (Some q) e f = first_of_two p.strength q.strength p.colour q.colour e f
  first_granted p None e f = refl

  second_granted : (p : Option Pref) (q : Pref) → is_absolute_if_any p ≡ false → is_absolute q.strength ≡ true → granted initial high low p (Some q) ≡ other q.colour
  second_granted (Some p) q e f = second_of_two p.strength q.strength p.colour q.colour e f
  second_granted None q e f = refl

  module _ (holds : SeatFacts → Colour → Bool) (of_absolute : IsOfAbsolute holds) where
    -- what is counted of two as their preferences are granted
    abbrev counted_by : Option Pref → Option Pref → ℕ
    counted_by p q = of_two holds high low (granted initial high low p q)

    first_counts : (p q : Option Pref) → preference low.played ≡ q → is_absolute_if_any p ≡ true → is_absolute_if_any q ≡ false
        → counted_by p q ≡ own holds high p + own holds low q
    first_counts None q same e f = absurd (cc)
    first_counts (Some p) q same e f =
        omega (
          arith,
          ap (λ c. one_if (holds high c)) (first_granted p q e f),
          ap one_if (of_absolute.never low (other (granted initial high low (Some p) q)) (ap is_absolute_if_any same ∙ f)),
          own_some holds high p e,
          own_none holds low q f,
        )

    second_counts : (p q : Option Pref) → preference high.played ≡ p → is_absolute_if_any p ≡ false → is_absolute_if_any q ≡ true
        → counted_by p q ≡ own holds high p + own holds low q
    second_counts p None same e f = absurd (cc)
    second_counts p (Some q) same e f =
        omega (
          arith,
          ap one_if (of_absolute.never high (granted initial high low p (Some q)) (ap is_absolute_if_any same ∙ e)),
          ap (λ c. one_if (holds low (other c))) (second_granted p q e f) ∙ ap (λ c. one_if (holds low c)) (other_twice q.colour),
          own_none holds high p e,
          own_some holds low q f,
        )

    nobody_counts : (p q : Option Pref) → preference high.played ≡ p → preference low.played ≡ q → is_absolute_if_any p ≡ false → is_absolute_if_any q ≡ false
        → counted_by p q ≡ own holds high p + own holds low q
    nobody_counts p q same also e f =
        omega (
          arith,
          ap one_if (of_absolute.never high (granted initial high low p q) (ap is_absolute_if_any same ∙ e)),
          ap one_if (of_absolute.never low (other (granted initial high low p q)) (ap is_absolute_if_any also ∙ f)),
          own_none holds high p e,
          own_none holds low q f,
        )

    -- unless both have an absolute preference, each counts with the colour of their own, since they get it
    each_own : (p q : Option Pref) (t u : Bool) → preference high.played ≡ p → preference low.played ≡ q → is_absolute_if_any p ≡ t → is_absolute_if_any q ≡ u
        → (t && u) ≡ false → counted_by p q ≡ own holds high p + own holds low q
    each_own p q true true same also e f apart = absurd (cc)
    each_own p q true false same also e f apart = first_counts p q also e f
    each_own p q false true same also e f apart = second_counts p q same e f
    each_own p q false false same also e f apart = nobody_counts p q same also e f

-- what a seat counts with the colour of its own absolute preference
abbrev own_at : Facts → (SeatFacts → Colour → Bool) → ℕ → ℕ
own_at facts holds seat = own holds (seat_at facts seat) (wish facts seat)

-- a seat has an absolute preference
abbrev is_absolute_at : Facts → ℕ → Bool
is_absolute_at facts seat = is_absolute_if_any (wish facts seat)

and_sym : (x y : Bool) → (x && y) ≡ (y && x)
and_sym true true = refl
and_sym true false = refl
and_sym false true = refl
and_sym false false = refl

ranked_own : (facts : Facts) (holds : SeatFacts → Colour → Bool) → IsOfAbsolute holds → (a b : ℕ) → (is_absolute_at facts a && is_absolute_at facts b) ≡ false
    → of_ranked facts holds a b ≡ own_at facts holds a + own_at facts holds b
ranked_own facts holds of_absolute a b apart =
    each_own facts.initial (seat_at facts a) (seat_at facts b) holds of_absolute (wish facts a) (wish facts b) (is_absolute_at facts a) (is_absolute_at facts b)
    refl refl refl refl apart

-- so of a pair, unless both have an absolute preference, each counts with the colour of their own
pair_own : (facts : Facts) (holds : SeatFacts → Colour → Bool) → IsOfAbsolute holds → (a b : ℕ) → (is_absolute_at facts a && is_absolute_at facts b) ≡ false
    → count_in facts holds (a, b) ≡ own_at facts holds a + own_at facts holds b
pair_own facts holds of_absolute a b apart =
    either_order facts holds a b (own_at facts holds a + own_at facts holds b) (ranked_own facts holds of_absolute a b apart)
    (let turned = ranked_own facts holds of_absolute b a (and_sym (is_absolute_at facts b) (is_absolute_at facts a) ∙ apart) in omega (arith, turned))

-- ---- two pairs whose players are alike

-- one member, if there is any, counts as another one does
one_or_none : {X Y : Type 0} (f : List X → Y) (x y : X) (t : Bool) → f (x ∷ []) ≡ f (y ∷ []) → f (cond t (x ∷ []) []) ≡ f (cond t (y ∷ []) [])
one_or_none f x y true e = e
one_or_none f x y false e = refl

-- by how much some float
abbrev amounts : List Floater → List ℕ
amounts floaters = map (λ (floater : Floater). floater.by) floaters

as_many : (xs ys : List Floater) → amounts xs ≡ amounts ys → length xs ≡ length ys
as_many xs ys e =
    sym (length-map xs (λ (floater : Floater). floater.by)) ∙ (ap (λ (list : List ℕ). length list) e ∙ length-map ys (λ (floater : Floater). floater.by))

both_true : (x y : Bool) → (x && y) ≡ true → (x ≡ true) × (y ≡ true)
both_true true true e = (refl, refl)
both_true true false e = absurd (cc)
both_true false y e = absurd (cc)

module _ (facts : Facts) where
  -- two seats are of one class
  abbrev Alike : ℕ → ℕ → Type 0
  Alike s r = class_at facts s ≡ class_at facts r

  -- the last round
  abbrev is_last : Bool
  is_last = facts.round == facts.total

  same_score : (s r : ℕ) → Alike s r → score_at facts s ≡ score_at facts r
  same_score s r alike = ap (λ (c : PlayerClass). c.score) alike

  same_wish : (s r : ℕ) → Alike s r → wish facts s ≡ wish facts r
  same_wish s r alike = ap (λ (c : PlayerClass). c.preference) alike

  same_float : (back s r : ℕ) → Alike s r → float_of facts back s ≡ float_of facts back r
  same_float back s r alike = ap (λ (c : PlayerClass). if back == 1 then c.latest else c.earlier) alike

  -- in the last round a player with an absolute preference is of a class of their own
  single_at : (s : ℕ) → is_last ≡ true → is_absolute_at facts s ≡ true → (class_at facts s).single ≡ Some s
  single_at s last absolute =
      ap (λ t. cond (t && is_absolute_at facts s) (Some s) None) last ∙ ap (λ t. cond t (Some s) None) absolute

  -- in the last round no two players with absolute preferences are of one class
  same_seat : (s r : ℕ) → is_last ≡ true → is_absolute_at facts r ≡ true → Alike s r → s ≡ r
  same_seat s r last absolute alike =
      let one : Some s ≡ Some r =
      sym (single_at s last (ap is_absolute_if_any (same_wish s r alike) ∙ absolute))
      ∙ (ap (λ (c : PlayerClass). c.single) alike ∙ single_at r last absolute) in
      cc

  -- so in the last round players of one class count alike with the colour of their own preference
  own_alike_by : (holds : SeatFacts → Colour → Bool) (s r : ℕ) (t : Bool) → is_absolute_at facts r ≡ t → is_last ≡ true → Alike s r
      → own_at facts holds s ≡ own_at facts holds r
  own_alike_by holds s r true e last alike = ap (own_at facts holds) (same_seat s r last e alike)
  own_alike_by holds s r false e last alike =
      own_none holds (seat_at facts s) (wish facts s) (ap is_absolute_if_any (same_wish s r alike) ∙ e)
      ∙ sym (own_none holds (seat_at facts r) (wish facts r) e)

  own_alike : (holds : SeatFacts → Colour → Bool) (s r : ℕ) → is_last ≡ true → Alike s r → own_at facts holds s ≡ own_at facts holds r
  own_alike holds s r last alike = own_alike_by holds s r (is_absolute_at facts r) refl last alike

  no_topscorer : (pair : ℕ × ℕ) → is_last ≡ false → has_topscorer facts pair ≡ false
  no_topscorer pair e =
      ap (λ t. (t && nat_lt (facts.round - 1) (score_at facts pair.0)) || (t && nat_lt (facts.round - 1) (score_at facts pair.1))) e

  -- what is counted of a pair alone, if it has a topscorer or not
  abbrev if_top : (SeatFacts → Colour → Bool) → ℕ × ℕ → Bool → ℕ
  if_top holds pair top = sum_by (count_in facts holds) (cond top (pair ∷ []) [])

  if_top_alike : (holds : SeatFacts → Colour → Bool) (p q : ℕ × ℕ) (top : Bool) → count_in facts holds p ≡ count_in facts holds q
      → if_top holds p top ≡ if_top holds q top
  if_top_alike holds p q true e = omega (arith, e, sum_by-cons (count_in facts holds) p [], sum_by-cons (count_in facts holds) q [])
  if_top_alike holds p q false e = refl

  -- whichever of two floats, each of one class with another one
  float_alike : (back : ℕ) (t : Bool) (s r x y : ℕ) → Alike s r → Alike x y → float_of facts back (if t then s else x) ≡ float_of facts back (if t then r else y)
  float_alike back true s r x y first second = same_float back s r first
  float_alike back false s r x y first second = same_float back x y second

  -- of two who float now by as much, and had the same float, both count or neither does
  again_alike : (float : Float) (back : ℕ) (x y : Floater) → float_of facts back x.seat ≡ float_of facts back y.seat → x.by ≡ y.by
      → amounts (again facts float back (x ∷ [])) ≡ amounts (again facts float back (y ∷ []))
  again_alike float back x y floats by =
      ap (λ had. amounts (cond (is_float float had) (x ∷ []) [])) floats
      ∙ one_or_none amounts x y (is_float float (float_of facts back y.seat)) (ap (λ n. n ∷ []) by)

  module _ (f g a b : ℕ) (first : Alike f a) (second : Alike g b) where
    -- what is told by the two scores is the same
    by_scores : {X : Type 0} (told : ℕ → ℕ → X) → told (score_at facts f) (score_at facts g) ≡ told (score_at facts a) (score_at facts b)
    by_scores told =
        ap (λ s. told s (score_at facts g)) (same_score f a first) ∙ ap (λ s. told (score_at facts a) s) (same_score g b second)

    -- and by the two preferences
    by_wishes : {X : Type 0} (told : Option Pref → Option Pref → X) → told (wish facts f) (wish facts g) ≡ told (wish facts a) (wish facts b)
    by_wishes told = ap (λ p. told p (wish facts g)) (same_wish f a first) ∙ ap (λ p. told (wish facts a) p) (same_wish g b second)

    same_difference : difference facts (f, g) ≡ difference facts (a, b)
    same_difference = by_scores (λ s r. (s - r) + (r - s))

    same_uneven : is_uneven facts (f, g) ≡ is_uneven facts (a, b)
    same_uneven = by_scores (λ s r. not (s == r))

    same_lower : nat_lt (score_at facts f) (score_at facts g) ≡ nat_lt (score_at facts a) (score_at facts b)
    same_lower = by_scores nat_lt

    same_top : has_topscorer facts (f, g) ≡ has_topscorer facts (a, b)
    same_top = by_scores (λ s r. (is_last && nat_lt (facts.round - 1) s) || (is_last && nat_lt (facts.round - 1) r))

    -- ---- C.8 to C.11

    missed_alike : count_in facts (misses Preference) (f, g) ≡ count_in facts (misses Preference) (a, b)
    missed_alike = pair_misses facts f g ∙ (by_wishes (λ p q. one_if (collide p q)) ∙ sym (pair_misses facts a b))

    strong_alike : count_in facts (misses StrongPreference) (f, g) ≡ count_in facts (misses StrongPreference) (a, b)
    strong_alike = pair_loses facts f g ∙ (by_wishes lost ∙ sym (pair_loses facts a b))

    module _ (holds : SeatFacts → Colour → Bool) (of_absolute : IsOfAbsolute holds) where
      -- in the last round: two with absolute preferences are the two themselves, and else each counts with the colour of their own
      last_alike_by : (t : Bool) → (is_absolute_at facts a && is_absolute_at facts b) ≡ t → is_last ≡ true → count_in facts holds (f, g) ≡ count_in facts holds (a, b)
      last_alike_by true e last =
          let both = both_true (is_absolute_at facts a) (is_absolute_at facts b) e in
          ap (λ s. count_in facts holds (s, g)) (same_seat f a last both.0 first) ∙ ap (λ s. count_in facts holds (a, s)) (same_seat g b last both.1 second)
      last_alike_by false e last =
          omega (
            arith,
            pair_own facts holds of_absolute f g (by_wishes (λ p q. is_absolute_if_any p && is_absolute_if_any q) ∙ e),
            pair_own facts holds of_absolute a b e,
            own_alike holds f a last first,
            own_alike holds g b last second,
          )

      -- in the rounds before it nobody is a topscorer
      top_alike_by : (t : Bool) → is_last ≡ t → count_with_topscorers facts holds ((f, g) ∷ []) ≡ count_with_topscorers facts holds ((a, b) ∷ [])
      top_alike_by true last =
          ap (if_top holds (f, g)) same_top
          ∙ if_top_alike holds (f, g) (a, b) (has_topscorer facts (a, b)) (last_alike_by (is_absolute_at facts a && is_absolute_at facts b) refl last)
      top_alike_by false last =
          ap (if_top holds (f, g)) (no_topscorer (f, g) last) ∙ sym (ap (if_top holds (a, b)) (no_topscorer (a, b) last))

      top_alike : count_with_topscorers facts holds ((f, g) ∷ []) ≡ count_with_topscorers facts holds ((a, b) ∷ [])
      top_alike = top_alike_by is_last refl

    -- ---- C.12 to C.19

    module _ (float : Float) (back : ℕ) where
      up_alike : amounts (again facts float back (goes_up facts (f, g) ∷ [])) ≡ amounts (again facts float back (goes_up facts (a, b) ∷ []))
      up_alike =
          again_alike float back (goes_up facts (f, g)) (goes_up facts (a, b))
          (ap (λ t. float_of facts back (if t then f else g)) same_lower
          ∙ float_alike back (nat_lt (score_at facts a) (score_at facts b)) f a g b first second) same_difference

      down_alike : amounts (again facts float back (goes_down facts (f, g) ∷ [])) ≡ amounts (again facts float back (goes_down facts (a, b) ∷ []))
      down_alike =
          again_alike float back (goes_down facts (f, g)) (goes_down facts (a, b))
          (ap (λ t. float_of facts back (if t then g else f)) same_lower
          ∙ float_alike back (nat_lt (score_at facts a) (score_at facts b)) g b f a second first) same_difference

      -- the amounts of those who moved so, for a pair that is uneven or not
      abbrev ups : ℕ × ℕ → Bool → List ℕ
      ups pair uneven = amounts (again facts float back (map (goes_up facts) (cond uneven (pair ∷ []) [])))

      abbrev downs : ℕ × ℕ → Bool → List ℕ
      downs pair uneven = amounts (again facts float back (map (goes_down facts) (cond uneven (pair ∷ []) []) ++ []))

      ups_alike : ups (f, g) (is_uneven facts (f, g)) ≡ ups (a, b) (is_uneven facts (a, b))
      ups_alike =
          ap (ups (f, g)) same_uneven
          ∙ one_or_none (λ pairs. amounts (again facts float back (map (goes_up facts) pairs))) (f, g) (a, b) (is_uneven facts (a, b)) up_alike

      downs_alike : downs (f, g) (is_uneven facts (f, g)) ≡ downs (a, b) (is_uneven facts (a, b))
      downs_alike =
          ap (downs (f, g)) same_uneven
          ∙ one_or_none (λ pairs. amounts (again facts float back (map (goes_down facts) pairs ++ []))) (f, g) (a, b) (is_uneven facts (a, b)) down_alike

      module _ (reached : Reached) where
        going_up_alike : amounts (again facts float back (going_up facts (seated_so facts reached ((f, g) ∷ []) [])))
            ≡ amounts (again facts float back (going_up facts (seated_so facts reached ((a, b) ∷ []) [])))
        unfolding going_up
        going_up_alike = ups_alike

        going_down_alike : amounts (again facts float back (going_down facts (seated_so facts reached ((f, g) ∷ []) [])))
            ≡ amounts (again facts float back (going_down facts (seated_so facts reached ((a, b) ∷ []) [])))
        unfolding going_down
        going_down_alike = downs_alike

    module _ (reached : Reached) where
      same_psd : psd facts (seated_so facts reached ((f, g) ∷ []) []) ≡ psd facts (seated_so facts reached ((a, b) ∷ []) [])
      unfolding psd
      same_psd = ap (λ by. highest_first (by ∷ [])) same_difference

      same_quality : quality_with facts (seated_so facts reached ((f, g) ∷ []) []) no_value ≡ quality_with facts (seated_so facts reached ((a, b) ∷ []) []) no_value
      unfolding quality_with
      same_quality = λ i. record {
        psd = same_psd i;
        next_pairs = 0;
        next_psd = [];
        wide_differences = top_alike is_wide wide_of_absolute i;
        third_colours = top_alike is_third third_of_absolute i;
        missed_preferences = if_top_alike (misses Preference) (f, g) (a, b) true missed_alike i;
        missed_strong = if_top_alike (misses StrongPreference) (f, g) (a, b) true strong_alike i;
        down_again = as_many _ _ (going_down_alike Down 1 reached) i;
        up_again = as_many _ _ (going_up_alike Up 1 reached) i;
        down_again_before = as_many _ _ (going_down_alike Down 2 reached) i;
        up_again_before = as_many _ _ (going_up_alike Up 2 reached) i;
        down_again_by = highest_first (going_down_alike Down 1 reached i);
        up_again_by = highest_first (going_up_alike Up 1 reached i);
        down_again_before_by = highest_first (going_down_alike Down 2 reached i);
        up_again_before_by = highest_first (going_up_alike Up 2 reached i);
      }

-- what a pair weighs depends on the classes of the two alone
pub same_weight : (w : Weighing) (a b f g : ℕ) → class_of w f ≡ class_of w a → class_of w g ≡ class_of w b → pair_weight w f g ≡ pair_weight w a b
same_weight w a b f g first second =
    let seats : List ℕ = w.reached.seats in
    ap (weight_with w.scale 0 []) (same_quality w.facts (seat_of seats f) (seat_of seats g) (seat_of seats a) (seat_of seats b) first second w.reached)
