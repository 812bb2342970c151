-- The laws of meetings and of colours, by cases.
use Rattle.std.proofs.Common.{◌≡◌, ◌≢◌, ℕ, Bool, true, false, cond, inl, inr, not, ◌&&◌, ◌||◌, ◌≤◌, ◌<◌, Option, Some, None, refl, sym, ap, ◌∙◌, if◌then◌else◌, arith}
use Rattle.std.proofs.lemmas.Bool.{lt-ltb, le-ltb, cases_lt}
use Rattle.trf16_report.specs.declared.cell.Colour.{Colour}
use Rattle.trf16_report.specs.declared.cell.Colour.TheVariants.{White, Black}
use Rattle.dutch_player.specs.declared.colour_rule.ColourRule.{ColourRule}
use Rattle.dutch_player.specs.declared.colour_rule.ColourRule.TheVariants.{BothPreferences, StrongerPreference, HigherRank, InitialColour}
use Rattle.dutch_player.specs.declared.colours.Decision.{Decision}
use Rattle.dutch_player.specs.declared.preference.Pref.{Pref}
use Rattle.dutch_player.specs.Prelude.{is_same, other, preference, SeatFacts, Facts, seat_at, may_meet, have_met, has_met, is_kept_from, are_apart, clash, is_absolute, is_topscorer, colours_allow, is_stronger, alternate_colour, by, by_history, by_preferences, colours, by_strength, colour_of_higher, colour_rule, decision_of, granted, with_colour, Gets, GrantsBoth, TellsRule}

or_comm : (x y : Bool) → (x || y) ≡ (y || x)
or_comm true true = refl
or_comm true false = refl
or_comm false true = refl
or_comm false false = refl

pub same_comm : (c d : Colour) → is_same c d ≡ is_same d c
same_comm White White = refl
same_comm White Black = refl
same_comm Black White = refl
same_comm Black Black = refl

and_comm3 : (x y s t : Bool) → s ≡ t → (x && y && s) ≡ (y && x && t)
and_comm3 true true s t e = e
and_comm3 true false s t e = refl
and_comm3 false true s t e = refl
and_comm3 false false s t e = refl

pub clash_comm : (p q : Option Pref) → clash p q ≡ clash q p
clash_comm None None = refl
clash_comm None (Some q) = refl
clash_comm (Some p) None = refl
clash_comm (Some p) (Some q) = and_comm3 (is_absolute p.strength) (is_absolute q.strength) (is_same p.colour q.colour) (is_same q.colour p.colour) (same_comm p.colour q.colour)

allow_comm : (x y z : Bool) → (x || y || z) ≡ (y || x || z)
allow_comm true true z = refl
allow_comm true false z = refl
allow_comm false true z = refl
allow_comm false false z = refl

meet_seats : (facts : Facts) (a b : SeatFacts) → (not (have_met a b || are_apart a b) && colours_allow facts a b) ≡ (not (have_met b a || are_apart b a) && colours_allow facts b a)
meet_seats facts a b =
    ap (λ m. not (m || are_apart a b) && colours_allow facts a b) (or_comm (has_met a b) (has_met b a))
    ∙ ap (λ m. not (have_met b a || m) && colours_allow facts a b) (or_comm (is_kept_from a b) (is_kept_from b a))
    ∙ ap (λ k. not (have_met b a || are_apart b a) && (is_topscorer facts a || is_topscorer facts b || not k)) (clash_comm (preference a.played) (preference b.played))
    ∙ ap (λ r. not (have_met b a || are_apart b a) && r) (allow_comm (is_topscorer facts a) (is_topscorer facts b) (not (clash (preference b.played) (preference a.played))))

pub meeting_sym : (facts : Facts) (a b : ℕ) → may_meet facts a b ≡ may_meet facts b a
meeting_sym facts a b = meet_seats facts (seat_at facts a) (seat_at facts b)

-- what the two get if the one, or the other, ranks higher
abbrev of_ranked : Facts → ℕ → ℕ → ℕ × ℕ
of_ranked facts high low = with_colour high low (colour_of_higher facts high low)

colours-less : (facts : Facts) (a b : ℕ) → a < b → colours facts a b ≡ of_ranked facts a b
colours-less facts a b lt = ap (λ t. cond t (of_ranked facts a b) (of_ranked facts b a)) (lt-ltb a b lt)

colours-more : (facts : Facts) (a b : ℕ) → b ≤ a → colours facts a b ≡ of_ranked facts b a
colours-more facts a b le = ap (λ t. cond t (of_ranked facts a b) (of_ranked facts b a)) (le-ltb a b le)

pub colours_sym : (facts : Facts) (a b : ℕ) → a ≢ b → colours facts a b ≡ colours facts b a
colours_sym facts a b differ = elim (cases_lt a b) [
  | inl lt ↦ colours-less facts a b lt ∙ sym (colours-more facts b a (omega arith))
  | inr le ↦ colours-more facts a b le ∙ sym (colours-less facts b a (omega arith))
]

differ-same : (c d : Colour) → (c ≡ d → ⊥) → is_same c d ≡ false
differ-same White White differ = absurd (differ refl)
differ-same White Black differ = refl
differ-same Black White differ = refl
differ-same Black Black differ = absurd (differ refl)

differ-other : (c d : Colour) → (c ≡ d → ⊥) → d ≡ other c
differ-other White White differ = absurd (differ refl)
differ-other White Black differ = refl
differ-other Black White differ = refl
differ-other Black Black differ = absurd (differ refl)

with_other : (a b : ℕ) (c : Colour) → with_colour a b c ≡ with_colour b a (other c)
with_other a b White = refl
with_other a b Black = refl

-- two who each want a colour, by whether it is the same one, and by how a contest is decided
abbrev both_want : Bool → Decision → Colour → Decision
both_want one decision wanted = if one then decision else by BothPreferences wanted

granted-both : (initial : Colour) (high low : SeatFacts) (wanted theirs : Option Pref) (p q : Pref) → wanted ≡ Some p → theirs ≡ Some q → (p.colour ≡ q.colour → ⊥)
    → granted initial high low wanted theirs ≡ p.colour
granted-both initial high low wanted theirs p q e f differ =
    ap (λ w. granted initial high low w theirs) e
    ∙ ap (granted initial high low (Some p)) f
    ∙ ap (λ one. (both_want one (by_strength high.played low.played p q) p.colour).colour) (differ-same p.colour q.colour differ)

-- if both want a colour: what the contest gives if it is the same one, and otherwise each their own
decided-both : (decision : Decision) (one : Bool) (wanted : Colour) → (both_want one decision wanted).colour ≡ (if one then decision.colour else wanted)
decided-both decision true wanted = refl
decided-both decision false wanted = refl

pub granted-pair : (initial : Colour) (high low : SeatFacts) (p q : Pref)
    → granted initial high low (Some p) (Some q) ≡ (if is_same p.colour q.colour then (by_strength high.played low.played p q).colour else p.colour)
granted-pair initial high low p q = decided-both (by_strength high.played low.played p q) (is_same p.colour q.colour) p.colour

ranked-both : (facts : Facts) (high low : ℕ) (p q : Pref) → preference (seat_at facts high).played ≡ Some p → preference (seat_at facts low).played ≡ Some q
    → (p.colour ≡ q.colour → ⊥) → of_ranked facts high low ≡ with_colour high low p.colour
ranked-both facts high low p q e f differ =
    ap (with_colour high low) (granted-both facts.initial (seat_at facts high) (seat_at facts low) (preference (seat_at facts high).played) (preference (seat_at facts low).played) p q e f differ)

swapped : (a b : ℕ) (p q : Pref) → (p.colour ≡ q.colour → ⊥) → with_colour a b p.colour ≡ with_colour b a q.colour
swapped a b p q differ = with_other a b p.colour ∙ ap (with_colour b a) (sym (differ-other p.colour q.colour differ))

pub grants_both : (facts : Facts) (a b : ℕ) → a ≢ b → GrantsBoth facts a b
grants_both facts a b apart p q legal e f k l differ = elim (cases_lt a b) [
  | inl lt ↦
      (let one : colours facts a b ≡ with_colour a b p.colour = colours-less facts a b lt ∙ ranked-both facts a b p q e f differ in
      (one, one ∙ swapped a b p q differ))
  | inr le ↦
      (let one : colours facts a b ≡ with_colour b a q.colour = colours-more facts a b le ∙ ranked-both facts b a q p f e (λ same. differ (sym same)) in
      (one ∙ sym (swapped a b p q differ), one))
]

-- the rule if the one, or the other, ranks higher
rule-less : (facts : Facts) (a b : ℕ) → a < b → colour_rule facts a b ≡ (decision_of facts a b).rule
rule-less facts a b lt = ap (λ t. cond t (decision_of facts a b).rule (decision_of facts b a).rule) (lt-ltb a b lt)

rule-more : (facts : Facts) (a b : ℕ) → b ≤ a → colour_rule facts a b ≡ (decision_of facts b a).rule
rule-more facts a b le = ap (λ t. cond t (decision_of facts a b).rule (decision_of facts b a).rule) (le-ltb a b le)

pub rule_sym : (facts : Facts) (a b : ℕ) → a ≢ b → colour_rule facts a b ≡ colour_rule facts b a
rule_sym facts a b differ = elim (cases_lt a b) [
  | inl lt ↦ rule-less facts a b lt ∙ sym (rule-more facts b a (omega arith))
  | inr le ↦ rule-more facts a b le ∙ sym (rule-less facts b a (omega arith))
]

-- two who want the same colour, by who is stronger and by how their colours can alternate
abbrev contest : Bool → Bool → Option Colour → Colour → Decision
contest mine theirs alternate wanted =
    if mine then by StrongerPreference wanted else (if theirs then by StrongerPreference (other wanted) else by_history alternate wanted)

contest_is_not : (mine theirs : Bool) (alternate : Option Colour) (wanted : Colour) (rule : ColourRule)
    → (contest mine theirs alternate wanted).rule ≡ rule → (rule ≡ BothPreferences → ⊥) × (rule ≡ InitialColour → ⊥)
contest_is_not true theirs alternate wanted rule e = (λ f. absurd (cc), λ f. absurd (cc))
contest_is_not false true alternate wanted rule e = (λ f. absurd (cc), λ f. absurd (cc))
contest_is_not false false (Some colour) wanted rule e = (λ f. absurd (cc), λ f. absurd (cc))
contest_is_not false false None wanted rule e = (λ f. absurd (cc), λ f. absurd (cc))

contest_higher : (mine theirs : Bool) (alternate : Option Colour) (wanted : Colour)
    → (contest mine theirs alternate wanted).rule ≡ HigherRank → (contest mine theirs alternate wanted).colour ≡ wanted
contest_higher true theirs alternate wanted e = refl
contest_higher false true alternate wanted e = absurd (cc)
contest_higher false false (Some colour) wanted e = absurd (cc)
contest_higher false false None wanted e = refl

both_granted : (one : Bool) (decision : Decision) (p q : Colour) → is_same p q ≡ one → (decision.rule ≡ BothPreferences → ⊥)
    → (both_want one decision p).rule ≡ BothPreferences → ((both_want one decision p).colour ≡ p) × ((both_want one decision p).colour ≡ other q)
both_granted true decision p q same never e = absurd (never e)
both_granted false decision White White same never e = absurd (cc)
both_granted false decision White Black same never e = (refl, refl)
both_granted false decision Black White same never e = (refl, refl)
both_granted false decision Black Black same never e = absurd (cc)

both_started : (one : Bool) (decision : Decision) (p : Colour) → (decision.rule ≡ InitialColour → ⊥) → (both_want one decision p).rule ≡ InitialColour → ⊥
both_started true decision p never e = never e
both_started false decision p never e = absurd (cc)

both_higher : (one : Bool) (decision : Decision) (p : Colour) → (decision.rule ≡ HigherRank → decision.colour ≡ p)
    → (both_want one decision p).rule ≡ HigherRank → (both_want one decision p).colour ≡ p
both_higher true decision p is e = is e
both_higher false decision p is e = refl

-- the colour that a preference is for
abbrev wish_of : Option Pref → Colour
wish_of None = White
wish_of (Some wish) = wish.colour

module _ (initial : Colour) (high low : SeatFacts) where
  never_granted : (p q : Pref) → (by_strength high.played low.played p q).rule ≡ BothPreferences → ⊥
  never_granted p q e =
      (contest_is_not (is_stronger p high.played q low.played) (is_stronger q low.played p high.played) (alternate_colour high.played low.played) p.colour BothPreferences e).0 refl

  never_started : (p q : Pref) → (by_strength high.played low.played p q).rule ≡ InitialColour → ⊥
  never_started p q e =
      (contest_is_not (is_stronger p high.played q low.played) (is_stronger q low.played p high.played) (alternate_colour high.played low.played) p.colour InitialColour e).1 refl

  both_of : (p q : Pref) → (by_preferences initial high low (Some p) (Some q)).rule ≡ BothPreferences
      → (granted initial high low (Some p) (Some q) ≡ p.colour) × (granted initial high low (Some p) (Some q) ≡ other q.colour)
  both_of p q e = both_granted (is_same p.colour q.colour) (by_strength high.played low.played p q) p.colour q.colour refl (never_granted p q) e

  first_granted : (p q : Option Pref) (wish : Pref) → (by_preferences initial high low p q).rule ≡ BothPreferences → p ≡ Some wish
      → granted initial high low p q ≡ wish.colour
  first_granted (Some p) (Some q) wish e f = (both_of p q e).0 ∙ ap wish_of f
  first_granted (Some p) None wish e f = ap wish_of f
  first_granted None q wish e f = absurd (cc)

  second_granted : (p q : Option Pref) (wish : Pref) → (by_preferences initial high low p q).rule ≡ BothPreferences → q ≡ Some wish
      → granted initial high low p q ≡ other wish.colour
  second_granted (Some p) (Some q) wish e f = (both_of p q e).1 ∙ ap (λ q. other (wish_of q)) f
  second_granted None (Some q) wish e f = ap (λ q. other (wish_of q)) f
  second_granted p None wish e f = absurd (cc)

  higher_gets : (p q : Option Pref) (wish : Pref) → (by_preferences initial high low p q).rule ≡ HigherRank → p ≡ Some wish
      → granted initial high low p q ≡ wish.colour
  higher_gets (Some p) (Some q) wish e f =
      both_higher (is_same p.colour q.colour) (by_strength high.played low.played p q) p.colour
      (contest_higher (is_stronger p high.played q low.played) (is_stronger q low.played p high.played) (alternate_colour high.played low.played) p.colour) e
      ∙ ap wish_of f
  higher_gets (Some p) None wish e f = ap wish_of f
  higher_gets None q wish e f = absurd (cc)

  nobody_wants : (p q : Option Pref) → (by_preferences initial high low p q).rule ≡ InitialColour → (p ≡ None) × (q ≡ None)
  nobody_wants (Some p) (Some q) e =
      absurd (both_started (is_same p.colour q.colour) (by_strength high.played low.played p q) p.colour (never_started p q) e)
  nobody_wants (Some p) None e = absurd (cc)
  nobody_wants None (Some q) e = absurd (cc)
  nobody_wants None None e = (refl, refl)

-- the preference of a seat
abbrev pref_at : Facts → ℕ → Option Pref
pref_at facts seat = preference (seat_at facts seat).played

gets_granted : (facts : Facts) (a b : ℕ) (wish : Pref) → colour_rule facts a b ≡ BothPreferences → pref_at facts a ≡ Some wish → Gets facts a b wish.colour
gets_granted facts a b wish e f = elim (cases_lt a b) [
  | inl lt ↦
      colours-less facts a b lt
      ∙ ap (with_colour a b) (first_granted facts.initial (seat_at facts a) (seat_at facts b) (pref_at facts a) (pref_at facts b) wish (sym (rule-less facts a b lt) ∙ e) f)
  | inr le ↦
      colours-more facts a b le
      ∙ ap (with_colour b a) (second_granted facts.initial (seat_at facts b) (seat_at facts a) (pref_at facts b) (pref_at facts a) wish (sym (rule-more facts a b le) ∙ e) f)
      ∙ sym (with_other a b wish.colour)
]

wants_nobody : (facts : Facts) (a b : ℕ) → colour_rule facts a b ≡ InitialColour → (pref_at facts a ≡ None) × (pref_at facts b ≡ None)
wants_nobody facts a b e = elim (cases_lt a b) [
  | inl lt ↦ nobody_wants facts.initial (seat_at facts a) (seat_at facts b) (pref_at facts a) (pref_at facts b) (sym (rule-less facts a b lt) ∙ e)
  | inr le ↦
      (let both = nobody_wants facts.initial (seat_at facts b) (seat_at facts a) (pref_at facts b) (pref_at facts a) (sym (rule-more facts a b le) ∙ e) in
      (both.1, both.0))
]

pub tells_rule : (facts : Facts) (a b : ℕ) → TellsRule facts a b
tells_rule facts a b = record {
  granted = λ e wish f. gets_granted facts a b wish e f;
  higher = λ e lt wish f.
      colours-less facts a b lt
      ∙ ap (with_colour a b) (higher_gets facts.initial (seat_at facts a) (seat_at facts b) (pref_at facts a) (pref_at facts b) wish (sym (rule-less facts a b lt) ∙ e) f);
  nobody = λ e. wants_nobody facts a b e;
}
