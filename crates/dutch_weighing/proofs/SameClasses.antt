-- Two classes that are compared as equal are the same.
use Rattle.std.proofs.Common.{◌≡◌, ℕ, Bool, true, false, ◌&&◌, Option, Some, None, eqb, refl, ap, ◌∙◌, sym}
use Rattle.std.specs.Option.{option_eq}
use Rattle.std.proofs.lemmas.Bool.{eqb-true}
use Rattle.trf16_report.specs.declared.cell.Colour.{Colour}
use Rattle.trf16_report.specs.declared.cell.Colour.TheVariants.{White, Black}
use Rattle.dutch_player.specs.declared.float.Float.{Float}
use Rattle.dutch_player.specs.declared.float.Float.TheVariants.{Up, Down}
use Rattle.dutch_player.specs.declared.preference.Strength.{Strength}
use Rattle.dutch_player.specs.declared.preference.Strength.TheVariants.{Absolute, Strong, Mild}
use Rattle.dutch_player.specs.declared.preference.Pref.{Pref}
use Rattle.trf16_report.specs.contracts.cell.ColourPartialEq.TheImpl as colours
use Rattle.dutch_player.specs.contracts.preference.StrengthPartialEq.TheImpl as strengths
use Rattle.dutch_player.specs.contracts.preference.PrefPartialEq.TheImpl as prefs
use Rattle.dutch_player.specs.contracts.float.FloatPartialEq.TheImpl as floats
use Rattle.dutch_weighing.specs.declared.classes.PlayerClass.{PlayerClass}

both_true : (x y : Bool) → (x && y) ≡ true → (x ≡ true) × (y ≡ true)
both_true true true e = (refl, refl)
both_true true false e = absurd (cc)
both_true false y e = absurd (cc)

same_option : {X : Type 0} (eq : X → X → Bool) → ((x y : X) → eq x y ≡ true → x ≡ y) → (a b : Option X) → option_eq eq a b ≡ true → a ≡ b
same_option eq law None None e = refl
same_option eq law None (Some y) e = let bad : false ≡ true = e in absurd (cc)
same_option eq law (Some x) None e = let bad : false ≡ true = e in absurd (cc)
same_option eq law (Some x) (Some y) e = ap Some (law x y e)

same_float : (a b : Float) → floats.eq-value.it a b ≡ true → a ≡ b
same_float Up Up e = refl
same_float Up Down e = let bad : false ≡ true = e in absurd (cc)
same_float Down Up e = let bad : false ≡ true = e in absurd (cc)
same_float Down Down e = refl

same_colour : (a b : Colour) → colours.eq-value.it a b ≡ true → a ≡ b
same_colour White White e = refl
same_colour White Black e = let bad : false ≡ true = e in absurd (cc)
same_colour Black White e = let bad : false ≡ true = e in absurd (cc)
same_colour Black Black e = refl

same_strength : (a b : Strength) → strengths.eq-value.it a b ≡ true → a ≡ b
same_strength Absolute Absolute e = refl
same_strength Absolute Strong e = let bad : false ≡ true = e in absurd (cc)
same_strength Absolute Mild e = let bad : false ≡ true = e in absurd (cc)
same_strength Strong Absolute e = let bad : false ≡ true = e in absurd (cc)
same_strength Strong Strong e = refl
same_strength Strong Mild e = let bad : false ≡ true = e in absurd (cc)
same_strength Mild Absolute e = let bad : false ≡ true = e in absurd (cc)
same_strength Mild Strong e = let bad : false ≡ true = e in absurd (cc)
same_strength Mild Mild e = refl

-- a preference of its two parts [with same_preference]
abbrev of_parts : Strength → Colour → Pref
of_parts strength colour = record { strength = strength; colour = colour }

same_preference : (a b : Pref) → prefs.eq-value.it a b ≡ true → a ≡ b
same_preference a b e =
    let both = both_true (strengths.eq-value.it a.strength b.strength) (colours.eq-value.it a.colour b.colour) e in
    ap (λ (s : Strength). of_parts s a.colour) (same_strength a.strength b.strength both.0)
    ∙ ap (λ (c : Colour). of_parts b.strength c) (same_colour a.colour b.colour both.1)

-- a class of its parts [with same_class]
abbrev of_all : ℕ → Option Pref → Option Float → Option Float → Option ℕ → PlayerClass
of_all score preference latest earlier single =
    record { score = score; preference = preference; latest = latest; earlier = earlier; single = single }

pub same_class : (p q : PlayerClass)
    → (eqb p.score q.score
    && (option_eq prefs.eq-value.it p.preference q.preference
    && (option_eq floats.eq-value.it p.latest q.latest
    && (option_eq floats.eq-value.it p.earlier q.earlier && option_eq eqb p.single q.single)))) ≡ true → p ≡ q
same_class p q e =
    let (score, e1) = both_true _ _ e in
    let (preference, e2) = both_true _ _ e1 in
    let (latest, e3) = both_true _ _ e2 in
    let (earlier, single) = both_true _ _ e3 in
    let s : p.score ≡ q.score = eqb-true _ _ score in
    let r = same_option prefs.eq-value.it same_preference p.preference q.preference preference in
    let l = same_option floats.eq-value.it same_float p.latest q.latest latest in
    let f = same_option floats.eq-value.it same_float p.earlier q.earlier earlier in
    let o = same_option eqb (λ x y. eqb-true x y) p.single q.single single in
    ap (λ (n : ℕ). of_all n p.preference p.latest p.earlier p.single) s
    ∙ (ap (λ (n : Option Pref). of_all q.score n p.latest p.earlier p.single) r
    ∙ (ap (λ (n : Option Float). of_all q.score q.preference n p.earlier p.single) l
    ∙ (ap (λ (n : Option Float). of_all q.score q.preference q.latest n p.single) f
    ∙ ap (λ (n : Option ℕ). of_all q.score q.preference q.latest q.earlier n) o)))
