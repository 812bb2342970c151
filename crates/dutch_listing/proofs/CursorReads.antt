-- Reading a cursor gives exactly the arrangements of the bracket and shape, each of its own text.
use Rattle.std.proofs.Common.{◌≡◌, ℕ, ◌+◌, ◌-◌, Bool, true, false, cond, List, length, refl, sym, ap, ◌∙◌, arith, inl, inr, subst, Option, Some, None}
use Rattle.std.specs.Prelude.{Ok, Err}
use Rattle.std.specs.Option.{is_some}
use Rattle.std.proofs.lemmas.Bool.{cases_Bool, true≢false}
use Rattle.dutch_arrangements.specs.Prelude.{IsIn, Frame, Arrangement, IsBracket, residents_of, left_of, arrangements, parts, cursor_text, parsed, is_of, of_bracket, cursor_of}
use Rattle.dutch_arrangements.specs.declared.bracket.Shape.{Shape}
use Rattle.dutch_arrangements.specs.declared.cursor.CursorFault.{CursorFault}
use Rattle.dutch_arrangements.specs.declared.cursor.CursorFault.TheVariants.{Syntax, NotOfBracket}
use Rattle.dutch_sequence.proofs.Orders.{all_members}
use Rattle.dutch_arrangements.proofs.Parts.{glue-parts}
use Rattle.dutch_listing.proofs.CursorNumbers.{IsNumber}
use Rattle.dutch_arrangements.proofs.CursorSets.{numbers-within, lists-are, left-within}
use Rattle.dutch_arrangements.proofs.CursorArrangements.{of-in, in-of}
use Rattle.dutch_listing.proofs.CursorTexts.{HasNumbers, parsed-text, arrangement-read}

resident-number : (frame : Frame) (x : ℕ) → IsBracket frame.scores frame.mdps → IsIn x (residents_of frame) → IsNumber x
resident-number frame x is m =
    let within = numbers-within (frame.mdps + 1) (length frame.scores - frame.mdps) x m in
    record { some = omega (arith, within.0); few = omega (arith, within.1, is.few, is.within) }

has-numbers : (frame : Frame) (shape : Shape) (a : Arrangement) → IsBracket frame.scores frame.mdps → is_of frame shape a ≡ true → HasNumbers a
has-numbers frame shape a is h =
    let are = lists-are frame shape a h in
    let residents = residents_of frame in
    record {
      s1 = all_members IsNumber a.s1
          (λ x m. let within = numbers-within 1 frame.mdps x (are.s1.within x m) in record { some = within.0; few = omega (arith, within.1, is.few, is.within) });
      s2 = all_members IsNumber a.s2 (λ x m. resident-number frame x is (are.s2.within x m));
      s1r = all_members IsNumber a.s1r (λ x m. resident-number frame x is (left-within residents a.s2 x (are.s1r.within x m)));
      s2r = all_members IsNumber a.s2r
          (λ x m. resident-number frame x is (left-within residents a.s2 x (left-within (left_of residents a.s2) a.s1r x (are.s2r.within x m))));
    }

err_ok : (fault : CursorFault) (a : Arrangement) → Err fault ≡ Ok a → ⊥
err_ok fault a h = cc

given : (frame : Frame) (shape : Shape) (read : Option Arrangement) (a : Arrangement) → of_bracket frame shape read ≡ Ok a → (read ≡ Some a) × (is_of frame shape a ≡ true)
given frame shape None a h = absurd (err_ok Syntax a h)
given frame shape (Some b) a h =
    elim (cases_Bool (is_of frame shape b)) [
      | inl is ↦
          let here : Ok b ≡ Ok a = sym (ap (λ (t : Bool). cond t (Ok b) (Err NotOfBracket)) is) ∙ h in
          let same : b ≡ a = cc in
          (ap Some same, subst (λ c. is_of frame shape c ≡ true) same is)
      | inr other ↦ absurd (err_ok NotOfBracket a (sym (ap (λ (t : Bool). cond t (Ok b) (Err NotOfBracket)) other) ∙ h))
    ]

pub read-is : (frame : Frame) (shape : Shape) (bytes : List ℕ) (a : Arrangement) → IsBracket frame.scores frame.mdps → cursor_of frame shape bytes ≡ Ok a
    → IsIn a (arrangements frame shape) × (bytes ≡ cursor_text a)
read-is frame shape bytes a is h =
    let found = given frame shape (parsed bytes) a h in
    (of-in frame shape a is.within found.1, sym (glue-parts 47 bytes) ∙ (arrangement-read (parts 47 bytes) a found.0).0)

pub is-read : (frame : Frame) (shape : Shape) (bytes : List ℕ) (a : Arrangement) → IsBracket frame.scores frame.mdps → IsIn a (arrangements frame shape) → bytes ≡ cursor_text a
    → cursor_of frame shape bytes ≡ Ok a
is-read frame shape bytes a is m same =
    let of-it = in-of frame shape a is.within m in
    ap (cursor_of frame shape) same ∙ ap (of_bracket frame shape) (parsed-text a (has-numbers frame shape a is of-it)) ∙ ap (λ (t : Bool). cond t (Ok a) (Err NotOfBracket)) of-it

not_syntax : (b : Bool) (a : Arrangement) → cond b (Ok a) (Err NotOfBracket) ≡ Err Syntax → ⊥
not_syntax true a h = cc
not_syntax false a h = cc

-- which texts are of another form
pub told : (frame : Frame) (shape : Shape) (read : Option Arrangement) → (of_bracket frame shape read ≡ Err Syntax → is_some read ≡ false) × (is_some read ≡ false → of_bracket frame shape read ≡ Err Syntax)
told frame shape None = (λ h. refl, λ h. refl)
told frame shape (Some a) = (λ h. absurd (not_syntax (is_of frame shape a) a h), λ h. absurd (true≢false h))
