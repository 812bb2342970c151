-- What clap's getters read of an option, by the rows of a parse.
use Rattle.std.proofs.Common.{◌≡◌, ◌∙◌, ◌<◌, ◌≤◌, ◌^◌, ◌&&◌, suc, ap, arith, sym, refl, cond, ℕ, Bool, true, false, nat_le, nat_lt, List, Option, Some, None, Ok, Err, Result}
use Rattle.std.specs.Prelude.{if◌then◌else◌, option_and_then, MatchOption}
use Rattle.std.specs.Bool.{then_some}
use Rattle.std.proofs.lemmas.Bool.Decides.{nat_tests}
use Rattle.std.specs.Str.Parse.{ParsesUnsigned, digits_value, without_leading_plus}
use Rattle.clap.specs.Matches.{ReadsOne, one_text}
use Rattle.clap.specs.ValueTests.{is_numeral, is_unsigned_in}
use Rattle.clap.specs.Words.{Row, Text, one_of, rows_of}
use Rattle.clap.specs.declared.builder.value_parser.ValueParser.TheVariants as vp
use Rattle.clap.specs.declared.parser.matches.Found.{Found}
use Rattle.clap.proofs.ValueTestLemmas.{Accepts-accepts, accepts-Accepts}
use Rattle.clap.proofs.WalkLemmas.{one_text-rows}
use Rattle.requests.specs.Prelude.{number_in, number_of}

-- what `from_str` reads of a text at an unsigned type of k bits
module _ (E : Type 0) (G : List ℕ → Result ℕ E → Type 0) (k most : ℕ) (top : suc most ≡ 2 ^ k) (small : most < 2 ^ 64)
    (only : (u : List ℕ) (x : Result ℕ E) → G u x → ParsesUnsigned k 10 u x) where
  number_test : (t : Text) (b : Bool) → is_unsigned_in 0 most t ≡ b → (r : Option ℕ) → ReadsOne G t r → r ≡ number_of most t
  number_test t true passes (Some v) g =
      let parsed = only t (Ok v) g in
      ap Some parsed.1 ∙ sym (ap (λ c. if c then Some (digits_value 10 (without_leading_plus t)) else None) passes)
  number_test t true passes None g =
      let accepted = accepts-Accepts false (vp.Unsigned 0 most) t passes in
      absurd (only t (Err g.0) g.1 (accepted.0, omega (arith, top, accepted.3)))
  number_test t false fails (Some v) g =
      let parsed = only t (Ok v) g in
      let passes : is_unsigned_in 0 most t ≡ true = Accepts-accepts false (vp.Unsigned 0 most) t (parsed.0.0, omega (arith, top, small, parsed.0.1), omega arith, omega (arith, top, parsed.0.1)) in
      let bad : true ≡ false = sym passes ∙ fails in
      cc
  number_test t false fails None g = sym (ap (λ c. if c then Some (digits_value 10 (without_leading_plus t)) else None) fails)

  -- what `get_one` reads of an option
  pub number_read : (id : Text) (f : Found) (r : Option ℕ) → (one_text f id ≡ None → r ≡ None) → ((t : Text) → one_text f id ≡ Some t → ReadsOne G t r)
      → r ≡ number_in most id (rows_of f)
  number_read id f r none value = go (one_text f id) refl
    where
      go : (o : Option Text) → one_text f id ≡ o → r ≡ number_in most id (rows_of f)
      go None e = none e ∙ sym (ap (option_and_then (number_of most)) (sym (one_text-rows f id) ∙ e))
      go (Some t) e = number_test t (is_unsigned_in 0 most t) refl r (value t e) ∙ sym (ap (option_and_then (number_of most)) (sym (one_text-rows f id) ∙ e))

-- a number, if it is at most so much
abbrev pub kept : ℕ → Option ℕ → Option ℕ
kept most None = None
kept most (Some n) = cond (nat_le n most) (Some n) None

kept_at : (low high n : ℕ) (t : Bool) → low ≤ high → nat_le n high ≡ t → kept low (cond t (Some n) None) ≡ cond (nat_le n low) (Some n) None
kept_at low high n true le e = refl
kept_at low high n false le e =
    let fails : nat_le n low ≡ false = grind (arith, nat_tests) in
    sym (ap (λ b. cond b (Some n) None) fails)

kept_of : (low high n : ℕ) (a b c : Bool) → low ≤ high
    → kept low (cond (a && (b && (c && nat_le n high))) (Some n) None) ≡ cond (a && (b && (c && nat_le n low))) (Some n) None
kept_of low high n true true true le = kept_at low high n (nat_le n high) le refl
kept_of low high n true true false le = refl
kept_of low high n true false c le = refl
kept_of low high n false b c le = refl

kept_number : (low high : ℕ) (found : Option Text) → low ≤ high → kept low (option_and_then (number_of high) found) ≡ option_and_then (number_of low) found
kept_number low high None le = refl
kept_number low high (Some text) le =
    let n = digits_value 10 (without_leading_plus text) in
    kept_of low high n (is_numeral (without_leading_plus text)) (nat_lt n (2 ^ 64)) (nat_le 0 n) le

if_true : (b : Bool) (x : ℕ) → then_some b x ≡ cond b (Some x) None
if_true true x = refl
if_true false x = refl

-- a number that is kept only where it is at most so much
pub number_kept : (low high : ℕ) (id : Text) (rows : List Row) (r result : Option ℕ) → low ≤ high → r ≡ number_in high id rows
    → MatchOption r (result ≡ None) (λ x. result ≡ then_some (nat_le x low) x) → result ≡ number_in low id rows
number_kept low high id rows r result le e h = filtered r result h ∙ (ap (kept low) e ∙ kept_number low high (one_of id rows) le)
  where
    filtered : (r result : Option ℕ) → MatchOption r (result ≡ None) (λ x. result ≡ then_some (nat_le x low) x) → result ≡ kept low r
    filtered None result h = h
    filtered (Some x) result h = h ∙ if_true (nat_le x low) x
