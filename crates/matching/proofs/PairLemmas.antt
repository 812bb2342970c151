-- How the list of partners grows: it has the pairs of the links, and no others.
use Rattle.std.proofs.Common.{◌≡◌, ◌<◌, ℕ, zero, suc, Bool, List, [], ◌∷◌, ◌++◌, length, length-append, Option, Some, None}
use Rattle.std.proofs.Common.{refl, sym, ◌∙◌, subst, inl, inr, arith}
use Rattle.std.proofs.lemmas.Bool.{cases_lt}
use Rattle.std.specs.List.{slice_get}
use Rattle.std.specs.Option.{MatchOption}
use Rattle.std.proofs.lemmas.Option.{slice_get_within}
use Rattle.matching.specs.Matchings.{Gives, IsPair, IsMatching, HasPairs}

-- one element more: an earlier place keeps its element
pub earlier : {X : Type 0} (xs : List X) (x : X) (k : ℕ) → k < length xs → slice_get (xs ++ x ∷ []) k ≡ slice_get xs k
earlier [] x k h = absurd (omega arith)
earlier (y ∷ ys) x zero h = refl
earlier (y ∷ ys) x (suc k) h = earlier ys x k (omega arith)

-- and the last place has the new one
pub last : {X : Type 0} (xs : List X) (x : X) → slice_get (xs ++ x ∷ []) (length xs) ≡ Some x
last [] x = refl
last (y ∷ ys) x = last ys x

-- the first partners of a list are those of the pairs of the links
pub record Copies (joined : ℕ → ℕ → Bool) (links found : List (Option ℕ)) : Type 0 where
  pub sound : (a b : ℕ) → Gives found a b → IsPair joined links a b
  pub full : (a b : ℕ) → a < length found → IsPair joined links a b → Gives found a b

-- a pair is one in either order
pub turned : (joined : ℕ → ℕ → Bool) (links : List (Option ℕ)) (a b : ℕ) → IsPair joined links a b → IsPair joined links b a
turned joined links a b pair = record {
  given = pair.back;
  back = pair.given;
  two = λ e. pair.two (sym e);
  joined_to = pair.joined_from;
  joined_from = pair.joined_to;
}

pub whole : (joined : ℕ → ℕ → Bool) (links found : List (Option ℕ)) (size : ℕ) →
    length links ≡ size → length found ≡ size → Copies joined links found → IsMatching size joined found
whole joined links found size as_long places copies = record {
  places = places;
  pairs = λ a b given.
      let pair = copies.sound a b given in
      let there : b < length links = slice_get_within links b (Some a) pair.back in
      let back = copies.full b a (omega arith) (turned joined links a b pair) in
      record { given = given; back = back; two = pair.two; joined_to = pair.joined_to; joined_from = pair.joined_from };
}

-- a copy of all places has all pairs
pub all_kept : (joined : ℕ → ℕ → Bool) (links found : List (Option ℕ)) →
    length found ≡ length links → Copies joined links found → HasPairs joined links found
all_kept joined links found as_long copies = λ a b pair.
    let there : a < length links = slice_get_within links a (Some b) pair.given in
    copies.full a b (omega arith) pair

-- what is known of an answer that is a partner
told : (joined : ℕ → ℕ → Bool) (links : List (Option ℕ)) (a b : ℕ) (answer : Option ℕ) → answer ≡ Some b →
    MatchOption answer ((c : ℕ) → ¬ IsPair joined links a c) (IsPair joined links a) → IsPair joined links a b
told joined links a b None e known = cc
told joined links a b (Some c) e known = let same : c ≡ b = cc in subst (IsPair joined links a) same known

-- the answer for a vertex that is in a pair
partnered : (joined : ℕ → ℕ → Bool) (links : List (Option ℕ)) (a b : ℕ) (answer : Option ℕ) → IsPair joined links a b →
    MatchOption answer ((c : ℕ) → ¬ IsPair joined links a c) (IsPair joined links a) → answer ≡ Some b
partnered joined links a b None pair known = absurd (known b pair)
partnered joined links a b (Some c) pair known = let one = known.given in let other = pair.given in cc

-- with the next vertex's answer behind it, a list still has the partners of the pairs
pub pushed : (joined : ℕ → ℕ → Bool) (links found : List (Option ℕ)) (answer : Option ℕ) →
    MatchOption answer ((b : ℕ) → ¬ IsPair joined links (length found) b) (IsPair joined links (length found)) →
    Copies joined links found → Copies joined links (found ++ answer ∷ [])
pushed joined links found answer known copies = record {
  sound = λ a b given.
      elim (cases_lt a (length found)) [
        | inl here ↦ copies.sound a b (sym (earlier found answer a here) ∙ given)
        | inr past ↦
            let within : a < length (found ++ answer ∷ []) = slice_get_within (found ++ answer ∷ []) a (Some b) given in
            let at-end : a ≡ length found = omega (arith, length-append found (answer ∷ [])) in
            let new = last found answer in
            let named : answer ≡ Some b = cc in
            subst (λ (v : ℕ). IsPair joined links v b) (sym at-end) (told joined links (length found) b answer named known)
      ];
  full = λ a b within pair.
      elim (cases_lt a (length found)) [
        | inl here ↦ earlier found answer a here ∙ copies.full a b here pair
        | inr past ↦
            let at-end : a ≡ length found = omega (arith, length-append found (answer ∷ [])) in
            let named = partnered joined links (length found) b answer (subst (λ (v : ℕ). IsPair joined links v b) at-end pair) known in
            let new = last found answer in
            cc
      ];
}

-- the same where the vertex and the longer list have names of their own
pub one_more : (joined : ℕ → ℕ → Bool) (links found after : List (Option ℕ)) (answer : Option ℕ) (a : ℕ) →
    length found ≡ a → after ≡ found ++ answer ∷ [] →
    MatchOption answer ((b : ℕ) → ¬ IsPair joined links a b) (IsPair joined links a) →
    Copies joined links found → Copies joined links after
one_more joined links found after answer a places longer known copies =
    let Known : ℕ → Type 0 = λ v. MatchOption answer ((b : ℕ) → ¬ IsPair joined links v b) (IsPair joined links v) in
    subst (Copies joined links) (sym longer) (pushed joined links found answer (subst Known (sym places) known) copies)
