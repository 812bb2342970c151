-- The first player's partner in the search of completable players.
use Rattle.std.proofs.Common.{◌≡◌, ℕ, Bool, true, ◌&&◌, inl, inr, List, [], ◌∷◌, ◌++◌, refl, ◌∙◌, ap, subst, append_assoc}
use Rattle.std.proofs.lemmas.Bool.{or_cases, and_parts, and_from, or_left, or_right}
use Rattle.dutch_bracket.specs.Prelude.{some_partner}

-- what a partner that serves is found by
pub record IsPartner (meets : ℕ → Bool) (holds : List ℕ → Bool) (players : List ℕ) : Type 0 where
  pub partner : ℕ
  pub front : List ℕ
  pub behind : List ℕ
  pub players_are : players ≡ front ++ partner ∷ behind
  pub may_meet : meets partner ≡ true
  pub others_hold : holds (front ++ behind) ≡ true

pub partner_of : (meets : ℕ → Bool) (holds : List ℕ → Bool) (between later : List ℕ) → some_partner meets holds between later ≡ true → IsPartner meets holds (between ++ later)
partner_of meets holds between [] e = absurd (cc)
partner_of meets holds between (b ∷ behind) e =
    elim (or_cases (meets b && holds (between ++ behind)) (some_partner meets holds (between ++ b ∷ []) behind) e) [
      | inl here ↦
          (let both = and_parts (meets b) (holds (between ++ behind)) here in
          record { partner = b; front = between; behind = behind; players_are = refl; may_meet = both.0; others_hold = both.1 })
      | inr further ↦
          subst (IsPartner meets holds) (append_assoc between (b ∷ []) behind) (partner_of meets holds (between ++ b ∷ []) behind further)
    ]

pub partner_serves : (meets : ℕ → Bool) (holds : List ℕ → Bool) (between front : List ℕ) (b : ℕ) (behind : List ℕ) → meets b ≡ true → holds (between ++ (front ++ behind)) ≡ true
    → some_partner meets holds between (front ++ b ∷ behind) ≡ true
partner_serves meets holds between [] b behind may hold =
    or_left (meets b && holds (between ++ behind)) (some_partner meets holds (between ++ b ∷ []) behind) (and_from (meets b) (holds (between ++ behind)) may hold)
partner_serves meets holds between (x ∷ front) b behind may hold =
    or_right (meets x && holds (between ++ (front ++ b ∷ behind))) (some_partner meets holds (between ++ x ∷ []) (front ++ b ∷ behind))
    (partner_serves meets holds (between ++ x ∷ []) front b behind may (ap holds (append_assoc between (x ∷ []) (front ++ behind)) ∙ hold))
