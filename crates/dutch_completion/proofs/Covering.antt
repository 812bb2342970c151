-- The search of completable players tells of a list of pairs that leaves out at most one, and so does the test over all ways.
use Rattle.std.proofs.Common.{◌≡◌, ℕ, zero, suc, Bool, true, ◌&&◌, ◌↔◌, inl, inr, List, [], ◌∷◌, ◌++◌, length, refl, sym, ◌∙◌, ap, subst, arith}
use Rattle.std.proofs.lemmas.Bool.{or_cases, and_parts, and_from, or_left, or_right}
use Rattle.std.proofs.lemmas.List.{length-append}
use Rattle.dutch_bracket.specs.declared.answer.Answer.{Answer}
use Rattle.dutch_bracket.specs.declared.answer.Answer.TheVariants.{Yes, No, Undecided}
use Rattle.dutch_bracket.specs.Prelude.{can_complete, MatchAnswer, Tells, some_partner, nobody, can_cover}
use Rattle.dutch_bracket.specs.Completion.{Covers, MayBeLeftOut, Completable}
use Rattle.dutch_completion.proofs.AllPairings.{complete_by_search}
use Rattle.dutch_completion.proofs.Partners.{partner_of, partner_serves}

none_left : (out : List ℕ) → MayBeLeftOut nobody out → out ≡ []
none_left [] left = refl
none_left (a ∷ []) left = absurd (cc)
none_left (a ∷ b ∷ rest) left = absurd left

one_left : (may_be_left : ℕ → Bool) (a : ℕ) (rest : List ℕ) → MayBeLeftOut may_be_left (a ∷ rest) → (may_be_left a ≡ true) × (rest ≡ [])
one_left may_be_left a [] left = (left, refl)
one_left may_be_left a (b ∷ rest) left = absurd left

module _ (meets : ℕ → ℕ → Bool) where
  skip_first : (a : ℕ) (players : List ℕ) (pairs : List (ℕ × ℕ)) (out : List ℕ) → Covers meets players pairs out → Covers meets (a ∷ players) pairs (a ∷ out)
  skip_first a players [] out e = ap (λ xs. a ∷ xs) e
  skip_first a players (pair ∷ pairs) out c =
      record {
        skipped = a ∷ c.skipped;
        between = c.between;
        behind = c.behind;
        later = c.later;
        players_are = ap (λ xs. a ∷ xs) c.players_are;
        may_meet = c.may_meet;
        out_are = ap (λ xs. a ∷ xs) c.out_are;
        covered = c.covered;
      }

  -- the first of some players left out
  pub with_left : (may_be_left : ℕ → Bool) (a : ℕ) (later : List ℕ) → may_be_left a ≡ true → Completable meets nobody later → Completable meets may_be_left (a ∷ later)
  with_left may_be_left a later may rest =
      record {
        pairs = rest.pairs;
        out = a ∷ [];
        covered = skip_first a later rest.pairs [] (subst (Covers meets later rest.pairs) (none_left rest.out rest.left_out) rest.covered);
        left_out = may;
      }

  -- the first of some players paired
  pub with_pair : (may_be_left : ℕ → Bool) (a : ℕ) (later : List ℕ) (b : ℕ) (between behind : List ℕ) → later ≡ between ++ b ∷ behind → meets a b ≡ true
      → Completable meets may_be_left (between ++ behind) → Completable meets may_be_left (a ∷ later)
  with_pair may_be_left a later b between behind e may rest =
      record {
        pairs = (a, b) ∷ rest.pairs;
        out = rest.out;
        covered = record {
          skipped = [];
          between = between;
          behind = behind;
          later = rest.out;
          players_are = ap (λ xs. a ∷ xs) e;
          may_meet = may;
          out_are = refl;
          covered = rest.covered;
        };
        left_out = rest.left_out;
      }

module _ (meets : ℕ → ℕ → Bool) where
  list_of_test : (n : ℕ) (may_be_left : ℕ → Bool) (players : List ℕ) → length players ≡ n → can_cover meets may_be_left n players ≡ true → Completable meets may_be_left players
  list_of_test zero may_be_left [] e t = record { pairs = []; out = []; covered = refl; left_out = tt {0} }
  list_of_test zero may_be_left (a ∷ later) e t = absurd (omega (arith, e))
  list_of_test (suc zero) may_be_left [] e t = absurd (cc)
  list_of_test (suc zero) may_be_left (a ∷ []) e t = record { pairs = []; out = a ∷ []; covered = refl; left_out = t }
  list_of_test (suc zero) may_be_left (a ∷ b ∷ later) e t = absurd (omega (arith, e))
  list_of_test (suc (suc n)) may_be_left [] e t = absurd (cc)
  list_of_test (suc (suc n)) may_be_left (a ∷ later) e t =
      elim (or_cases (some_partner (meets a) (can_cover meets may_be_left n) [] later) (may_be_left a && can_cover meets nobody (suc n) later) t) [
        | inl paired ↦
            (let found = partner_of (meets a) (can_cover meets may_be_left n) [] later paired in
            let fewer : length (found.front ++ found.behind) ≡ n =
            omega (arith, length-append found.front found.behind, length-append found.front (found.partner ∷ found.behind), ap length found.players_are, e) in
            with_pair meets may_be_left a later found.partner found.front found.behind found.players_are found.may_meet
            (list_of_test n may_be_left (found.front ++ found.behind) fewer found.others_hold))
        | inr left ↦
            (let both = and_parts (may_be_left a) (can_cover meets nobody (suc n) later) left in
            with_left meets may_be_left a later both.0 (list_of_test (suc n) nobody later (omega (arith, e)) both.1))
      ]

  -- what the test says of any list of pairs of players of a number
  abbrev Passes : ℕ → (ℕ → Bool) → Type 0
  Passes n may_be_left =
      (players : List ℕ) → length players ≡ n → (pairs : List (ℕ × ℕ)) (out : List ℕ) → Covers meets players pairs out → MayBeLeftOut may_be_left out
      → can_cover meets may_be_left n players ≡ true

  passes_first : (n : ℕ) (may_be_left : ℕ → Bool) → Passes n may_be_left → Passes (suc n) nobody
      → (a : ℕ) (later : List ℕ) → length (a ∷ later) ≡ suc (suc n) → (pair : ℕ × ℕ) (pairs : List (ℕ × ℕ)) (out skipped between behind rest : List ℕ)
      → a ∷ later ≡ skipped ++ pair.0 ∷ (between ++ pair.1 ∷ behind) → meets pair.0 pair.1 ≡ true → out ≡ skipped ++ rest → Covers meets (between ++ behind) pairs rest
      → MayBeLeftOut may_be_left out → can_cover meets may_be_left (suc (suc n)) (a ∷ later) ≡ true
  passes_first n may_be_left two one a later e pair pairs out [] between behind rest are may outs cover left =
      let here : a ≡ pair.0 = cc are in
      let there : later ≡ between ++ pair.1 ∷ behind = cc are in
      let fewer : length (between ++ behind) ≡ n =
      omega (arith, length-append between behind, length-append between (pair.1 ∷ behind), ap length there, e) in
      let holds : can_cover meets may_be_left n (between ++ behind) ≡ true = two (between ++ behind) fewer pairs rest cover (subst (MayBeLeftOut may_be_left) outs left) in
      or_left (some_partner (meets a) (can_cover meets may_be_left n) [] later) (may_be_left a && can_cover meets nobody (suc n) later)
      (ap (λ xs. some_partner (meets a) (can_cover meets may_be_left n) [] xs) there
      ∙ partner_serves (meets a) (can_cover meets may_be_left n) [] between pair.1 behind (ap (λ x. meets x pair.1) here ∙ may) holds)
  passes_first n may_be_left two one a later e pair pairs out (s ∷ skipped) between behind rest are may outs cover left =
      let here : a ≡ s = cc are in
      let there : later ≡ skipped ++ pair.0 ∷ (between ++ pair.1 ∷ behind) = cc are in
      let lone = one_left may_be_left s (skipped ++ rest) (subst (MayBeLeftOut may_be_left) outs left) in
      let nothing : MayBeLeftOut nobody (skipped ++ rest) = subst (MayBeLeftOut nobody) (sym lone.1) (tt {0}) in
      let holds : can_cover meets nobody (suc n) later ≡ true =
      one later (omega (arith, e)) (pair ∷ pairs) (skipped ++ rest)
      (record { skipped = skipped; between = between; behind = behind; later = rest; players_are = there; may_meet = may; out_are = refl; covered = cover }) nothing in
      or_right (some_partner (meets a) (can_cover meets may_be_left n) [] later) (may_be_left a && can_cover meets nobody (suc n) later)
      (and_from (may_be_left a) (can_cover meets nobody (suc n) later) (ap may_be_left here ∙ lone.0) holds)

  test_of_list : (n : ℕ) (may_be_left : ℕ → Bool) → Passes n may_be_left
  test_of_list zero may_be_left players e pairs out cover left = refl
  test_of_list (suc zero) may_be_left [] e pairs out cover left = absurd (omega (arith, e))
  test_of_list (suc zero) may_be_left (a ∷ []) e [] out cover left = subst (MayBeLeftOut may_be_left) (sym cover) left
  test_of_list (suc zero) may_be_left (a ∷ []) e (pair ∷ pairs) out cover left =
      absurd
      (omega
      (arith, ap length cover.players_are, length-append cover.skipped (pair.0 ∷ (cover.between ++ pair.1 ∷ cover.behind)), length-append cover.between (pair.1 ∷ cover.behind)))
  test_of_list (suc zero) may_be_left (a ∷ b ∷ later) e pairs out cover left = absurd (omega (arith, e))
  test_of_list (suc (suc n)) may_be_left [] e pairs out cover left = absurd (omega (arith, e))
  test_of_list (suc (suc n)) may_be_left (a ∷ []) e [] out cover left = absurd (omega (arith, e))
  test_of_list (suc (suc n)) may_be_left (a ∷ b ∷ later) e [] out cover left = absurd (subst (MayBeLeftOut may_be_left) (sym cover) left)
  test_of_list (suc (suc n)) may_be_left (a ∷ later) e (pair ∷ pairs) out c left =
      passes_first n may_be_left (test_of_list n may_be_left) (test_of_list (suc n) nobody) a later e pair pairs out
      c.skipped c.between c.behind c.later c.players_are c.may_meet c.out_are c.covered left

pub completable_by_search : (meets : ℕ → ℕ → Bool) (may_be_left : ℕ → Bool) (players : List ℕ)
    → Completable meets may_be_left players ↔ (can_cover meets may_be_left (length players) players ≡ true)
completable_by_search meets may_be_left players = (
  λ whole. test_of_list meets (length players) may_be_left players refl whole.pairs whole.out whole.covered whole.left_out,
  λ t. list_of_test meets (length players) may_be_left players refl t,
)

pub completable_by_test : (meets : ℕ → ℕ → Bool) (may_be_left : ℕ → Bool) (players : List ℕ)
    → Completable meets may_be_left players ↔ (can_complete meets may_be_left players ≡ true)
completable_by_test meets may_be_left players =
    let list = completable_by_search meets may_be_left players in
    let test = complete_by_search meets may_be_left players in
    (λ whole. test.1 (list.0 whole), λ t. list.1 (test.0 t))

-- an answer by the search is an answer
pub answer_by_search : (meets : ℕ → ℕ → Bool) (may_be_left : ℕ → Bool) (players : List ℕ) (answer : Answer) (stopped : Type 0)
    → Tells answer (can_cover meets may_be_left (length players) players) stopped
    → MatchAnswer answer (Completable meets may_be_left players) (¬ Completable meets may_be_left players) stopped
answer_by_search meets may_be_left players Yes stopped told = (completable_by_search meets may_be_left players).1 told
answer_by_search meets may_be_left players No stopped told =
    λ whole. let yes : can_cover meets may_be_left (length players) players ≡ true = (completable_by_search meets may_be_left players).0 whole in absurd (cc (told, yes))
answer_by_search meets may_be_left players Undecided stopped told = told
