-- The search for a way to pair players out: what two ways tell together, what one partner after the other tells, and the ways of a first player.
use Rattle.std.proofs.Common.{◌≡◌, ◌≢◌, ℕ, zero, suc, ◌+◌, ◌-◌, ◌*◌, ◌%◌, ◌<◌, ◌≤◌, Bool, true, false, ◌&&◌, ◌||◌, List, [], ◌∷◌, ◌++◌, length, take, drop, get_or, refl, sym, ◌∙◌, ap, subst, arith, add-one}
use Rattle.std.specs.Prelude.{if◌then◌else◌, slice_index, swap}
use Rattle.std.proofs.Math.Bool.{and-true}
use Rattle.std.proofs.Math.Nat.{mul-le-mul_right}
use Rattle.std.proofs.lemmas.List.{drop_more, drop_all, take_more}
use Rattle.dutch_sequence.specs.declared.steps.Budget.{Budget}
use Rattle.dutch_bracket.specs.declared.answer.Answer.{Answer}
use Rattle.dutch_bracket.specs.declared.answer.Answer.TheVariants.{Yes, No, Undecided}
use Rattle.dutch_bracket.specs.Prelude.{most, most_of_bye, Searched, can_cover, can_go, left_over, nobody, some_partner}
use Rattle.dutch_completion.proofs.Turned.{brought, swap-turned, turned}

-- No at once
pub no_step : (test : Bool) (n p k : ℕ) (old : Budget) → test ≡ false → k ≡ 0 → Searched No test n p k old old
no_step test n p k old off none = record { told = off; steps = record { few = omega arith; rises = omega arith; limit = refl }; taken = omega (arith, none) }

-- an answer for one of two ways that is not No serves for both
pub either : (answer : Answer) (test other : Bool) (n m p q k l : ℕ) (old new : Budget) → answer ≢ No → n ≤ m → q ≤ p
    → Searched answer test n p k old new → Searched answer (test || other) m q l old new
either Yes test other n m p q k l old new ne le few one =
    record {
      told = ap (λ t. t || other) one.told;
      steps = record { few = omega (arith, one.steps.few, le); rises = one.steps.rises; limit = one.steps.limit };
      taken = omega (arith, one.taken, few);
    }
either No test other n m p q k l old new ne le few one = absurd (ne refl)
either Undecided test other n m p q k l old new ne le few one =
    record {
      told = record { reached = one.told.reached; needed = omega (arith, one.told.needed, le) };
      steps = record { few = omega (arith, one.steps.few, le); rises = one.steps.rises; limit = one.steps.limit };
      taken = tt {0};
    }

-- No for one of two ways, and an answer for the other
pub after_no : (answer : Answer) (test other : Bool) (n m p q j k l : ℕ) (old mid new : Budget) → q ≤ p → l ≤ j + k
    → Searched No test n p j old mid → Searched answer other m p k mid new → Searched answer (test || other) (n + m) q l old new
after_no Yes test other n m p q j k l old mid new few trials one two =
    record {
      told = ap (λ t. t || other) one.told ∙ two.told;
      steps = record { few = omega (arith, one.steps.few, two.steps.few); rises = omega (arith, one.steps.rises, two.steps.rises); limit = two.steps.limit ∙ one.steps.limit };
      taken = omega (arith, one.steps.rises, two.taken, few);
    }
after_no No test other n m p q j k l old mid new few trials one two =
    record {
      told = ap (λ t. t || other) one.told ∙ two.told;
      steps = record { few = omega (arith, one.steps.few, two.steps.few); rises = omega (arith, one.steps.rises, two.steps.rises); limit = two.steps.limit ∙ one.steps.limit };
      taken = omega (arith, one.taken, two.taken, trials);
    }
after_no Undecided test other n m p q j k l old mid new few trials one two =
    record {
      told = record { reached = two.told.reached; needed = omega (arith, one.steps.few, one.steps.limit, two.told.needed) };
      steps = record { few = omega (arith, one.steps.few, two.steps.few); rises = omega (arith, one.steps.rises, two.steps.rises); limit = two.steps.limit ∙ one.steps.limit };
      taken = tt {0};
    }

-- ---- one partner after the other

module _ (meets : ℕ → Bool) (holds : List ℕ → Bool) (all : List ℕ) (place : ℕ) (lt : place < length all) where
  abbrev here : Bool
  here = meets (get_or all place 0) && holds (take place all ++ drop (place + 1) all)

  abbrev further : Bool
  further = some_partner meets holds (take (place + 1) all) (drop (place + 1) all)

  -- no partner so far tells of those to come
  abbrev SameAt : ℕ → Type 0
  SameAt i = some_partner meets holds (take i all) (drop i all) ≡ some_partner meets holds [] all

  step_is : some_partner meets holds (take place all) (drop place all) ≡ (here || further)
  step_is =
      ap (λ rest. some_partner meets holds (take place all) rest) (drop_more all place 0 lt)
      ∙ ap (λ front. here || some_partner meets holds front (drop (place + 1) all)) (sym (take_more all place 0 lt))

  pub partner_fails : here ≡ false → SameAt place → SameAt (place + 1)
  partner_fails fails same = sym (step_is ∙ ap (λ t. t || further) fails) ∙ same

  module _ (m : ℕ) (old mid new : Budget) (none : Searched No false (place * (1 + m)) (length all + 1) place old mid) where
    -- one more who fails
    pub one_more_fails : Searched No here (1 + m) (length all + 1) 1 mid new → Searched No false ((place + 1) * (1 + m)) (length all + 1) (place + 1) old new
    one_more_fails one =
        subst (λ i. Searched No false i (length all + 1) (place + 1) old new) (let e : place * (1 + m) + (1 + m) ≡ (place + 1) * (1 + m) = omega arith in e)
        (subst (λ b. Searched No b (place * (1 + m) + (1 + m)) (length all + 1) (place + 1) old new) one.told
        (after_no No false here (place * (1 + m)) (1 + m) (length all + 1) (length all + 1) place 1 (place + 1) old mid new (omega arith) (omega arith) none one))

    -- one who does not fail serves for all
    pub one_serves : (answer : Answer) → answer ≢ No → SameAt place → Searched answer here (1 + m) (length all + 1) 1 mid new
        → Searched answer (some_partner meets holds [] all) (length all * (1 + m)) (length all + 1) (length all) old new
    one_serves answer ne same one =
        let le : (place + 1) * (1 + m) ≤ length all * (1 + m) = mul-le-mul_right (1 + m) (omega (arith, lt)) in
        subst (λ b. Searched answer b (length all * (1 + m)) (length all + 1) (length all) old new) (sym step_is ∙ same)
        (either answer here further (place * (1 + m) + (1 + m)) (length all * (1 + m)) (length all + 1) (length all + 1) (place + 1) (length all) old new ne (omega (arith, le)) (omega arith)
        (after_no answer false here (place * (1 + m)) (1 + m) (length all + 1) (length all + 1) place 1 (place + 1) old mid new (omega arith) (omega arith) none one))

pub all_fail : (meets : ℕ → Bool) (holds : List ℕ → Bool) (all : List ℕ) (i m : ℕ) (old new : Budget) → i ≡ length all
    → some_partner meets holds (take i all) (drop i all) ≡ some_partner meets holds [] all → Searched No false (i * (1 + m)) (length all + 1) i old new
    → Searched No (some_partner meets holds [] all) (length all * (1 + m)) (length all + 1) (length all) old new
all_fail meets holds all i m old new e same none =
    subst (λ (j : ℕ). Searched No (some_partner meets holds [] all) (j * (1 + m)) (length all + 1) j old new) e
    (subst (λ b. Searched No b (i * (1 + m)) (length all + 1) i old new)
    (sym (ap (λ rest. some_partner meets holds (take i all) rest) (drop_all i all (omega (arith, e)))) ∙ same) none)

pub brought_to : (place : ℕ) (all now ys : List ℕ) → now ≡ turned place all → ys ≡ swap now 0 place → place < length all → ys ≡ brought place all
brought_to place all now ys before after lt = after ∙ ap (λ (xs : List ℕ). swap xs 0 place) before ∙ swap-turned place all lt

-- what is told of the first of a list and of the others, after one was swapped to the front
pub tried : (answer : Answer) (meets : ℕ → Bool) (cover : ℕ → List ℕ → Bool) (most : ℕ → ℕ) (place : ℕ) (all now ys : List ℕ) (mid new : Budget) → now ≡ turned place all
    → ys ≡ swap now 0 place → length ys ≡ length all → place < length all
    → Searched answer (meets (slice_index ys 0) && cover (length ys - 1) (drop 1 ys)) (1 + most (length ys - 1)) (length ys + 1) 1 mid new
    → Searched answer (meets (get_or all place 0) && cover (length all - 1) (take place all ++ drop (place + 1) all)) (1 + most (length all - 1)) (length all + 1) 1 mid new
tried answer meets cover most place all now ys mid new before after len lt one =
    subst (λ zs. Searched answer (meets (slice_index zs 0) && cover (length all - 1) (drop 1 zs)) (1 + most (length all - 1)) (length all + 1) 1 mid new)
    (brought_to place all now ys before after lt)
    (subst (λ (n : ℕ). Searched answer (meets (slice_index ys 0) && cover (n - 1) (drop 1 ys)) (1 + most (n - 1)) (n + 1) 1 mid new) len one)

-- ---- the ways of a first player

most-first : (n : ℕ) (bye : Bool) → most (suc n) bye ≡ n * (1 + most (n - 1) bye) + most_of_bye (most n false) bye
most-first zero bye = omega arith
most-first (suc n) bye =
    let others = most_of_bye (most (suc n) false) bye in
    let e : n ≡ suc n - 1 = omega arith in
    ap (λ m. m * (1 + most n bye) + others) (add-one n)
    ∙ ap (λ m. suc n * (1 + most m bye) + others) e

module _ (meets : ℕ → ℕ → Bool) (may_be_left : ℕ → Bool) (bye : Bool) (a : ℕ) where
  abbrev pub go : Bool → ℕ → List ℕ → Bool
  go b = can_go meets may_be_left b

  abbrev pub paired : List ℕ → Bool
  paired later = some_partner (meets a) (go bye (length later - 1)) [] later

  abbrev pub left : List ℕ → Bool
  left later = left_over bye may_be_left a && go false (length later) later

  abbrev pub pairing : ℕ → ℕ
  pairing n = n * (1 + most (n - 1) bye)

  abbrev pub leaving : ℕ → ℕ
  leaving n = most_of_bye (most n false) bye

  first_ways : (later : List ℕ) → (paired later || left later) ≡ go bye (length (a ∷ later)) (a ∷ later)
  first_ways [] = and-true (left_over bye may_be_left a)
  first_ways (b ∷ rest) =
      let e : suc (length rest) - 1 ≡ length rest = omega arith in ap (λ n. some_partner (meets a) (go bye n) [] (b ∷ rest) || left (b ∷ rest)) e

  module _ (later : List ℕ) (l : ℕ) (answer : Answer) where
    abbrev Whole : Budget → Budget → Type 0
    Whole old new =
        Searched answer (go bye (length (a ∷ later)) (a ∷ later)) (most (length (a ∷ later)) bye) (length (a ∷ later)) l old new

    whole : (old new : Budget) → Searched answer (paired later || left later) (pairing (length later) + leaving (length later)) (length (a ∷ later)) l old new → Whole old new
    whole old new both =
        subst (λ i. Searched answer (go bye (length (a ∷ later)) (a ∷ later)) i (length (a ∷ later)) l old new) (sym (most-first (length later) bye))
        (subst (λ b. Searched answer b (pairing (length later) + leaving (length later)) (length (a ∷ later)) l old new) (first_ways later) both)

    pub by_pair : (old new : Budget) → answer ≢ No → Searched answer (paired later) (pairing (length later)) (length later + 1) (length later) old new → Whole old new
    by_pair old new ne one =
        whole old new
        (either answer (paired later) (left later) (pairing (length later)) (pairing (length later) + leaving (length later)) (length later + 1) (length (a ∷ later)) (length later) l
        old new ne (omega arith) (omega arith) one)

    pub by_leaving : (k : ℕ) (old mid new : Budget) → l ≤ length later + k → Searched No (paired later) (pairing (length later)) (length later + 1) (length later) old mid
        → Searched answer (left later) (leaving (length later)) (length later + 1) k mid new → Whole old new
    by_leaving k old mid new trials one two =
        whole old new
        (after_no answer (paired later) (left later) (pairing (length later)) (leaving (length later)) (length later + 1) (length (a ∷ later)) (length later) k l
        old mid new (omega arith) trials one two)

pub trials : (bye : Bool) (n : ℕ) → (if bye then suc n else 0) ≤ n + (if bye then 1 else 0)
trials true n = omega arith
trials false n = omega arith

-- ---- an odd number of players

and-false-or : (s t : Bool) → t ≡ false → ((s && false) || t) ≡ false
and-false-or true t e = e
and-false-or false t e = e

some_partner-none : (meets : ℕ → Bool) (holds : List ℕ → Bool) → ((xs : List ℕ) → holds xs ≡ false) → (between later : List ℕ) → some_partner meets holds between later ≡ false
some_partner-none meets holds none between [] = refl
some_partner-none meets holds none between (b ∷ after) =
    ap (λ t. (meets b && t) || some_partner meets holds (between ++ b ∷ []) after) (none (between ++ after))
    ∙ and-false-or (meets b) (some_partner meets holds (between ++ b ∷ []) after) (some_partner-none meets holds none (between ++ b ∷ []) after)

-- an odd number of players cannot be paired
pub odd_uncovered : (meets : ℕ → ℕ → Bool) (n : ℕ) → n % 2 ≡ 1 → (players : List ℕ) → can_cover meets nobody n players ≡ false
odd_uncovered meets zero odd players = absurd (omega (arith, odd))
odd_uncovered meets (suc zero) odd [] = refl
odd_uncovered meets (suc zero) odd (a ∷ later) = refl
odd_uncovered meets (suc (suc n)) odd [] = refl
odd_uncovered meets (suc (suc n)) odd (a ∷ later) =
    let less : n % 2 ≡ 1 = omega (arith, odd) in
    ap (λ t. t || (false && can_cover meets nobody (suc n) later)) (some_partner-none (meets a) (can_cover meets nobody n) (odd_uncovered meets n less) [] later)

pub odd_unpaired : (meets : ℕ → ℕ → Bool) (may_be_left : ℕ → Bool) (bye : Bool) (a : ℕ) (later : List ℕ) → bye ≡ false
    → length later % 2 ≡ 0 → can_go meets may_be_left bye (length (a ∷ later)) (a ∷ later) ≡ false
odd_unpaired meets may_be_left bye a later none even =
    ap (λ b. can_go meets may_be_left b (length (a ∷ later)) (a ∷ later)) none
    ∙ odd_uncovered meets (suc (length later)) (omega (arith, even)) (a ∷ later)
