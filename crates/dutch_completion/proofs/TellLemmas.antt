-- What the answer about completion tells by the test.
use Rattle.std.proofs.Common.{◌≡◌, ℕ, Bool, true, false, true≢false, not, ◌||◌, List, ◌++◌, map, Result, Ok, Err, sym, subst}
use Rattle.std.specs.Result.{IsErr}
use Rattle.std.proofs.lemmas.Bool.{false_from_ne_true}
use Rattle.dutch_arrangements.specs.Prelude.{Arrangement, down}
use Rattle.dutch_sequence.specs.declared.steps.Stopped.{Stopped}
use Rattle.dutch_player.specs.Prelude.{Facts}
use Rattle.dutch_bracket.specs.declared.answer.Answer.{Answer}
use Rattle.dutch_bracket.specs.declared.answer.Answer.TheVariants.{Yes, No, Undecided}
use Rattle.dutch_bracket.specs.Prelude.{can_complete, MatchAnswer, Tells, Reached, frame_of, seat_of, is_penultimate, completable, downfloaters, Decides}
use Rattle.dutch_bracket.specs.Completion.{Completable}
use Rattle.dutch_bracket.specs.Eligible.{can_be_chosen}
use Rattle.dutch_completion.proofs.Covering.{completable_by_test}

pub decided_by : (answer : Answer) (decided : Result Bool Stopped) (test : Bool) (old new : Type 0) → (old → new)
    → MatchAnswer answer (decided ≡ Ok true) (decided ≡ Ok false) (IsErr decided) → Tells answer test old → Decides decided test new
decided_by Yes decided test old new f e h = subst (λ d. Decides d test new) (sym e) (sym h)
decided_by No decided test old new f e h = subst (λ d. Decides d test new) (sym e) (sym h)
decided_by Undecided (Ok b) test old new f e h = absurd (true≢false (sym e))
decided_by Undecided (Err stop) test old new f e h = f h

decided_by_test : (meets : ℕ → ℕ → Bool) (may_be_left : ℕ → Bool) (players : List ℕ) (answer : Answer) (stopped : Type 0)
    → MatchAnswer answer (Completable meets may_be_left players) (¬ Completable meets may_be_left players) stopped → Tells answer (can_complete meets may_be_left players) stopped
decided_by_test meets may_be_left players Yes stopped h = (completable_by_test meets may_be_left players).0 h
decided_by_test meets may_be_left players No stopped h =
    false_from_ne_true (can_complete meets may_be_left players) (λ test. h ((completable_by_test meets may_be_left players).1 test))
decided_by_test meets may_be_left players Undecided stopped h = h

pub told : (meets : ℕ → ℕ → Bool) (may_be_left : ℕ → Bool) (players : List ℕ) (answer : Answer) (decided : Result Bool Stopped) (old new : Type 0) → (old → new)
    → MatchAnswer answer (decided ≡ Ok true) (decided ≡ Ok false) (IsErr decided)
    → MatchAnswer answer (Completable meets may_be_left players) (¬ Completable meets may_be_left players) old
    → Decides decided (can_complete meets may_be_left players) new
told meets may_be_left players answer decided old new f e h =
    decided_by answer decided (can_complete meets may_be_left players) old new f e (decided_by_test meets may_be_left players answer old h)

chosen_at : (decided : Result Bool Stopped) (penultimate test : Bool) (stopped : Type 0) → true ≡ penultimate → Decides decided test stopped → Decides decided (not penultimate || test) stopped
chosen_at decided true test stopped e h = h
chosen_at decided false test stopped e h = let bad : true ≡ false = e in cc

-- in the penultimate bracket, the answer about those left over and all lower players
pub can_be_chosen_told : (facts : Facts) (reached : Reached) (lower left : List ℕ) (lists : Arrangement) (decided : Result Bool Stopped) (stopped : Type 0)
    → true ≡ is_penultimate reached.kind → left ≡ down (frame_of facts reached) lists
    → Decides decided (completable facts (map (seat_of reached.seats) left ++ lower)) stopped
    → Decides decided (can_be_chosen facts reached lower lists) stopped
can_be_chosen_told facts reached lower left lists decided stopped kind e h =
    chosen_at decided (is_penultimate reached.kind) (completable facts (downfloaters facts reached lists ++ lower)) stopped kind
    (subst (λ numbers. Decides decided (completable facts (map (seat_of reached.seats) numbers ++ lower)) stopped) e h)
