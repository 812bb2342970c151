-- The seats of a field are those of the present players of its report, by rank.
use Rattle.std.proofs.Common.{◌≡◌, ℕ, ◌+◌, ◌<◌, ◌≤◌, Bool, true, false, cond, ◌==◌, nat_eq, nat_lt, List, [], ◌∷◌, map, Option, Some, None, Result, Ok, Err, not, length, ◌&&◌, ◌||◌, inl, inr, refl, sym, ap, ◌∙◌, subst, arith}
use Rattle.std.specs.Prelude.{All, Contains, IsPermutation, codes, option_map, slice_index_or}
use Rattle.std.specs.List.{AllByRecursion, IsDistinct, list_any}
use Rattle.std.specs.Option.{ok_or, option_map_or}
use Rattle.std.proofs.lemmas.Bool.{eq-eqb, eqb-true, or_left, or_right, or_cases, true≢false}
use Rattle.std.proofs.lemmas.Bool.Decides.{nat_tests}
use Rattle.std.proofs.lemmas.List.Elements.{All-from_recursion, All-get_or, recursion_from_All}
use Rattle.std.proofs.lemmas.List.Folds.{Any-from_list_any}
use Rattle.std.proofs.lemmas.List.Sorted.{All-permutation, IsPermutation-map, list_any-IsPermutation}
use Rattle.std.proofs.lemmas.Map.Keys.{IsDistinct-IsPermutation}
use Rattle.std.proofs.lemmas.Map.Views.{any-filter_same}
use Rattle.std.proofs.lemmas.List.{get_or-map, length-map}
use Rattle.std.proofs.Math.Bool.{and-true, and_comm}
use Rattle.trf16_report.specs.declared.cell.Colour.{Colour}
use Rattle.trf16_report.specs.Prelude.{Entry, Sheet, known, rounds_played, absent, apart, apart_from, some_carried, is_kind, is_named, names_both, words_of, columns, unfinished, starts_of, HasOwnStarts}
use Rattle.trf16_report.proofs.RankLemmas.{ranked_moves}
use Rattle.dutch_player.specs.declared.fault.FieldFault.{FieldFault}
use Rattle.dutch_player.specs.declared.fault.FieldFault.TheVariants.{Unfinished, Unsupported, RoundsUnknown, RoundsOver}
use Rattle.trf16_report.specs.Outcomes.{◌>>=◌}
use Rattle.dutch_player.specs.Prelude.{SeatFacts, Facts, no_seat, seat_at, goes_before, seats_by_rank, seat_of, seats_of, initial_of, total_of, unsupported, fault_if, total_for, facts_of, IsFieldOf, start_ranks, is_kept_from, are_apart}

-- ---- who is present

starts : List SeatFacts → List ℕ
starts seats = map (λ seat. seat.start) seats

module _ (sheet : Sheet) where
  seats_all_at : (P : ℕ → Type 0) (entry : Entry) (rest : List SeatFacts) (t : Bool) → absent sheet entry.start ≡ t → (absent sheet entry.start ≡ false → P entry.start)
      → AllByRecursion P (starts rest) → AllByRecursion P (starts (cond t rest (seat_of sheet entry ∷ rest)))
  unfolding starts seat_of
  seats_all_at P entry rest true e here all = all
  seats_all_at P entry rest false e here all = (here e, all)

  -- what holds of present players holds of all seats
  seats_all : (P : ℕ → Type 0) (entries : List Entry) → AllByRecursion (λ (entry : Entry). absent sheet entry.start ≡ false → P entry.start) entries
      → AllByRecursion P (starts (seats_of sheet entries))
  unfolding starts
  seats_all P [] all = tt
  seats_all P (entry ∷ rest) all = seats_all_at P entry (seats_of sheet rest) (absent sheet entry.start) refl all.0 (seats_all P rest all.1)

  by_starts : (P : ℕ → Type 0) (entries : List Entry) → AllByRecursion P (starts_of entries) → AllByRecursion (λ (entry : Entry). absent sheet entry.start ≡ false → P entry.start) entries
  by_starts P [] all = tt
  by_starts P (entry ∷ rest) all = (λ e. all.0, by_starts P rest all.1)

  seats_distinct_at : (entry : Entry) (rest : List SeatFacts) (t : Bool) → AllByRecursion (λ y. nat_eq entry.start y ≡ false) (starts rest) → IsDistinct nat_eq (starts rest)
      → IsDistinct nat_eq (starts (cond t rest (seat_of sheet entry ∷ rest)))
  unfolding starts IsDistinct seat_of
  seats_distinct_at entry rest true other distinct = distinct
  seats_distinct_at entry rest false other distinct = (other, distinct)

  seats_distinct : (entries : List Entry) → IsDistinct nat_eq (starts_of entries) → IsDistinct nat_eq (starts (seats_of sheet entries))
  unfolding starts IsDistinct
  seats_distinct [] distinct = tt
  seats_distinct (entry ∷ rest) distinct =
      seats_distinct_at entry (seats_of sheet rest) (absent sheet entry.start)
      (seats_all (λ y. nat_eq entry.start y ≡ false) rest (by_starts (λ y. nat_eq entry.start y ≡ false) rest distinct.0)) (seats_distinct rest distinct.1)

  present_ones : (entries : List Entry) → AllByRecursion (λ (entry : Entry). absent sheet entry.start ≡ false → absent sheet entry.start ≡ false) entries
  present_ones [] = tt
  present_ones (entry ∷ rest) = (λ e. e, present_ones rest)

named_in : List Entry → ℕ → Bool
named_in entries start = list_any (λ (entry : Entry). entry.start == start) entries

known_more : (first : Entry) (entries some : List Entry) → AllByRecursion (λ (entry : Entry). named_in entries entry.start ≡ true) some
    → AllByRecursion (λ (entry : Entry). named_in (first ∷ entries) entry.start ≡ true) some
unfolding named_in
known_more first entries [] all = tt
known_more first entries (entry ∷ some) all = (or_right (first.start == entry.start) (named_in entries entry.start) all.0, known_more first entries some all.1)

all_known : (entries : List Entry) → AllByRecursion (λ (entry : Entry). named_in entries entry.start ≡ true) entries
unfolding named_in
all_known [] = tt
all_known (entry ∷ rest) =
    (or_left (entry.start == entry.start) (named_in rest entry.start) (eq-eqb entry.start entry.start refl), known_more entry rest rest (all_known rest))

known_ones : (sheet : Sheet) (entries : List Entry) → AllByRecursion (λ (entry : Entry). named_in sheet.players entry.start ≡ true) entries
    → AllByRecursion (λ (entry : Entry). absent sheet entry.start ≡ false → known sheet entry.start ≡ true) entries
unfolding named_in
known_ones sheet [] all = tt
known_ones sheet (entry ∷ rest) all = (λ e. all.0, known_ones sheet rest all.1)

-- whoever is named and not absent has a seat
has_start : List ℕ → ℕ → Bool
has_start all start = list_any (λ (other : ℕ). other == start) all

present_seated_at : (sheet : Sheet) (entry : Entry) (rest : List SeatFacts) (start : ℕ) (t : Bool) → absent sheet entry.start ≡ t → absent sheet start ≡ false
    → (entry.start == start || has_start (starts rest) start) ≡ true → has_start (starts (cond t rest (seat_of sheet entry ∷ rest))) start ≡ true
unfolding starts has_start seat_of
present_seated_at sheet entry rest start false is here h = h
present_seated_at sheet entry rest start true is here h =
    elim (or_cases (entry.start == start) (has_start (starts rest) start) h) [
      | inl same ↦ absurd (true≢false (sym is ∙ ap (absent sheet) (eqb-true entry.start start same) ∙ here))
      | inr later ↦ later
    ]

pub or_more : (b c d : Bool) → (c ≡ true → d ≡ true) → (b || c) ≡ true → (b || d) ≡ true
or_more true c d more h = refl
or_more false c d more h = more h

present_seated : (sheet : Sheet) (entries : List Entry) (start : ℕ) → named_in entries start ≡ true → absent sheet start ≡ false → has_start (starts (seats_of sheet entries)) start ≡ true
unfolding named_in
present_seated sheet [] start named here = absurd (true≢false (sym named))
present_seated sheet (entry ∷ rest) start named here =
    present_seated_at sheet entry (seats_of sheet rest) start (absent sheet entry.start) refl here
    (or_more (entry.start == start) (named_in rest start) (has_start (starts (seats_of sheet rest)) start) (λ n. present_seated sheet rest start n here) named)

contains_start : (all : List ℕ) (start : ℕ) → has_start all start ≡ true → Contains all start
unfolding has_start
contains_start all start h =
    let found = Any-from_list_any (λ (other : ℕ). other == start) all h in
    (found.0, found.2, subst (λ (other : ℕ). slice_index_or all found.0 other ≡ other) (eqb-true found.1 start found.4) found.3)

-- ---- the total of rounds

not_ok : {A : Type 0} (fault : FieldFault) (x : A) → ◌≡◌ {A = Result A FieldFault} (Err fault) (Ok x) → ⊥
not_ok fault x e = cc

same_ok : {A : Type 0} (x y : A) → ◌≡◌ {A = Result A FieldFault} (Ok x) (Ok y) → x ≡ y
same_ok x y e = cc

then_ok : {A B : Type 0} (r : Result A FieldFault) (f : A → Result B FieldFault) (y : B) → (r >>= f) ≡ Ok y → (x : A) × (r ≡ Ok x) × (f x ≡ Ok y)
then_ok (Ok x) f y e = (x, refl, e)
then_ok (Err fault) f y e = absurd (not_ok fault y e)

ok_or_ok : (o : Option ℕ) (fault : FieldFault) (x : ℕ) → ok_or o fault ≡ Ok x → o ≡ Some x
ok_or_ok None fault x e = absurd (not_ok fault x e)
ok_or_ok (Some y) fault x e = ap Some (same_ok y x e)

in_time : (total played : ℕ) (t : Bool) (x : ℕ) → nat_lt total (played + 1) ≡ t → ◌≡◌ {A = Result ℕ FieldFault} (cond t (Err RoundsOver) (Ok total)) (Ok x) → (total ≡ x) × (played + 1 ≤ x)
in_time total played true x is e = absurd (not_ok RoundsOver x e)
in_time total played false x is e = let same = same_ok total x e in (same, (let le : played + 1 ≤ total = grind (arith, nat_tests) in omega (arith, le, same)))

total_is : (sheet : Sheet) (asked : Option ℕ) (total : ℕ) → total_for sheet asked ≡ Ok total → (total_of sheet asked ≡ Some total) × (rounds_played sheet + 1 ≤ total)
unfolding total_for
total_is sheet asked total e =
    let last : ℕ → Result ℕ FieldFault = λ total. cond (nat_lt total (rounds_played sheet + 1)) (Err RoundsOver) (Ok total) in
    let s1 = then_ok (fault_if (option_map (λ (at' : ℕ × ℕ). Unfinished at'.0 at'.1) (unfinished sheet)))
    (λ _. fault_if (option_map (λ line. Unsupported line) (unsupported sheet)) >>= λ _. ok_or (total_of sheet asked) RoundsUnknown >>= last) total e in
    let s2 = then_ok (fault_if (option_map (λ line. Unsupported line) (unsupported sheet))) (λ _. ok_or (total_of sheet asked) RoundsUnknown >>= last) total s1.2 in
    let s3 = then_ok (ok_or (total_of sheet asked) RoundsUnknown) last total s2.2 in
    let named = ok_or_ok (total_of sheet asked) RoundsUnknown s3.0 s3.1 in
    let time = in_time s3.0 (rounds_played sheet) (nat_lt s3.0 (rounds_played sheet + 1)) total refl s3.2 in
    (named ∙ ap Some time.0, time.1)

-- ---- the field

made : Sheet → Option Colour → ℕ → Facts
made sheet initial total =
    record { seats = seats_by_rank (seats_of sheet sheet.players); round = rounds_played sheet + 1; total = total; initial = initial_of sheet initial }

field_made : (sheet : Sheet) (asked : Option ℕ) (initial : Option Colour) (total : ℕ) → HasOwnStarts sheet → total_of sheet asked ≡ Some total
    → rounds_played sheet + 1 ≤ total → IsFieldOf sheet asked (made sheet initial total)
unfolding made starts named_in has_start
field_made sheet asked initial total own named time =
    let seats : List SeatFacts = seats_of sheet sheet.players in
    let order : IsPermutation (starts seats) (starts (seats_by_rank seats)) = IsPermutation-map (λ (seat : SeatFacts). seat.start) seats (seats_by_rank seats) (ranked_moves goes_before seats) in
    let each_seat : (P : ℕ → Type 0) → AllByRecursion (λ (entry : Entry). absent sheet entry.start ≡ false → P entry.start) sheet.players → All P (starts (seats_by_rank seats)) =
    λ P each. All-permutation P (starts seats) (starts (seats_by_rank seats)) order (All-from_recursion P (starts seats) (seats_all sheet P sheet.players each)) in
    record {
      players = each_seat (λ start. known sheet start ≡ true) (known_ones sheet sheet.players (all_known sheet.players));
      present = each_seat (λ start. absent sheet start ≡ false) (present_ones sheet sheet.players);
      all = λ start named here.
          contains_start (starts (seats_by_rank seats)) start
          (sym (list_any-IsPermutation (λ (other : ℕ). other == start) (starts seats) (starts (seats_by_rank seats)) order) ∙ present_seated sheet sheet.players start named here);
      once = IsDistinct-IsPermutation nat_eq flips (starts seats) (starts (seats_by_rank seats)) order (seats_distinct sheet sheet.players own.different);
      from_one = each_seat (λ start. 0 < start) (by_starts sheet (λ start. 0 < start) sheet.players
          (recursion_from_All (λ start. 0 < start) (starts_of sheet.players) (λ k d lt. (own.within k d lt).0)));
      next = refl;
      total = named;
      within = time;
    }
  where
    flips : (x y : ℕ) → nat_eq x y ≡ nat_eq y x
    flips x y = grind (arith, nat_tests)

pub field_of : (sheet : Sheet) (asked : Option ℕ) (initial : Option Colour) (facts : Facts) → HasOwnStarts sheet → facts_of sheet asked initial ≡ Ok facts → IsFieldOf sheet asked facts
unfolding facts_of made
field_of sheet asked initial facts own e =
    let s = then_ok (total_for sheet asked) (λ total. Ok (made sheet initial total)) facts e in
    let rounds = total_is sheet asked s.0 s.1 in
    subst (IsFieldOf sheet asked) (same_ok (made sheet initial s.0) facts s.2) (field_made sheet asked initial s.0 own rounds.0 rounds.1)

-- ---- who is kept apart

-- a seat has those from whom the report keeps its player apart
abbrev IsOwn : Sheet → SeatFacts → Type 0
IsOwn sheet seat = seat.apart ≡ apart_from sheet seat.start

own_at : (sheet : Sheet) (entry : Entry) (rest : List SeatFacts) (t : Bool) → AllByRecursion (IsOwn sheet) rest
    → AllByRecursion (IsOwn sheet) (cond t rest (seat_of sheet entry ∷ rest))
unfolding seat_of
own_at sheet entry rest true all = all
own_at sheet entry rest false all = (refl, all)

own_all : (sheet : Sheet) (entries : List Entry) → AllByRecursion (IsOwn sheet) (seats_of sheet entries)
own_all sheet [] = tt
own_all sheet (entry ∷ rest) = own_at sheet entry (seats_of sheet rest) (absent sheet entry.start) (own_all sheet rest)

own_seats : (sheet : Sheet) (asked : Option ℕ) (initial : Option Colour) (facts : Facts) → facts_of sheet asked initial ≡ Ok facts → All (IsOwn sheet) facts.seats
unfolding facts_of made
own_seats sheet asked initial facts e =
    let s = then_ok (total_for sheet asked) (λ total. Ok (made sheet initial total)) facts e in
    let seats : List SeatFacts = seats_of sheet sheet.players in
    subst (λ (f : Facts). All (IsOwn sheet) f.seats) (same_ok (made sheet initial s.0) facts s.2)
    (All-permutation (IsOwn sheet) seats (seats_by_rank seats) (ranked_moves goes_before seats) (All-from_recursion (IsOwn sheet) seats (own_all sheet sheet.players)))

started : (entries : List Entry) (start : ℕ) → has_start (starts_of entries) start ≡ named_in entries start
unfolding has_start named_in
started [] start = refl
started (entry ∷ rest) start = ap (λ t. (entry.start == start) || t) (started rest start)

-- the list of those from whom a player is kept apart has those whom the report names
kept_from : (sheet : Sheet) (one other : ℕ) → known sheet other ≡ true → has_start (apart_from sheet one) other ≡ apart sheet one other
unfolding has_start named_in
kept_from sheet one other named =
    any-filter_same (λ (start : ℕ). start == other) (apart sheet one) (apart sheet one other) (λ start same. ap (apart sheet one) (eqb-true start other same))
    (starts_of sheet.players)
    ∙ ap (λ t. apart sheet one other && t) (started sheet.players other ∙ named) ∙ and-true (apart sheet one other)

apart_sym : (sheet : Sheet) (one other : ℕ) → apart sheet one other ≡ apart sheet other one
apart_sym sheet one other =
    ap (λ t. not t && some_carried (names_both one other) sheet) (let e : (one == other) ≡ (other == one) = grind (arith, nat_tests) in e)
    ∙ ap (λ t. not (other == one) && t) (lines sheet.carried) where
      line_sym : (line : Option (List ℕ))
          → option_map_or (λ bytes. names_both one other (columns sheet.utf8 bytes)) line false ≡ option_map_or (λ bytes. names_both other one (columns sheet.utf8 bytes)) line false
      line_sym None = refl
      line_sym (Some bytes) =
          let line = columns sheet.utf8 bytes in
          ap (λ t. is_kind (codes "XXP") line && t) (and_comm (is_named (words_of line) one) (is_named (words_of line) other))

      lines : (all : List (Option (List ℕ)))
          → list_any (λ line. option_map_or (λ bytes. names_both one other (columns sheet.utf8 bytes)) line false) all
          ≡ list_any (λ line. option_map_or (λ bytes. names_both other one (columns sheet.utf8 bytes)) line false) all
      lines [] = refl
      lines (line ∷ rest) = cc (line_sym line, lines rest)

both_same : (b : Bool) → (b || b) ≡ b
both_same true = refl
both_same false = refl

-- two seats are kept apart if the report keeps their players apart
pub seats_apart : (sheet : Sheet) (asked : Option ℕ) (initial : Option Colour) (facts : Facts) → HasOwnStarts sheet → facts_of sheet asked initial ≡ Ok facts
    → (a b : ℕ) → a < length facts.seats → b < length facts.seats
    → are_apart (seat_at facts a) (seat_at facts b) ≡ apart sheet (seat_at facts a).start (seat_at facts b).start
unfolding has_start
seats_apart sheet asked initial facts own e a b first second =
    let one = (seat_at facts a).start in
    let other = (seat_at facts b).start in
    ap (λ t. t || is_kept_from (seat_at facts b) (seat_at facts a)) (kept a b first second)
    ∙ ap (λ t. apart sheet one other || t) (kept b a second first ∙ apart_sym sheet other one) ∙ both_same (apart sheet one other) where
      named : (i : ℕ) → i < length facts.seats → known sheet (seat_at facts i).start ≡ true
      named i inside =
          subst (λ start. known sheet start ≡ true) (get_or-map (λ (seat : SeatFacts). seat.start) facts.seats i no_seat 0 inside)
          (All-get_or (λ start. known sheet start ≡ true) (start_ranks facts) i 0 (let h : i < length (start_ranks facts) = omega (arith, inside, length-map facts.seats (λ (seat : SeatFacts). seat.start)) in h)
          (field_of sheet asked initial facts own e).players)

      kept : (i j : ℕ) → i < length facts.seats → j < length facts.seats
          → is_kept_from (seat_at facts i) (seat_at facts j) ≡ apart sheet (seat_at facts i).start (seat_at facts j).start
      kept i j here there =
          ap (λ starts. has_start starts (seat_at facts j).start) (All-get_or (IsOwn sheet) facts.seats i no_seat here (own_seats sheet asked initial facts e))
          ∙ kept_from sheet (seat_at facts i).start (seat_at facts j).start (named j there)
