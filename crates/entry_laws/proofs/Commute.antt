-- Two entries for different games commute.
--
-- What an entry puts depends on the slots alone that it concerns: on what stands there, whether an entry so far names the player, and whether
-- one has put the cell. An entry for another game puts nothing there.
use Rattle.std.proofs.Common.{◌≡◌, inl, inr, ℕ, suc, ◌+◌, ◌-◌, ◌<◌, Bool, true, false, cond, ◌&&◌, ◌||◌, List, [], ◌∷◌, ◌++◌, get_or, map, Option, Some, None, Result, Ok, Err, refl, sym, ap, ◌∙◌, subst, arith, append_assoc}
use Rattle.std.specs.Prelude.{◌==◌}
use Rattle.std.specs.List.{list_all}
use Rattle.std.specs.Option.{option_map_or}
use Rattle.std.proofs.lemmas.Bool.{true≢false}
use Rattle.std.proofs.lemmas.List.{get_or_past}
use Rattle.trf16_report.specs.Outcomes.{◌>>=◌}
use Rattle.trf16_report.specs.Prelude.{AnswerEachOther, Entry, Sheet, cell_at, cell_in, is_blank_cell, is_unfinished, opponent_in_cell, without_last}
use Rattle.trf16_report.specs.declared.cell.Cell.{Cell}
use Rattle.trf16_report.specs.declared.cell.Cell.TheVariants.{Blank}
use Rattle.trf16_writer.proofs.BoardLemmas.{eq-self}
use Rattle.entries.specs.Prelude.{AreWithin, are_named_once, asked_cells, cell_after, cell_in_slot, cell_now, cells_by, cells_with_new, cell_by_colour, entered, game_cells, is_named, is_put, report_if_cells_fit, may_be_put, named_alone, named_cell, other_game, own_cells, player_with_new, report_resummed, same_cell, same_slot, second_of, with_entries, with_entry, with_new, with_new_cell, with_new_cells}
use Rattle.entries.specs.declared.entry.EntryOptions.{EntryOptions}
use Rattle.entries.specs.declared.entry.Event.{Event}
use Rattle.entries.specs.declared.entry.Event.TheVariants.{Scores, NoResult, Asked, Meets, Allocated}
use Rattle.entries.specs.declared.entry.GameOf.{GameOf}
use Rattle.entries.specs.declared.entry.GameResult.{GameResult}
use Rattle.entries.specs.declared.entry.HandEntry.{HandEntry}
use Rattle.entries.specs.declared.entry.NewCell.{NewCell}
use Rattle.entries.specs.declared.entry.NewCells.{NewCells}
use Rattle.entries.specs.declared.entry.Slot.{Slot}
use Rattle.entries.specs.declared.fault.EntryFault.{EntryFault}
use Rattle.entries.specs.declared.fault.EntryFault.TheVariants.{NamedTwice, NoGame, HasCell}
use Rattle.entry_laws.specs.Concerned.{AreApart, concerns_slot, is_player}
use Rattle.entry_laws.proofs.AllEntries.{Kept, and_true, kept_more, listed_apart, meets_there, none_so_far, within_more}
use Rattle.entry_laws.proofs.CellsPut.{after-append, after-none, any-append, cells-after}
use Rattle.entry_laws.proofs.OneEntry.{EntryIs, IsSecond, entry_is, listed, passed, put_one, same_ok, then_ok}

-- ---- what depends on the slots alone that are looked at

-- two lists of new cells say the same of a slot
record Agrees (sheet : Sheet) (xs ys : List NewCell) (slot : Slot) : Type 0 where
  now : cell_now sheet ys slot ≡ cell_now sheet xs slot
  named : is_named ys slot ≡ is_named xs slot
  put : is_put ys slot ≡ is_put xs slot

agrees_more : (sheet : Sheet) (xs ys zs : List NewCell) (slot : Slot) → Agrees sheet xs ys slot → Agrees sheet (xs ++ zs) (ys ++ zs) slot
agrees_more sheet xs ys zs slot a = record {
  now = after-append ys zs slot (cell_in_slot sheet slot) ∙ ap (cell_after zs slot) a.now ∙ sym (after-append xs zs slot (cell_in_slot sheet slot));
  named = any-append (λ new. same_slot new.slot slot && new.named) ys zs ∙ ap (λ b. b || is_named zs slot) a.named ∙ sym (any-append (λ new. same_slot new.slot slot && new.named) xs zs);
  put = any-append (λ new. same_slot new.slot slot) ys zs ∙ ap (λ b. b || is_put zs slot) a.put ∙ sym (any-append (λ new. same_slot new.slot slot) xs zs);
}

once_same : (sheet : Sheet) (xs ys : List NewCell) (round : ℕ) (entry : HandEntry) → Agrees sheet xs ys (record { player = entry.player; round = round })
    → ((black : ℕ) → second_of entry.event ≡ Some black → Agrees sheet xs ys (record { player = black; round = round })) → are_named_once ys round entry ≡ are_named_once xs round entry
unfolding are_named_once
once_same sheet xs ys round entry mine seconds =
    ap (λ b. made b (seen ys) (second_of entry.event)) mine.named ∙ by (second_of entry.event) refl
  where
    seen : List NewCell → ℕ → Bool
    seen all black = is_named all (record { player = black; round = round })

    made : Bool → (ℕ → Bool) → Option ℕ → Result (Unit {0}) EntryFault
    made b test o = cond b (Err (NamedTwice entry.player)) (option_map_or (λ black. cond ((black == entry.player) || test black) (Err (NamedTwice black)) (Ok tt)) o (Ok tt))

    by : (o : Option ℕ) → second_of entry.event ≡ o
        → made (is_named xs (record { player = entry.player; round = round })) (seen ys) o ≡ made (is_named xs (record { player = entry.player; round = round })) (seen xs) o
    by None is = refl
    by (Some black) is =
        ap (λ b. cond (is_named xs (record { player = entry.player; round = round })) (Err (NamedTwice entry.player)) (cond ((black == entry.player) || b) (Err (NamedTwice black)) (Ok tt)))
        (seconds black is).named

game_same : (sheet : Sheet) (xs ys : List NewCell) (game : GameOf) → Agrees sheet xs ys game.slot → Agrees sheet xs ys (other_game game).slot
    → game_cells sheet ys game ≡ game_cells sheet xs game
unfolding game_cells
game_same sheet xs ys game mine theirs =
    ap (λ a. made a (is_named ys (other_game game).slot) (cell_now sheet ys (other_game game).slot)) mine.now
    ∙ ap (λ b. made (cell_now sheet xs game.slot) b (cell_now sheet ys (other_game game).slot)) theirs.named
    ∙ ap (λ c. made (cell_now sheet xs game.slot) (is_named xs (other_game game).slot) c) theirs.now
  where
    made : Cell → Bool → Cell → Result NewCells EntryFault
    made a b c =
        cell_by_colour game a >>= λ mine. cond b (Ok (named_alone game.slot mine))
        (cell_by_colour (other_game game) c >>= λ theirs. Ok (record { first = named_cell game.slot mine; second = Some (record { slot = (other_game game).slot; cell = theirs; named = false }) }))

-- whom the player of a slot meets there
abbrev MetAgree : Sheet → List NewCell → List NewCell → Slot → Type 0
MetAgree sheet xs ys slot = (opponent : ℕ) → opponent_in_cell (cell_now sheet xs slot) ≡ Some opponent → Agrees sheet xs ys (record { player = opponent; round = slot.round })

own_same : (sheet : Sheet) (xs ys : List NewCell) (slot : Slot) (score : Option GameResult) (otherwise : Result NewCells EntryFault) → Agrees sheet xs ys slot → MetAgree sheet xs ys slot
    → own_cells sheet ys slot score otherwise ≡ own_cells sheet xs slot score otherwise
own_same sheet xs ys slot score otherwise mine met =
    ap (λ cell. option_map_or (λ opponent. game_cells sheet ys (record { slot = slot; opponent = opponent; score = score })) (opponent_in_cell cell) otherwise) mine.now
    ∙ by (opponent_in_cell (cell_now sheet xs slot)) refl
  where
    by : (o : Option ℕ) → opponent_in_cell (cell_now sheet xs slot) ≡ o
        → option_map_or (λ opponent. game_cells sheet ys (record { slot = slot; opponent = opponent; score = score })) o otherwise
        ≡ option_map_or (λ opponent. game_cells sheet xs (record { slot = slot; opponent = opponent; score = score })) o otherwise
    by None is = refl
    by (Some opponent) is = game_same sheet xs ys (record { slot = slot; opponent = opponent; score = score }) mine (met opponent is)

cells_same : (sheet : Sheet) (xs ys : List NewCell) (slot : Slot) (event : Event) → Agrees sheet xs ys slot → MetAgree sheet xs ys slot → cells_by sheet ys slot event ≡ cells_by sheet xs slot event
cells_same sheet xs ys slot (Scores score) mine met = own_same sheet xs ys slot (Some score) (Err (NoGame slot.player slot.round)) mine met
cells_same sheet xs ys slot NoResult mine met = own_same sheet xs ys slot None (Ok (named_alone slot Blank)) mine met
cells_same sheet xs ys slot (Asked bye) mine met = ap (λ cell. asked_cells slot bye (opponent_in_cell cell)) mine.now
cells_same sheet xs ys slot (Meets black score) mine met = refl
cells_same sheet xs ys slot Allocated mine met = refl

may_same : (correct : Bool) (sheet : Sheet) (xs ys : List NewCell) (new : NewCell) → Agrees sheet xs ys new.slot → may_be_put correct sheet ys new ≡ may_be_put correct sheet xs new
may_same correct sheet xs ys new a =
    ap (λ old. correct || (is_blank_cell old || (is_unfinished old || (same_cell old new.cell || is_put ys new.slot)))) a.now
    ∙ ap
    (λ b. correct || (is_blank_cell (cell_now sheet xs new.slot) || (is_unfinished (cell_now sheet xs new.slot) || (same_cell (cell_now sheet xs new.slot) new.cell || b)))) a.put

one_same : (correct : Bool) (sheet : Sheet) (xs ys more : List NewCell) (new : NewCell) → Agrees sheet xs ys new.slot → with_new_cell correct sheet xs new ≡ Ok more
    → with_new_cell correct sheet ys new ≡ Ok (ys ++ new ∷ [])
unfolding with_new_cell
one_same correct sheet xs ys more new a e =
    let may = passed (may_be_put correct sheet xs new) (xs ++ new ∷ []) more (HasCell new.slot.player new.slot.round) e in
    ap (λ b. cond b (Ok (ys ++ new ∷ [])) (Err (HasCell new.slot.player new.slot.round))) (may_same correct sheet xs ys new a ∙ may.0)

put_same : (correct : Bool) (sheet : Sheet) (xs ys more : List NewCell) (new : NewCells) → Agrees sheet xs ys new.first.slot
    → ((second : NewCell) → new.second ≡ Some second → Agrees sheet xs ys second.slot) → with_new_cells correct sheet xs new ≡ Ok more
    → with_new_cells correct sheet ys new ≡ Ok (ys ++ listed new)
unfolding with_new_cells
put_same correct sheet xs ys more new mine theirs e =
    let one = then_ok (with_new_cell correct sheet xs new.first) (λ some. option_map_or (with_new_cell correct sheet some) new.second (Ok some)) more e in
    let first : xs ++ new.first ∷ [] ≡ one.0 = put_one correct sheet xs one.0 new.first one.1 in
    ap (λ (r : Result (List NewCell) EntryFault). r >>= λ some. option_map_or (with_new_cell correct sheet some) new.second (Ok some)) (one_same correct sheet xs ys one.0 new.first mine one.1)
    ∙ by new.second refl (ap (λ (some : List NewCell). option_map_or (with_new_cell correct sheet some) new.second (Ok some)) first ∙ one.2)
  where
    by : (o : Option NewCell) → new.second ≡ o → option_map_or (with_new_cell correct sheet (xs ++ new.first ∷ [])) o (Ok (xs ++ new.first ∷ [])) ≡ Ok more
        → option_map_or (with_new_cell correct sheet (ys ++ new.first ∷ [])) o (Ok (ys ++ new.first ∷ [])) ≡ Ok (ys ++ new.first ∷ option_map_or (λ second. second ∷ []) o [])
    by None is e = refl
    by (Some second) is e =
        one_same correct sheet (xs ++ new.first ∷ []) (ys ++ new.first ∷ []) more second (agrees_more sheet xs ys (new.first ∷ []) second.slot (theirs second is)) e
        ∙ ap (λ (cells : List NewCell). Ok cells) (append_assoc ys (new.first ∷ []) (second ∷ []))

-- the slots that an entry concerns
concerned_here : (options : EntryOptions) (sheet : Sheet) (so_far more : List NewCell) (entry : HandEntry) (i : EntryIs options sheet so_far entry more) (player : ℕ)
    → ((entry.player == player) || (is_player player (second_of entry.event) || is_player player (opponent_in_cell (cell_in sheet entry.player i.round)))) ≡ true
    → concerns_slot options sheet (record { player = player; round = i.round }) entry ≡ true
concerned_here options sheet so_far more entry i player is =
    ap (λ r. (r == i.round) && ((entry.player == player) || (is_player player (second_of entry.event) || is_player player (opponent_in_cell (cell_in sheet entry.player i.round))))) i.is
    ∙ ap (λ b. b && ((entry.player == player) || (is_player player (second_of entry.event) || is_player player (opponent_in_cell (cell_in sheet entry.player i.round))))) (eq-self i.round) ∙ is

first_or : (a b : Bool) → a ≡ true → (a || b) ≡ true
first_or a b e = rw e refl

last_or : (a b : Bool) → b ≡ true → (a || b) ≡ true
last_or true b e = refl
last_or false b e = e

is_he : (o : Option ℕ) (player : ℕ) → o ≡ Some player → is_player player o ≡ true
is_he o player e = ap (is_player player) e ∙ eq-self player

-- an entry puts the same cells behind another list that says the same of the slots which it concerns
local : (options : EntryOptions) (sheet : Sheet) (xs ys more : List NewCell) (entry : HandEntry) (i : EntryIs options sheet xs entry more) → Kept sheet xs
    → ((slot : Slot) → concerns_slot options sheet slot entry ≡ true → Agrees sheet xs ys slot) → with_entry options sheet ys entry ≡ Ok (ys ++ listed i.new)
unfolding with_entry
local options sheet xs ys more entry i kept agree =
    let at : ℕ → Slot = λ player. record { player = player; round = i.round } in
    let mine : Agrees sheet xs ys (at entry.player) = agree (at entry.player) (concerned_here options sheet xs more entry i entry.player (first_or (entry.player == entry.player) _ (eq-self entry.player))) in
    let second : (black : ℕ) → second_of entry.event ≡ Some black → Agrees sheet xs ys (at black) = λ black is.
    agree (at black) (concerned_here options sheet xs more entry i black
    (last_or (entry.player == black) _ (first_or (is_player black (second_of entry.event)) _ (is_he (second_of entry.event) black is)))) in
    let met : MetAgree sheet xs ys (at entry.player) = λ opponent is.
    agree (at opponent) (concerned_here options sheet xs more entry i opponent
    (last_or (entry.player == opponent) _ (last_or (is_player opponent (second_of entry.event)) _
    (is_he (opponent_in_cell (cell_in sheet entry.player i.round)) opponent (meets_there options sheet xs more entry i kept opponent is))))) in
    let once : are_named_once ys i.round entry ≡ Ok (tt {0}) = once_same sheet xs ys i.round entry mine second ∙ i.once_ok in
    let cells : cells_by sheet ys (at entry.player) entry.event ≡ Ok i.new = cells_same sheet xs ys (at entry.player) entry.event mine met ∙ i.cells in
    let put : with_new_cells options.correct sheet ys i.new ≡ Ok (ys ++ listed i.new) =
    put_same options.correct sheet xs ys more i.new (subst (Agrees sheet xs ys) (sym i.put.first) mine)
    (λ s is. seen s (subst (IsSecond sheet xs (at entry.player) entry.event) is i.put.second) second met) i.put_ok in
    rw (i.reached_ok, i.known_ok, once, cells) put
  where
    seen : (s : NewCell) → IsSecond sheet xs (record { player = entry.player; round = i.round }) entry.event (Some s)
        → ((black : ℕ) → second_of entry.event ≡ Some black → Agrees sheet xs ys (record { player = black; round = i.round }))
        → MetAgree sheet xs ys (record { player = entry.player; round = i.round }) → Agrees sheet xs ys s.slot
    seen s is second met = elim is.1 [
      | inl named ↦ subst (λ r. Agrees sheet xs ys (record { player = s.slot.player; round = r })) (sym is.0) (second s.slot.player named.0)
      | inr there ↦ subst (λ r. Agrees sheet xs ys (record { player = s.slot.player; round = r })) (sym is.0) (met s.slot.player there.0)
    ]

-- ---- two entries

unnamed : (zs : List NewCell) (slot : Slot) → is_put zs slot ≡ false → is_named zs slot ≡ false
unnamed [] slot none = refl
unnamed (new ∷ zs) slot none = by (same_slot new.slot slot) none (unnamed zs slot)
  where
    by : (b : Bool) → (b || is_put zs slot) ≡ false → (is_put zs slot ≡ false → is_named zs slot ≡ false) → ((b && new.named) || is_named zs slot) ≡ false
    by true none later = absurd (true≢false none)
    by false none later = later none

or_false : (b : Bool) → (b || false) ≡ b
or_false true = refl
or_false false = refl

-- cells that are put elsewhere
agrees_less : (sheet : Sheet) (xs zs : List NewCell) (slot : Slot) → is_put zs slot ≡ false → Agrees sheet (xs ++ zs) xs slot
agrees_less sheet xs zs slot none = record {
  now = sym (after-append xs zs slot (cell_in_slot sheet slot) ∙ after-none zs slot (cell_now sheet xs slot) none);
  named = sym (any-append (λ new. same_slot new.slot slot && new.named) xs zs ∙ ap (λ b. is_named xs slot || b) (unnamed zs slot none) ∙ or_false (is_named xs slot));
  put = sym (any-append (λ new. same_slot new.slot slot) xs zs ∙ ap (λ b. is_put xs slot || b) none ∙ or_false (is_put xs slot));
}

turned_round : (sheet : Sheet) (xs ys : List NewCell) (slot : Slot) → Agrees sheet xs ys slot → Agrees sheet ys xs slot
turned_round sheet xs ys slot a = record { now = sym a.now; named = sym a.named; put = sym a.put }

and_false : (a b : Bool) → (a && b) ≡ false → a ≡ true → b ≡ false
and_false true b e is = e
and_false false b e is = absurd (true≢false (sym is))

-- two entries one after the other, and the other way round
record AreSwapped (options : EntryOptions) (sheet : Sheet) (a b : HandEntry) : Type 0 where
  first : List NewCell
  second : List NewCell
  one_way : with_entries options sheet [] (a ∷ b ∷ []) ≡ Ok (first ++ second)
  other_way : with_entries options sheet [] (b ∷ a ∷ []) ≡ Ok (second ++ first)
  apart : (slot : Slot) → (is_put first slot && is_put second slot) ≡ false
  within : AreWithin (first ++ second)
  within_other : AreWithin (second ++ first)

swapped : (options : EntryOptions) (sheet : Sheet) (all : List NewCell) (a b : HandEntry) → AnswerEachOther sheet → AreApart options sheet a b
    → with_entries options sheet [] (a ∷ b ∷ []) ≡ Ok all → AreSwapped options sheet a b
unfolding with_entries
swapped options sheet all a b answered apart e =
    let one = then_ok (with_entry options sheet [] a) (λ more. with_entry options sheet more b >>= λ last. Ok last) all e in
    let two = then_ok (with_entry options sheet one.0 b) (λ last. Ok last) all one.2 in
    let none = none_so_far sheet in
    let kept = kept_more options sheet [] one.0 a answered one.1 none in
    let i = entry_is options sheet [] one.0 a one.1 in
    let j = entry_is options sheet one.0 two.0 b two.1 in
    let A = listed i.new in
    let B = listed j.new in
    let out_of_a : (slot : Slot) → concerns_slot options sheet slot a ≡ false → is_put A slot ≡ false = λ slot other. listed_apart options sheet [] one.0 a slot i none other in
    let out_of_b : (slot : Slot) → concerns_slot options sheet slot b ≡ false → is_put B slot ≡ false = λ slot other. listed_apart options sheet one.0 two.0 b slot j kept other in
    let b_first : with_entry options sheet [] b ≡ Ok B = local options sheet one.0 [] two.0 b j kept (λ slot is.
    subst (λ (xs : List NewCell). Agrees sheet xs [] slot) (sym i.more_is) (agrees_less sheet [] A slot (out_of_a slot (and_true (concerns_slot options sheet slot a) (concerns_slot options sheet slot b) (apart slot) is)))) in
    let a_last : with_entry options sheet B a ≡ Ok (B ++ A) = local options sheet [] B one.0 a i none (λ slot is.
    turned_round sheet B [] slot (agrees_less sheet [] B slot (out_of_b slot (and_false (concerns_slot options sheet slot a) (concerns_slot options sheet slot b) (apart slot) is)))) in
    let both : two.0 ≡ A ++ B = j.more_is ∙ ap (λ (xs : List NewCell). xs ++ B) i.more_is in
    record {
      first = A;
      second = B;
      one_way = ap (λ (r : Result (List NewCell) EntryFault). r >>= λ more. with_entry options sheet more b >>= λ last. Ok last) one.1
          ∙ ap (λ (r : Result (List NewCell) EntryFault). r >>= λ last. Ok last) two.1 ∙ ap (λ (xs : List NewCell). Ok xs) both;
      other_way = ap (λ (r : Result (List NewCell) EntryFault). r >>= λ more. with_entry options sheet more a >>= λ last. Ok last) b_first
          ∙ ap (λ (r : Result (List NewCell) EntryFault). r >>= λ last. Ok last) a_last;
      apart = λ slot. by slot A B (concerns_slot options sheet slot a) refl (out_of_a slot) (λ is. out_of_b slot (and_false (concerns_slot options sheet slot a) (concerns_slot options sheet slot b) (apart slot) is));
      within = subst AreWithin both (within_more options sheet one.0 two.0 b two.1 (within_more options sheet [] one.0 a one.1 tt));
      within_other = within_more options sheet B (B ++ A) a a_last (within_more options sheet [] B b b_first tt);
    }
  where
    by : (slot : Slot) (A B : List NewCell) (c : Bool) → concerns_slot options sheet slot a ≡ c → (concerns_slot options sheet slot a ≡ false → is_put A slot ≡ false)
        → (concerns_slot options sheet slot a ≡ true → is_put B slot ≡ false) → (is_put A slot && is_put B slot) ≡ false
    by slot A B false e oa ob = ap (λ x. x && is_put B slot) (oa e)
    by slot A B true e oa ob = ap (λ y. is_put A slot && y) (ob e) ∙ go (is_put A slot)
      where
        go : (x : Bool) → (x && false) ≡ false
        go true = refl
        go false = refl

-- ---- the reports are one

blank : (cell : Cell) → cell ≡ Blank → is_blank_cell cell ≡ true
blank cell e = ap is_blank_cell e

blank_all : (cells : List Cell) → ((i : ℕ) → get_or cells i Blank ≡ Blank) → list_all is_blank_cell cells ≡ true
blank_all [] all = refl
blank_all (cell ∷ rest) all = rw (blank cell (all 0)) (blank_all rest (λ i. all (suc i)))

nothing : (i : ℕ) → ◌≡◌ {A = Cell} (get_or [] i Blank) Blank
nothing i = get_or_past [] i Blank (omega arith)

-- cells that say the same of each round are one list but for blank cells at the end
cut-unique : (xs ys : List Cell) → ((i : ℕ) → get_or xs i Blank ≡ get_or ys i Blank) → without_last is_blank_cell xs ≡ without_last is_blank_cell ys
cut-unique [] [] same = refl
cut-unique [] (y ∷ ys) same =
    let all : list_all is_blank_cell (y ∷ ys) ≡ true = blank_all (y ∷ ys) (λ i. sym (same i) ∙ nothing i) in
    rw all refl
cut-unique (x ∷ xs) [] same =
    let all : list_all is_blank_cell (x ∷ xs) ≡ true = blank_all (x ∷ xs) (λ i. same i ∙ nothing i) in
    rw all refl
cut-unique (x ∷ xs) (y ∷ ys) same =
    let rest : without_last is_blank_cell xs ≡ without_last is_blank_cell ys = cut-unique xs ys (λ i. same (suc i)) in
    let here : x ≡ y = same 0 in
    let alike : list_all is_blank_cell (x ∷ xs) ≡ list_all is_blank_cell (y ∷ ys) = all_alike (x ∷ xs) (y ∷ ys) same in
    ap (λ b. cond b [] (x ∷ without_last is_blank_cell xs)) alike
    ∙ ap (λ c. cond (list_all is_blank_cell (y ∷ ys)) [] (c ∷ without_last is_blank_cell xs)) here
    ∙ ap (λ (cs : List Cell). cond (list_all is_blank_cell (y ∷ ys)) [] (y ∷ cs)) rest
  where
    all_alike : (xs ys : List Cell) → ((i : ℕ) → get_or xs i Blank ≡ get_or ys i Blank) → list_all is_blank_cell xs ≡ list_all is_blank_cell ys
    all_alike [] [] same = refl
    all_alike [] (y ∷ ys) same = sym (blank_all (y ∷ ys) (λ i. sym (same i) ∙ nothing i))
    all_alike (x ∷ xs) [] same = blank_all (x ∷ xs) (λ i. same i ∙ nothing i)
    all_alike (x ∷ xs) (y ∷ ys) same =
        ap (λ c. is_blank_cell c && list_all is_blank_cell xs) (same 0) ∙ ap (λ b. is_blank_cell y && b) (all_alike xs ys (λ i. same (suc i)))

after_swap : (A B : List NewCell) (slot : Slot) (cell : Cell) → (is_put A slot && is_put B slot) ≡ false → cell_after (A ++ B) slot cell ≡ cell_after (B ++ A) slot cell
after_swap A B slot cell apart =
    after-append A B slot cell ∙ by (is_put A slot) refl apart ∙ sym (after-append B A slot cell)
  where
    by : (a : Bool) → is_put A slot ≡ a → (a && is_put B slot) ≡ false → cell_after B slot (cell_after A slot cell) ≡ cell_after A slot (cell_after B slot cell)
    by false e apart = ap (cell_after B slot) (after-none A slot cell e) ∙ sym (after-none A slot (cell_after B slot cell) e)
    by true e apart = after-none B slot (cell_after A slot cell) apart ∙ ap (cell_after A slot) (sym (after-none B slot cell apart))

players_swap : (A B : List NewCell) (entries : List Entry) → ((slot : Slot) → (is_put A slot && is_put B slot) ≡ false) → AreWithin (A ++ B) → AreWithin (B ++ A)
    → map (player_with_new (A ++ B)) entries ≡ map (player_with_new (B ++ A)) entries
players_swap A B [] apart within within' = refl
players_swap A B (entry ∷ entries) apart within within' =
    ap (λ (p : Entry). p ∷ map (player_with_new (A ++ B)) entries) (ap (λ (cells : List Cell). record entry { cells = cells }) cells)
    ∙ ap (λ (ps : List Entry). player_with_new (B ++ A) entry ∷ ps) (players_swap A B entries apart within within')
  where
    one : (i : ℕ) → get_or (cells_with_new (A ++ B) entry.start entry.cells) i Blank ≡ get_or (cells_with_new (B ++ A) entry.start entry.cells) i Blank
    one i =
        let place : i + 1 - 1 ≡ i = omega arith in
        let slot : Slot = record { player = entry.start; round = i + 1 } in
        let some : 0 < i + 1 = omega arith in
        subst (λ k. get_or (cells_with_new (A ++ B) entry.start entry.cells) k Blank ≡ get_or (cells_with_new (B ++ A) entry.start entry.cells) k Blank) place
        (cells-after (A ++ B) entry.start (i + 1) entry.cells within some ∙ after_swap A B slot (cell_at entry.cells (i + 1)) (apart slot)
        ∙ sym (cells-after (B ++ A) entry.start (i + 1) entry.cells within' some))

    cells : without_last is_blank_cell (cells_with_new (A ++ B) entry.start entry.cells) ≡ without_last is_blank_cell (cells_with_new (B ++ A) entry.start entry.cells)
    cells = cut-unique (cells_with_new (A ++ B) entry.start entry.cells) (cells_with_new (B ++ A) entry.start entry.cells) one

pub commute : (options : EntryOptions) (sheet new : Sheet) (a b : HandEntry) → AnswerEachOther sheet → AreApart options sheet a b → entered options (a ∷ b ∷ []) sheet ≡ Ok new
    → entered options (b ∷ a ∷ []) sheet ≡ Ok new
unfolding entered
commute options sheet new a b answered apart e =
    let one = then_ok (with_entries options sheet [] (a ∷ b ∷ [])) (λ all. report_if_cells_fit (report_resummed (with_new all sheet))) new e in
    let s = swapped options sheet one.0 a b answered apart one.1 in
    let all : s.first ++ s.second ≡ one.0 = same_ok (s.first ++ s.second) one.0 (sym s.one_way ∙ one.1) in
    let same : with_new (s.second ++ s.first) sheet ≡ with_new (s.first ++ s.second) sheet =
    ap (λ (ps : List Entry). record sheet { players = ps }) (sym (players_swap s.first s.second sheet.players s.apart s.within s.within_other)) in
    ap (λ (r : Result (List NewCell) EntryFault). r >>= λ cells. report_if_cells_fit (report_resummed (with_new cells sheet))) s.other_way
    ∙ ap (λ (made : Sheet). report_if_cells_fit (report_resummed made)) same
    ∙ ap (λ (cells : List NewCell). report_if_cells_fit (report_resummed (with_new cells sheet))) all ∙ one.2
