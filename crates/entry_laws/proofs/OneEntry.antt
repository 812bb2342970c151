-- What one entry puts, where it is not refused.
use Rattle.std.proofs.Common.{◌≡◌, ◌⊎◌, inl, inr, ℕ, ◌+◌, ◌<◌, ◌≤◌, Bool, true, false, not, cond, ◌&&◌, nat_le, nat_lt, List, [], ◌∷◌, ◌++◌, Option, Some, None, Result, Ok, Err, refl, sym, ap, ◌∙◌, subst, append_assoc}
use Rattle.std.specs.Prelude.{IfSome}
use Rattle.std.specs.Option.{option_map_or, ok_or}
use Rattle.std.proofs.lemmas.Bool.{and_parts, leb-true, ltb-true, not-false}
use Rattle.trf16_report.specs.Outcomes.{◌>>=◌}
use Rattle.trf16_report.specs.Prelude.{Sheet, colour_in_cell, known, opponent_in_cell, rounds_played}
use Rattle.trf16_report.specs.declared.cell.Colour.{Colour}
use Rattle.trf16_report.specs.declared.cell.Colour.TheVariants.{White, Black}
use Rattle.trf16_report.specs.declared.cell.Bye.TheVariants.{Allocated as AllocatedBye}
use Rattle.trf16_report.specs.declared.cell.Cell.{Cell}
use Rattle.trf16_report.specs.declared.cell.Cell.TheVariants.{Blank, Bye, Forfeit}
use Rattle.trf16_report.specs.declared.limits.TheConstants.{MOST_ROUNDS}
use Rattle.entries.specs.Prelude.{are_known, are_named_once, asked_cells, cell_now, cell_of_game, cell_with, cell_without, cells_by, cell_by_colour, game_cells, is_named, is_reached, may_be_put, meeting_cells, named_alone, named_cell, other_game, own_cells, reached_round, round_of, second_of, with_entry, with_new_cell, with_new_cells}
use Rattle.entries.specs.declared.entry.EntryOptions.{EntryOptions}
use Rattle.entries.specs.declared.entry.Event.{Event}
use Rattle.entries.specs.declared.entry.Event.TheVariants.{Scores, NoResult, Asked, Meets, Allocated}
use Rattle.entries.specs.declared.entry.GameOf.{GameOf}
use Rattle.entries.specs.declared.entry.GameResult.{GameResult}
use Rattle.entries.specs.declared.entry.GameResult.TheVariants.{Played, Forfeited}
use Rattle.entries.specs.declared.entry.HandEntry.{HandEntry}
use Rattle.entries.specs.declared.entry.NewCell.{NewCell}
use Rattle.entries.specs.declared.entry.NewCells.{NewCells}
use Rattle.entries.specs.declared.entry.Slot.{Slot}
use Rattle.entries.specs.declared.fault.EntryFault.{EntryFault}
use Rattle.entries.specs.declared.fault.EntryFault.TheVariants.{NotReached, NotKnown, NamedTwice, NoGame, NoColour, HasCell}

-- ---- steps

pub then_ok : {A B : Type 0} (step : Result A EntryFault) (next : A → Result B EntryFault) (y : B) → (step >>= next) ≡ Ok y → (x : A) × (step ≡ Ok x) × (next x ≡ Ok y)
then_ok (Ok x) next y e = (x, refl, e)
then_ok (Err fault) next y e = absurd (cc)

pub same_ok : {A : Type 0} (x y : A) → ◌≡◌ {A = Result A EntryFault} (Ok x) (Ok y) → x ≡ y
same_ok x y e = cc

pub passed : {A : Type 0} (b : Bool) (x y : A) (fault : EntryFault) → cond b (Ok x) (Err fault) ≡ Ok y → (b ≡ true) × (x ≡ y)
passed true x y fault e = (refl, same_ok x y e)
passed false x y fault e = absurd (cc)

-- a test that met no fault
guard : {A : Type 0} (b : Bool) (fault : EntryFault) (r : Result A EntryFault) (y : A) → cond b (Err fault) r ≡ Ok y → (b ≡ false) × (r ≡ Ok y)
guard true fault r y e = absurd (cc)
guard false fault r y e = (refl, e)

-- ---- the cells of a game

without_opponent : (opponent : ℕ) (score : Option GameResult) (cell : Cell) → cell_without opponent score ≡ Some cell → opponent_in_cell cell ≡ Some opponent
without_opponent opponent None cell e = absurd (cc)
without_opponent opponent (Some (Played rated got)) cell e = absurd (cc)
without_opponent opponent (Some (Forfeited won)) cell e = let same : Forfeit opponent None won ≡ cell = cc in ap opponent_in_cell (sym same)

pub with_opponent : (opponent : ℕ) (score : Option GameResult) (colour : Colour) → opponent_in_cell (cell_with opponent score colour) ≡ Some opponent
with_opponent opponent None colour = refl
with_opponent opponent (Some (Played rated got)) colour = refl
with_opponent opponent (Some (Forfeited won)) colour = refl

game_opponent : (opponent : ℕ) (score : Option GameResult) (colour : Option Colour) (cell : Cell) → cell_of_game opponent score colour ≡ Some cell → opponent_in_cell cell ≡ Some opponent
game_opponent opponent score None cell e = without_opponent opponent score cell e
game_opponent opponent score (Some colour) cell e =
    let same : cell_with opponent score colour ≡ cell = cc in
    ap opponent_in_cell (sym same) ∙ with_opponent opponent score colour

pub cell_by_colour-opponent : (game : GameOf) (old cell : Cell) → cell_by_colour game old ≡ Ok cell → opponent_in_cell cell ≡ Some game.opponent
unfolding cell_by_colour
cell_by_colour-opponent game old cell e = by (cell_of_game game.opponent game.score (colour_in_cell old)) refl e
  where
    by : (o : Option Cell) → cell_of_game game.opponent game.score (colour_in_cell old) ≡ o → ok_or o (NoColour game.slot.player game.slot.round) ≡ Ok cell
        → opponent_in_cell cell ≡ Some game.opponent
    by None is e = absurd (cc)
    by (Some found) is e = game_opponent game.opponent game.score (colour_in_cell old) cell (is ∙ ap (λ (c : Cell). Some c) (same_ok found cell e))

without_colour : (opponent : ℕ) (score : Option GameResult) (cell : Cell) → cell_without opponent score ≡ Some cell → colour_in_cell cell ≡ None
without_colour opponent None cell e = absurd (cc)
without_colour opponent (Some (Played rated got)) cell e = absurd (cc)
without_colour opponent (Some (Forfeited won)) cell e = let same : Forfeit opponent None won ≡ cell = cc in ap colour_in_cell (sym same)

with_colour : (opponent : ℕ) (score : Option GameResult) (colour : Colour) → colour_in_cell (cell_with opponent score colour) ≡ Some colour
with_colour opponent None colour = refl
with_colour opponent (Some (Played rated got)) colour = refl
with_colour opponent (Some (Forfeited won)) colour = refl

game_colour : (opponent : ℕ) (score : Option GameResult) (colour : Option Colour) (cell : Cell) → cell_of_game opponent score colour ≡ Some cell → colour_in_cell cell ≡ colour
game_colour opponent score None cell e = without_colour opponent score cell e
game_colour opponent score (Some colour) cell e =
    let same : cell_with opponent score colour ≡ cell = cc in
    ap colour_in_cell (sym same) ∙ with_colour opponent score colour

-- the colour is that of the cell that stood there
pub cell_by_colour-colour : (game : GameOf) (old cell : Cell) → cell_by_colour game old ≡ Ok cell → colour_in_cell cell ≡ colour_in_cell old
unfolding cell_by_colour
cell_by_colour-colour game old cell e = by (cell_of_game game.opponent game.score (colour_in_cell old)) refl e
  where
    by : (o : Option Cell) → cell_of_game game.opponent game.score (colour_in_cell old) ≡ o → ok_or o (NoColour game.slot.player game.slot.round) ≡ Ok cell
        → colour_in_cell cell ≡ colour_in_cell old
    by None is e = absurd (cc)
    by (Some found) is e = game_colour game.opponent game.score (colour_in_cell old) cell (is ∙ ap (λ (c : Cell). Some c) (same_ok found cell e))

-- of the cell that stood there the colour alone is used
pub cell_by_colour-alike : (game : GameOf) (old other : Cell) → colour_in_cell old ≡ colour_in_cell other → cell_by_colour game old ≡ cell_by_colour game other
unfolding cell_by_colour
cell_by_colour-alike game old other e = ap (λ c. ok_or (cell_of_game game.opponent game.score c) (NoColour game.slot.player game.slot.round)) e

-- ---- what an entry puts

-- the second cell: of the other player whom the entry names, or of the opponent, whose opponent the first one stays
abbrev pub IsSecond : Sheet → List NewCell → Slot → Event → Option NewCell → Type 0
IsSecond sheet so_far slot event None = Unit {0}
IsSecond sheet so_far slot event (Some second) =
    (second.slot.round ≡ slot.round)
    × (((second_of event ≡ Some second.slot.player) × (second.named ≡ true))
    ⊎ ((opponent_in_cell (cell_now sheet so_far slot) ≡ Some second.slot.player) × (opponent_in_cell second.cell ≡ Some slot.player)))

-- whoever is there passes a test
abbrev pub Passes : (ℕ → Bool) → Option ℕ → Type 0
Passes test who = IfSome who (λ n. test n ≡ true)

-- the opponents of its cells: the players whom the entry names, or the one who stands there
abbrev pub OpponentsAre : (ℕ → Bool) → NewCells → Type 0
OpponentsAre test new = Passes test (opponent_in_cell new.first.cell) × IfSome new.second (λ second. Passes test (opponent_in_cell second.cell))

pub record IsPut (sheet : Sheet) (so_far : List NewCell) (slot : Slot) (event : Event) (new : NewCells) : Type 0 where
  pub first : new.first.slot ≡ slot
  pub named : new.first.named ≡ true
  pub second : IsSecond sheet so_far slot event new.second
  pub opponents : (test : ℕ → Bool) → test slot.player ≡ true → Passes test (second_of event) → Passes test (opponent_in_cell (cell_now sheet so_far slot)) → OpponentsAre test new

if_some : (o : Option ℕ) (x : ℕ) (test : ℕ → Bool) → o ≡ Some x → test x ≡ true → Passes test o
if_some o x test e q = subst (λ (o : Option ℕ). Passes test o) (sym e) q

of_some : (o : Option ℕ) (x : ℕ) (test : ℕ → Bool) → o ≡ Some x → Passes test o → test x ≡ true
of_some o x test e q = subst (λ (o : Option ℕ). Passes test o) e q

alone_put : (sheet : Sheet) (so_far : List NewCell) (slot : Slot) (event : Event) (cell : Cell) (new : NewCells)
    → ((test : ℕ → Bool) → Passes test (opponent_in_cell (cell_now sheet so_far slot)) → Passes test (opponent_in_cell cell))
    → named_alone slot cell ≡ new → IsPut sheet so_far slot event new
alone_put sheet so_far slot event cell new opponents same = subst (IsPut sheet so_far slot event) same (record {
  first = refl;
  named = refl;
  second = tt;
  opponents = λ Q player second there. (opponents Q there, tt);
})

game_put : (sheet : Sheet) (so_far : List NewCell) (game : GameOf) (event : Event) (new : NewCells) → opponent_in_cell (cell_now sheet so_far game.slot) ≡ Some game.opponent
    → game_cells sheet so_far game ≡ Ok new → IsPut sheet so_far game.slot event new
unfolding game_cells
game_put sheet so_far game event new meets e =
    let other = other_game game in
    let both : Cell → Cell → NewCells = λ mine theirs. record { first = named_cell game.slot mine; second = Some (record { slot = other.slot; cell = theirs; named = false }) } in
    let later : Cell → Result NewCells EntryFault = λ mine. cell_by_colour other (cell_now sheet so_far other.slot) >>= λ theirs. Ok (both mine theirs) in
    let one = then_ok (cell_by_colour game (cell_now sheet so_far game.slot)) (λ mine. cond (is_named so_far other.slot) (Ok (named_alone game.slot mine)) (later mine)) new e in
    by both (is_named so_far other.slot) one.0 (cell_by_colour-opponent game (cell_now sheet so_far game.slot) one.0 one.1) (λ mine theirs. refl) one.2
  where
    by : (both : Cell → Cell → NewCells) (b : Bool) (mine : Cell) → opponent_in_cell mine ≡ Some game.opponent
        → ((mine theirs : Cell) → both mine theirs ≡ record { first = named_cell game.slot mine; second = Some (record { slot = (other_game game).slot; cell = theirs; named = false }) })
        → cond b (Ok (named_alone game.slot mine)) (cell_by_colour (other_game game) (cell_now sheet so_far (other_game game).slot) >>= λ theirs. Ok (both mine theirs)) ≡ Ok new
        → IsPut sheet so_far game.slot event new
    by both true mine names are e =
        alone_put sheet so_far game.slot event mine new (λ Q there. if_some (opponent_in_cell mine) game.opponent Q names (of_some (opponent_in_cell (cell_now sheet so_far game.slot)) game.opponent Q meets there))
        (same_ok (named_alone game.slot mine) new e)
    by both false mine names are e =
        let two = then_ok (cell_by_colour (other_game game) (cell_now sheet so_far (other_game game).slot)) (λ theirs. Ok (both mine theirs)) new e in
        let back : opponent_in_cell two.0 ≡ Some game.slot.player = cell_by_colour-opponent (other_game game) (cell_now sheet so_far (other_game game).slot) two.0 two.1 in
        subst (IsPut sheet so_far game.slot event) (sym (are mine two.0) ∙ same_ok (both mine two.0) new two.2) (record {
          first = refl;
          named = refl;
          second = (refl, inr (meets, back));
          opponents = λ Q player second there. (
            if_some (opponent_in_cell mine) game.opponent Q names (of_some (opponent_in_cell (cell_now sheet so_far game.slot)) game.opponent Q meets there),
            if_some (opponent_in_cell two.0) game.slot.player Q back player,
          );
        })

own_put : (sheet : Sheet) (so_far : List NewCell) (slot : Slot) (score : Option GameResult) (otherwise : Result NewCells EntryFault) (event : Event) (new : NewCells)
    → (otherwise ≡ Ok new → IsPut sheet so_far slot event new) → own_cells sheet so_far slot score otherwise ≡ Ok new → IsPut sheet so_far slot event new
own_put sheet so_far slot score otherwise event new without e = by (opponent_in_cell (cell_now sheet so_far slot)) refl e
  where
    by : (o : Option ℕ) → opponent_in_cell (cell_now sheet so_far slot) ≡ o
        → option_map_or (λ opponent. game_cells sheet so_far (record { slot = slot; opponent = opponent; score = score })) o otherwise ≡ Ok new → IsPut sheet so_far slot event new
    by None is e = without e
    by (Some opponent) is e = game_put sheet so_far (record { slot = slot; opponent = opponent; score = score }) event new is e

pub cells_put : (sheet : Sheet) (so_far : List NewCell) (slot : Slot) (event : Event) (new : NewCells) → cells_by sheet so_far slot event ≡ Ok new → IsPut sheet so_far slot event new
cells_put sheet so_far slot (Scores score) new e =
    own_put sheet so_far slot (Some score) (Err (NoGame slot.player slot.round)) (Scores score) new (λ e'. absurd (cc)) e
cells_put sheet so_far slot NoResult new e =
    own_put sheet so_far slot None (Ok (named_alone slot Blank)) NoResult new
    (λ e'. alone_put sheet so_far slot NoResult Blank new (λ Q there. tt) (same_ok (named_alone slot Blank) new e')) e
cells_put sheet so_far slot (Asked bye) new e = by (opponent_in_cell (cell_now sheet so_far slot)) e
  where
    by : (o : Option ℕ) → asked_cells slot bye o ≡ Ok new → IsPut sheet so_far slot (Asked bye) new
    by None e = alone_put sheet so_far slot (Asked bye) (Bye bye) new (λ Q there. tt) (same_ok (named_alone slot (Bye bye)) new e)
    by (Some opponent) e = absurd (cc)
cells_put sheet so_far slot (Meets black score) new e =
    let game : GameOf = record { slot = slot; opponent = black; score = score } in
    subst (IsPut sheet so_far slot (Meets black score)) (same_ok (meeting_cells game) new e) (record {
      first = refl;
      named = refl;
      second = (refl, inl (refl, refl));
      opponents = λ Q player second there. (
        if_some (opponent_in_cell (cell_with black score White)) black Q (with_opponent black score White) second,
        if_some (opponent_in_cell (cell_with slot.player (other_game game).score Black)) slot.player Q (with_opponent slot.player (other_game game).score Black) player,
      );
    })
cells_put sheet so_far slot Allocated new e =
    alone_put sheet so_far slot Allocated (Bye AllocatedBye) new (λ Q there. tt) (same_ok (named_alone slot (Bye AllocatedBye)) new e)

-- ---- the cells so far with those of an entry

-- the one or two cells of an entry
abbrev pub listed : NewCells → List NewCell
listed new = new.first ∷ option_map_or (λ second. second ∷ []) new.second []

pub put_one : (correct : Bool) (sheet : Sheet) (so_far more : List NewCell) (new : NewCell) → with_new_cell correct sheet so_far new ≡ Ok more → so_far ++ new ∷ [] ≡ more
unfolding with_new_cell
put_one correct sheet so_far more new e = (passed (may_be_put correct sheet so_far new) (so_far ++ new ∷ []) more (HasCell new.slot.player new.slot.round) e).1

pub put_all : (correct : Bool) (sheet : Sheet) (so_far more : List NewCell) (new : NewCells) → with_new_cells correct sheet so_far new ≡ Ok more → more ≡ so_far ++ listed new
unfolding with_new_cells
put_all correct sheet so_far more new e =
    let one = then_ok (with_new_cell correct sheet so_far new.first) (λ some. option_map_or (with_new_cell correct sheet some) new.second (Ok some)) more e in
    let first : so_far ++ new.first ∷ [] ≡ one.0 = put_one correct sheet so_far one.0 new.first one.1 in
    by new.second one.0 first one.2
  where
    by : (second : Option NewCell) (some : List NewCell) → so_far ++ new.first ∷ [] ≡ some → option_map_or (with_new_cell correct sheet some) second (Ok some) ≡ Ok more
        → more ≡ so_far ++ new.first ∷ option_map_or (λ second. second ∷ []) second []
    by None some first e = sym (first ∙ same_ok some more e)
    by (Some second) some first e =
        sym (put_one correct sheet some more second e) ∙ ap (λ (cells : List NewCell). cells ++ second ∷ []) (sym first) ∙ append_assoc so_far (new.first ∷ []) (second ∷ [])

-- an entry that is not refused
pub record EntryIs (options : EntryOptions) (sheet : Sheet) (so_far : List NewCell) (entry : HandEntry) (more : List NewCell) : Type 0 where
  pub round : ℕ
  pub is : round_of options.round sheet entry.event ≡ round
  pub some : 0 < round
  pub few : round ≤ MOST_ROUNDS
  pub player_known : known sheet entry.player ≡ true
  pub second_known : IfSome (second_of entry.event) (λ black. known sheet black ≡ true)
  pub once : is_named so_far (record { player = entry.player; round = round }) ≡ false
  pub new : NewCells
  pub reached_ok : reached_round options sheet entry.event ≡ Ok round
  pub known_ok : are_known sheet entry ≡ Ok (tt {0})
  pub once_ok : are_named_once so_far round entry ≡ Ok (tt {0})
  pub put_ok : with_new_cells options.correct sheet so_far new ≡ Ok more
  pub cells : cells_by sheet so_far (record { player = entry.player; round = round }) entry.event ≡ Ok new
  pub put : IsPut sheet so_far (record { player = entry.player; round = round }) entry.event new
  pub more_is : more ≡ so_far ++ listed new

pub entry_is : (options : EntryOptions) (sheet : Sheet) (so_far more : List NewCell) (entry : HandEntry) → with_entry options sheet so_far entry ≡ Ok more
    → EntryIs options sheet so_far entry more
unfolding with_entry reached_round are_known are_named_once
entry_is options sheet so_far more entry e =
    let slot_at : ℕ → Slot = λ round. record { player = entry.player; round = round } in
    let put : NewCells → Result (List NewCell) EntryFault = λ new. with_new_cells options.correct sheet so_far new in
    let cells : ℕ → Result (List NewCell) EntryFault = λ round. cells_by sheet so_far (slot_at round) entry.event >>= put in
    let once : ℕ → Result (List NewCell) EntryFault = λ round. are_named_once so_far round entry >>= λ _. cells round in
    let one = then_ok (reached_round options sheet entry.event) (λ round. are_known sheet entry >>= λ _. once round) more e in
    let two = then_ok (are_known sheet entry) (λ _. once one.0) more one.2 in
    let three = then_ok (are_named_once so_far one.0 entry) (λ _. cells one.0) more two.2 in
    let four = then_ok (cells_by sheet so_far (slot_at one.0) entry.event) put more three.2 in
    let r = reached_is one.0 one.1 in
    let k = known_is two.0 two.1 in
    record {
      round = one.0;
      is = r.0;
      some = r.1;
      few = r.2;
      player_known = k.0;
      second_known = k.1;
      once = once_is one.0 three.0 three.1;
      new = four.0;
      reached_ok = one.1;
      known_ok = two.1;
      once_ok = three.1;
      put_ok = four.2;
      cells = four.1;
      put = cells_put sheet so_far (slot_at one.0) entry.event four.0 four.1;
      more_is = put_all options.correct sheet so_far more four.0 four.2;
    }
  where
    reached_is : (round : ℕ) → reached_round options sheet entry.event ≡ Ok round → (round_of options.round sheet entry.event ≡ round) × (0 < round) × (round ≤ MOST_ROUNDS)
    reached_is round e =
        let asked = round_of options.round sheet entry.event in
        let p = passed (is_reached sheet asked) asked round (NotReached asked) e in
        let within = and_parts (nat_lt 0 asked) (nat_le asked (rounds_played sheet + 1) && nat_le asked MOST_ROUNDS) p.0 in
        let few = and_parts (nat_le asked (rounds_played sheet + 1)) (nat_le asked MOST_ROUNDS) within.1 in
        (p.1, subst (λ n. 0 < n) p.1 (ltb-true 0 asked within.0), subst (λ n. n ≤ MOST_ROUNDS) p.1 (leb-true asked MOST_ROUNDS few.1))

    known_is : (done : Unit {0}) → are_known sheet entry ≡ Ok done → (known sheet entry.player ≡ true) × IfSome (second_of entry.event) (λ black. known sheet black ≡ true)
    known_is done e =
        let g = guard (not (known sheet entry.player)) (NotKnown entry.player) _ done e in
        (not-false (known sheet entry.player) g.0, second (second_of entry.event) g.1)
      where
        second : (o : Option ℕ) → option_map_or (λ black. cond (known sheet black) (Ok tt) (Err (NotKnown black))) o (Ok tt) ≡ Ok done → IfSome o (λ black. known sheet black ≡ true)
        second None e = tt
        second (Some black) e = (passed (known sheet black) tt done (NotKnown black) e).0

    once_is : (round : ℕ) (done : Unit {0}) → are_named_once so_far round entry ≡ Ok done → is_named so_far (record { player = entry.player; round = round }) ≡ false
    once_is round done e = (guard (is_named so_far (record { player = entry.player; round = round })) (NamedTwice entry.player) _ done e).0
