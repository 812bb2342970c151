-- Each who plays in a round stands on one board: that of the higher ranked of two, or of who has the bye.
use Rattle.std.proofs.Common.{◌≡◌, ℕ, Bool, true, false, cond, ◌<◌, ◌≤◌, ◌⊎◌, inl, inr, List, [], ◌∷◌, refl, sym, ap, ◌∙◌, arith}
use Rattle.std.specs.Prelude.{◌&&◌, ◌||◌, ◌==◌, count_by, not, nat_lt, Ok, Option, Some, None, All}
use Rattle.std.specs.List.{list_any}
use Rattle.std.proofs.lemmas.Bool.{cases_Bool}
use Rattle.std.proofs.lemmas.Bool.Decides.{nat_tests}
use Rattle.std.proofs.lemmas.List.Elements.{All-head, All-tail}
use Rattle.trf16_report.specs.declared.cell.Bye.TheVariants.{Half, Full, Allocated, Zero}
use Rattle.trf16_report.specs.declared.cell.Cell.{Cell}
use Rattle.trf16_report.specs.declared.cell.Cell.TheVariants.{Blank, Bye, Game, Forfeit, Unfinished}
use Rattle.trf16_report.specs.declared.cell.Colour.{Colour}
use Rattle.trf16_report.specs.declared.cell.Colour.TheVariants.{White, Black}
use Rattle.trf16_report.specs.Prelude.{AnswerEachOther, Entry, HasOwnStarts, IsAnswered, Sheet, cell_at, cell_in, cells_of, is_paired, known, opponent_in_cell, starts_of, verdict}
use Rattle.trf16_laws.proofs.MeetingLemmas.{answered}
use Rattle.trf16_writer.proofs.StartRanks.{own_starts}
use Rattle.report_laws.specs.EachOnOne.{EachOnOne, has, is_bye_of, is_of}
use Rattle.tables.specs.Prelude.{board_at, board_by, boards_of, colour_by, colour_in, ranks_above, score_before, with_colour}
use Rattle.tables.specs.Boards.{board_of_bye, board_of_two}
use Rattle.tables.specs.declared.board.RankedBoard.{RankedBoard}
use Rattle.report_laws.proofs.BoardCounts.{passes, count_one, count_nothing}

-- ---- tests on two numbers

-- of two who name each other, the higher ranked alone has a board with the one; `so` says whether s ranks above o, whom s names
host-has : (a b s o : ℕ) (ab ba so : Bool) → (a ≡ b → ⊥) → (s ≡ a → (o ≡ b) × (so ≡ ab)) → (s ≡ b → (o ≡ a) × (so ≡ ba)) → (o ≡ a → s ≡ b)
    → ba ≡ not ab → (so && ((s == a) || (o == a))) ≡ (s == cond ab a b)
host-has a b s o true ba so apart at_a at_b back other = grind (arith, nat_tests)
host-has a b s o false ba so apart at_a at_b back other = grind (arith, nat_tests)

-- the same of a board with both
host-of : (a b s o : ℕ) (ab ba so : Bool) → (a ≡ b → ⊥) → (s ≡ a → (o ≡ b) × (so ≡ ab)) → (s ≡ b → (o ≡ a) × (so ≡ ba))
    → ba ≡ not ab → (so && (((s == a) && (o == b)) || ((s == b) && (o == a)))) ≡ (s == cond ab a b)
host-of a b s o true ba so apart at_a at_b other = grind (arith, nat_tests)
host-of a b s o false ba so apart at_a at_b other = grind (arith, nat_tests)

-- nobody else is one of two
neither : (a b s : ℕ) (ab : Bool) → (s ≡ a → ⊥) → (s ≡ b → ⊥) → (s == cond ab a b) ≡ false
neither a b s true not_a not_b = grind (arith, nat_tests)
neither a b s false not_a not_b = grind (arith, nat_tests)

differ : (a b : ℕ) → (a ≡ b → ⊥) → (a == b) ≡ false
differ a b apart = grind (arith, nat_tests)

and-yes : (t : Bool) → (t && true) ≡ t
and-yes true = refl
and-yes false = refl

and-no : (t : Bool) → (t && false) ≡ false
and-no true = refl
and-no false = refl

or-swap : (s t : Bool) → (s || t) ≡ (t || s)
or-swap true true = refl
or-swap true false = refl
or-swap false true = refl
or-swap false false = refl

both-swap : (w x y z : Bool) → ((w && x) || (y && z)) ≡ ((z && y) || (x && w))
both-swap true true true true = refl
both-swap true true true false = refl
both-swap true true false true = refl
both-swap true true false false = refl
both-swap true false true true = refl
both-swap true false true false = refl
both-swap true false false true = refl
both-swap true false false false = refl
both-swap false true true true = refl
both-swap false true true false = refl
both-swap false true false true = refl
both-swap false true false false = refl
both-swap false false true true = refl
both-swap false false true false = refl
both-swap false false false true = refl
both-swap false false false false = refl

-- two who are not the same rank one above the other
pub above_other : (f : ℕ → ℕ) (a b : ℕ) → (a ≡ b → ⊥)
    → (nat_lt (f a) (f b) || ((f b == f a) && nat_lt b a)) ≡ not (nat_lt (f b) (f a) || ((f a == f b) && nat_lt a b))
above_other f a b apart = grind (arith, nat_tests)

-- ---- a board, whoever has white

has-with_colour : (a high low : ℕ) (colour : Colour) → has a (with_colour high low colour) ≡ ((high == a) || (low == a))
has-with_colour a high low White = refl
has-with_colour a high low Black = or-swap (low == a) (high == a)

of-with_colour : (a b high low : ℕ) (colour : Colour) → is_of a b (with_colour high low colour) ≡ (((high == a) && (low == b)) || ((high == b) && (low == a)))
of-with_colour a b high low White = refl
of-with_colour a b high low Black = both-swap (low == a) (high == b) (low == b) (high == a)

bye-with_colour : (a high low : ℕ) (colour : Colour) → (high ≡ a → ⊥) → (low ≡ a → ⊥) → is_bye_of a (with_colour high low colour) ≡ false
bye-with_colour a high low White apart apart' = rw (differ high a apart) refl
bye-with_colour a high low Black apart apart' = rw (differ low a apart') refl

named-paired : (cell : Cell) (opponent : ℕ) → opponent_in_cell cell ≡ Some opponent → is_paired cell ≡ true
named-paired Blank opponent e = absurd (cc)
named-paired (Bye kind) opponent e = absurd (cc)
named-paired (Game o c r g) opponent e = refl
named-paired (Forfeit o c w) opponent e = refl
named-paired (Unfinished o c) opponent e = refl

-- ---- whose cells say something

unknown-cells : (es : List Entry) (start : ℕ) → list_any (λ (e : Entry). e.start == start) es ≡ false → cells_of es start ≡ []
unknown-cells [] start unknown = refl
unknown-cells (e ∷ es) start unknown = by (e.start == start) unknown (unknown-cells es start)
  where
    by : (t : Bool) → (t || list_any (λ (x : Entry). x.start == start) es) ≡ false
        → (list_any (λ (x : Entry). x.start == start) es ≡ false → cells_of es start ≡ []) → cond t e.cells (cells_of es start) ≡ []
    by true unknown rest = absurd (cc)
    by false unknown rest = rest unknown

pub first-above : (es : List Entry) (start : ℕ) → All (λ n. (0 < n) × (n ≤ 9999)) (starts_of es) → list_any (λ (e : Entry). e.start == start) es ≡ true → 0 < start
first-above [] start within known' = absurd (cc)
first-above (e ∷ es) start within known' =
    by (e.start == start) refl known' (first-above es start (All-tail (λ n. (0 < n) × (n ≤ 9999)) e.start (starts_of es) within))
  where
    by : (t : Bool) → (e.start == start) ≡ t → (t || list_any (λ (x : Entry). x.start == start) es) ≡ true
        → (list_any (λ (x : Entry). x.start == start) es ≡ true → 0 < start) → 0 < start
    by true h known' rest =
        let own = All-head (λ n. (0 < n) × (n ≤ 9999)) e.start (starts_of es) within in
        let above : 0 < e.start = own.0 in
        grind (arith, nat_tests)
    by false h known' rest = rest known'

-- whoever has a cell that is not blank is a player
known_by : (sheet : Sheet) (start round : ℕ) → (cell_in sheet start round ≡ Blank → ⊥) → known sheet start ≡ true
known_by sheet start round some = elim (cases_Bool (known sheet start)) [
  | inl is_known ↦ is_known
  | inr unknown ↦ absurd (some (ap (λ cells. cell_at cells round) (unknown-cells sheet.players start unknown)))
]

module _ (sheet : Sheet) (round : ℕ) (more : 0 < round) (own : HasOwnStarts sheet) (answers : AnswerEachOther sheet) where
  abbrev cell : ℕ → Cell
  cell start = cell_in sheet start round

  abbrev above : ℕ → ℕ → Bool
  above = ranks_above sheet round

  -- the board of one with another, if ranked above them
  abbrev with_lower : ℕ → ℕ → Option RankedBoard
  with_lower start opponent = cond (above start opponent) (Some (board_of_two sheet round start opponent)) None

  -- what a cell makes of a player: who has the bye, who names an opponent, or neither
  kind_of : (start : ℕ) (c : Cell)
      → ((c ≡ Bye Allocated) × (board_by sheet round start c ≡ Some (board_of_bye sheet round start)))
      ⊎ (((opponent : ℕ) × (opponent_in_cell c ≡ Some opponent) × (board_by sheet round start c ≡ with_lower start opponent))
      ⊎ ((is_paired c ≡ false) × (board_by sheet round start c ≡ None)))
  kind_of start Blank = inr (inr (refl, refl))
  kind_of start (Bye Half) = inr (inr (refl, refl))
  kind_of start (Bye Full) = inr (inr (refl, refl))
  kind_of start (Bye Allocated) = inl (refl, refl)
  kind_of start (Bye Zero) = inr (inr (refl, refl))
  kind_of start (Game opponent colour rated got) = inr (inl (opponent, refl, refl))
  kind_of start (Forfeit opponent colour won) = inr (inl (opponent, refl, refl))
  kind_of start (Unfinished opponent colour) = inr (inl (opponent, refl, refl))

  -- a test of the board with a lower player
  passes-lower : (p : ℕ × ℕ → Bool) (start opponent : ℕ) (t : Bool) → p (board_of_two sheet round start opponent).board ≡ t
      → passes p (with_lower start opponent) ≡ (above start opponent && t)
  passes-lower p start opponent t e = by (above start opponent)
    where
      by : (up : Bool) → passes p (cond up (Some (board_of_two sheet round start opponent)) None) ≡ (up && t)
      by true = e
      by false = refl

  colour : ℕ → ℕ → Colour
  colour start opponent = colour_by (colour_in sheet round start) (colour_in sheet round opponent)

  board-two : (start opponent : ℕ) → (board_of_two sheet round start opponent).board ≡ with_colour start opponent (colour start opponent)
  unfolding board_of_two colour
  board-two start opponent = refl

  board-bye : (start : ℕ) → (board_of_bye sheet round start).board ≡ (start, 0)
  unfolding board_of_bye
  board-bye start = refl

  -- what holds of two who name each other
  answer : (start opponent : ℕ) → opponent_in_cell (cell start) ≡ Some opponent → IsAnswered sheet start round opponent
  answer start opponent e = answers start round opponent more e

  same_opponent : (start a b : ℕ) → opponent_in_cell (cell start) ≡ Some a → opponent_in_cell (cell start) ≡ Some b → a ≡ b
  same_opponent start a b e e' = cc

  above_zero : (start : ℕ) → known sheet start ≡ true → 0 < start
  above_zero start is_known = first-above sheet.players start own.within is_known

  bye-differs : (s n m : ℕ) → cell s ≡ Bye Allocated → opponent_in_cell (cell n) ≡ Some m → s ≡ n → ⊥
  bye-differs s n m e named same =
      let there : cell n ≡ Bye Allocated = ap cell (sym same) ∙ e in
      let none : opponent_in_cell (cell n) ≡ None = ap opponent_in_cell there in
      cc

  idle-differs : (s n : ℕ) → is_paired (cell s) ≡ false → is_paired (cell n) ≡ true → s ≡ n → ⊥
  idle-differs s n idle paired same = let there : is_paired (cell n) ≡ false = ap (λ k. is_paired (cell k)) (sym same) ∙ idle in cc

  -- ---- two who name each other

  module _ (a b : ℕ) (named : opponent_in_cell (cell a) ≡ Some b) where
    back : opponent_in_cell (cell b) ≡ Some a
    back = (answer a b named).both_ways

    apart : a ≡ b → ⊥
    apart e = (answer a b named).another (sym e)

    known_a : known sheet a ≡ true
    known_a = (answer b a back).player

    known_b : known sheet b ≡ true
    known_b = (answer a b named).player

    abbrev host : ℕ
    host = cond (above a b) a b

    known_host : (t : Bool) → known sheet (cond t a b) ≡ true
    known_host true = known_a
    known_host false = known_b

    other_way : above b a ≡ not (above a b)
    other_way = above_other (score_before sheet round) a b apart

    at-a : (s o : ℕ) → opponent_in_cell (cell s) ≡ Some o → s ≡ a → (o ≡ b) × (above s o ≡ above a b)
    at-a s o e same =
        let there : opponent_in_cell (cell a) ≡ Some o = ap (λ n. opponent_in_cell (cell n)) (sym same) ∙ e in
        let is_b : o ≡ b = same_opponent a o b there named in
        (is_b, ap (λ n. above n o) same ∙ ap (above a) is_b)

    at-b : (s o : ℕ) → opponent_in_cell (cell s) ≡ Some o → s ≡ b → (o ≡ a) × (above s o ≡ above b a)
    at-b s o e same =
        let there : opponent_in_cell (cell b) ≡ Some o = ap (λ n. opponent_in_cell (cell n)) (sym same) ∙ e in
        let is_a : o ≡ a = same_opponent b o a there back in
        (is_a, ap (λ n. above n o) same ∙ ap (above b) is_a)

    back-a : (s o : ℕ) → opponent_in_cell (cell s) ≡ Some o → o ≡ a → s ≡ b
    back-a s o e same =
        let there : opponent_in_cell (cell a) ≡ Some s = ap (λ n. opponent_in_cell (cell n)) (sym same) ∙ (answer s o e).both_ways in
        same_opponent a s b there named

    -- the board of who has the bye has neither
    bye-has-none : (s : ℕ) → (s ≡ a → ⊥) → has a (board_of_bye sheet round s).board ≡ false
    bye-has-none s not_a =
        let zero_no : 0 ≡ a → ⊥ = λ e. let more' : 0 < a = above_zero a known_a in omega (arith, e, more') in
        ap (has a) (board-bye s) ∙ rw (differ s a not_a, differ 0 a zero_no) refl

    bye-of-none : (s : ℕ) → (s ≡ a → ⊥) → (s ≡ b → ⊥) → is_of a b (board_of_bye sheet round s).board ≡ false
    bye-of-none s not_a not_b = ap (is_of a b) (board-bye s) ∙ rw (differ s a not_a, differ s b not_b) refl

    one-has : (s : ℕ) → passes (has a) (board_at sheet round s) ≡ (s == host)
    one-has s = elim (kind_of s (cell s)) [
      | inl bye ↦
          let not_a = bye-differs s a b bye.0 named in
          let not_b = bye-differs s b a bye.0 back in
          ap (passes (has a)) bye.1 ∙ (bye-has-none s not_a ∙ sym (neither a b s (above a b) not_a not_b))
      | inr rest ↦ elim rest [
        | inl meets ↦
            let o = meets.0 in
            ap (passes (has a)) meets.2
            ∙ (passes-lower (has a) s o ((s == a) || (o == a)) (ap (has a) (board-two s o) ∙ has-with_colour a s o (colour s o))
            ∙ host-has a b s o (above a b) (above b a) (above s o) apart (at-a s o meets.1) (at-b s o meets.1) (back-a s o meets.1) other_way)
        | inr idle ↦
            let not_a = idle-differs s a idle.0 (named-paired (cell a) b named) in
            let not_b = idle-differs s b idle.0 (named-paired (cell b) a back) in
            ap (passes (has a)) idle.1 ∙ sym (neither a b s (above a b) not_a not_b)
      ]
    ]

    one-of : (s : ℕ) → passes (is_of a b) (board_at sheet round s) ≡ (s == host)
    one-of s = elim (kind_of s (cell s)) [
      | inl bye ↦
          let not_a = bye-differs s a b bye.0 named in
          let not_b = bye-differs s b a bye.0 back in
          ap (passes (is_of a b)) bye.1 ∙ (bye-of-none s not_a not_b ∙ sym (neither a b s (above a b) not_a not_b))
      | inr rest ↦ elim rest [
        | inl meets ↦
            let o = meets.0 in
            ap (passes (is_of a b)) meets.2
            ∙ (passes-lower (is_of a b) s o (((s == a) && (o == b)) || ((s == b) && (o == a))) (ap (is_of a b) (board-two s o) ∙ of-with_colour a b s o (colour s o))
            ∙ host-of a b s o (above a b) (above b a) (above s o) apart (at-a s o meets.1) (at-b s o meets.1) other_way)
        | inr idle ↦
            let not_a = idle-differs s a idle.0 (named-paired (cell a) b named) in
            let not_b = idle-differs s b idle.0 (named-paired (cell b) a back) in
            ap (passes (is_of a b)) idle.1 ∙ sym (neither a b s (above a b) not_a not_b)
      ]
    ]

    pub pair-once : (count_by (has a) (boards_of sheet round) ≡ 1) × (count_by (is_of a b) (boards_of sheet round) ≡ 1)
    pair-once = (
      count_one sheet round (has a) host own.different (known_host (above a b)) one-has,
      count_one sheet round (is_of a b) host own.different (known_host (above a b)) one-of,
    )

  -- ---- who has the bye

  module _ (a : ℕ) (bye : cell a ≡ Bye Allocated) where
    known_bye : known sheet a ≡ true
    known_bye = known_by sheet a round (λ blank. let tells : Bye Allocated ≡ Blank = sym bye ∙ blank in cc)

    zero_differs : 0 ≡ a → ⊥
    zero_differs e = let more' : 0 < a = above_zero a known_bye in omega (arith, e, more')

    -- whoever names an opponent neither is that player nor names them
    not_bye : (s o : ℕ) → opponent_in_cell (cell s) ≡ Some o → s ≡ a → ⊥
    not_bye s o e same = bye-differs a s o bye e (sym same)

    not_met : (s o : ℕ) → opponent_in_cell (cell s) ≡ Some o → o ≡ a → ⊥
    not_met s o e same = bye-differs a o s bye (answer s o e).both_ways (sym same)

    bye-has : (s : ℕ) → passes (has a) (board_at sheet round s) ≡ (s == a)
    bye-has s = elim (kind_of s (cell s)) [
      | inl same ↦ ap (passes (has a)) same.1 ∙ (ap (has a) (board-bye s) ∙ rw (differ 0 a zero_differs) (or-swap (s == a) false))
      | inr rest ↦ elim rest [
        | inl meets ↦
            let o = meets.0 in
            let tells = differ s a (not_bye s o meets.1) in
            let tells' = differ o a (not_met s o meets.1) in
            ap (passes (has a)) meets.2
            ∙ (passes-lower (has a) s o false (ap (has a) (board-two s o) ∙ has-with_colour a s o (colour s o) ∙ rw (tells, tells') refl)
            ∙ (and-no (above s o) ∙ sym tells))
        | inr idle ↦ ap (passes (has a)) idle.1 ∙ sym (differ s a (idle-differs s a idle.0 (ap is_paired bye)))
      ]
    ]

    bye-is : (s : ℕ) → passes (is_bye_of a) (board_at sheet round s) ≡ (s == a)
    bye-is s = elim (kind_of s (cell s)) [
      | inl same ↦ ap (passes (is_bye_of a)) same.1 ∙ (ap (is_bye_of a) (board-bye s) ∙ and-yes (s == a))
      | inr rest ↦ elim rest [
        | inl meets ↦
            let o = meets.0 in
            let tells = differ s a (not_bye s o meets.1) in
            ap (passes (is_bye_of a)) meets.2
            ∙ (passes-lower (is_bye_of a) s o false
            (ap (is_bye_of a) (board-two s o) ∙ bye-with_colour a s o (colour s o) (not_bye s o meets.1) (not_met s o meets.1)) ∙ (and-no (above s o) ∙ sym tells))
        | inr idle ↦ ap (passes (is_bye_of a)) idle.1 ∙ sym (differ s a (idle-differs s a idle.0 (ap is_paired bye)))
      ]
    ]

    pub bye-once : (count_by (has a) (boards_of sheet round) ≡ 1) × (count_by (is_bye_of a) (boards_of sheet round) ≡ 1)
    bye-once = (count_one sheet round (has a) a own.different known_bye bye-has, count_one sheet round (is_bye_of a) a own.different known_bye bye-is)

  -- ---- who does not play

  module _ (a : ℕ) (some : 0 < a) (idle : is_paired (cell a) ≡ false) where
    none-has : (s : ℕ) → passes (has a) (board_at sheet round s) ≡ false
    none-has s = elim (kind_of s (cell s)) [
      | inl bye ↦
          let tells : s ≡ a → ⊥ = λ same. idle-differs a s idle (ap is_paired bye.0) (sym same) in
          let tells' : 0 ≡ a → ⊥ = λ e. omega (arith, e, some) in
          ap (passes (has a)) bye.1 ∙ (ap (has a) (board-bye s) ∙ rw (differ s a tells, differ 0 a tells') refl)
      | inr rest ↦ elim rest [
        | inl meets ↦
            let o = meets.0 in
            let tells : s ≡ a → ⊥ = λ same. idle-differs a s idle (named-paired (cell s) o meets.1) (sym same) in
            let tells' : o ≡ a → ⊥ = λ same. idle-differs a o idle (named-paired (cell o) s (answer s o meets.1).both_ways) (sym same) in
            ap (passes (has a)) meets.2
            ∙ (passes-lower (has a) s o false
            (ap (has a) (board-two s o) ∙ has-with_colour a s o (colour s o) ∙ rw (differ s a tells, differ o a tells') refl) ∙ and-no (above s o))
        | inr other ↦ ap (passes (has a)) other.1
      ]
    ]

    pub idle-nowhere : count_by (has a) (boards_of sheet round) ≡ 0
    idle-nowhere = count_nothing sheet round (has a) none-has

pub each_on_one : (bytes : List ℕ) (bye : ℕ) (sheet : Sheet) (round : ℕ) → verdict bytes bye ≡ Ok sheet → 0 < round → EachOnOne sheet round (boards_of sheet round)
each_on_one bytes bye sheet round read more =
    let own = own_starts bytes bye sheet read in
    let answers = answered bytes bye sheet read in
    record {
      pairs = λ start opponent named. pair-once sheet round more own answers start opponent named;
      byes = λ start has_bye. bye-once sheet round more own answers start has_bye;
      nobody_else = λ start some idle. idle-nowhere sheet round more own answers start some idle;
    }
