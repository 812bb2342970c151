-- The rounds of a line: what is known of those that were read, and that they read back where they are written.
use Rattle.std.proofs.Common.{◌≡◌, ℕ, zero, suc, ◌+◌, ◌-◌, ◌*◌, ◌<◌, ◌≤◌, Bool, true, false, ◌&&◌, ◌==◌, nat_lt, cond, List, [], ◌∷◌, ◌++◌, length, take, drop, replicate, refl, sym, ap, ◌∙◌, arith, subst, ◌⊎◌, inl, inr, Option, Some, None, Ok, Err}
use Rattle.std.specs.Prelude.{option_and_then}
use Rattle.std.specs.List.{AllByRecursion, list_all, flat_map}
use Rattle.std.specs.Option.{option_map_or, ok_or}
use Rattle.std.specs.Char.{is_ascii, to_ascii_uppercase}
use Rattle.std.proofs.lemmas.Bool.{and_parts, and_from, lt-ltb, ltb-false, ne_eqb, eqb-true}
use Rattle.std.proofs.lemmas.Bool.Decides.{nat_tests, eqb_tells}
use Rattle.std.proofs.lemmas.List.{drop-drop, take-append-drop, map-append}
use Rattle.trf16_report.specs.Prelude.{joined, text, is_blank, onto_first, words, number_of, cell_from, cell_of, opponent_in, opponent_of, mark_in, bye_cell, game_cell, forfeit_cell, outcome_of, colour_of, is_no_colour, opponent_in_cell, blank_at, blanks_at, round_at, rounds_at, cell_text, round_text}
use Rattle.trf16_report.specs.Outcomes.{◌>>=◌}
use Rattle.trf16_report.specs.declared.cell.Colour.{Colour}
use Rattle.trf16_report.specs.declared.cell.GameOutcome.{GameOutcome}
use Rattle.trf16_report.specs.declared.cell.Cell.{Cell}
use Rattle.trf16_report.specs.declared.cell.Cell.TheVariants.{Blank, Game}
use Rattle.trf16_report.specs.declared.fault.Fault.TheVariants.{BadCell, Misaligned}
use Rattle.trf16_report.proofs.StepLemmas.{then_ok, same_ok}
use Rattle.trf16_report.proofs.WrittenColumns.{each}
use Rattle.trf16_report.proofs.ColumnLemmas.{joined-append}
use Rattle.trf16_laws.proofs.WrittenCells.{is_sound, fields_of, four_are, list_all-append, ascii-digits}
use Rattle.trf16_reader.proofs.RoundSteps.{text-behind, IsRound, round_from, none_written, next_columns}
use Rattle.trf16_writer.proofs.ReadStarts.{number_is, ok_or_ok}

pub then_some : {A B : Type 0} (o : Option A) (next : A → Option B) (y : B) → option_and_then next o ≡ Some y → (x : A) × (o ≡ Some x) × (next x ≡ Some y)
then_some (Some x) next y e = (x, refl, e)
then_some None next y e = absurd (cc)

pub blank_ok : (n : ℕ) (line : List (List ℕ)) (k : ℕ) (y : Unit {0}) → blank_at n line k ≡ Ok y → is_blank (text line k k) ≡ true
unfolding blank_at
blank_ok n line k y e = by (is_blank (text line k k)) e
  where
    by : (b : Bool) → cond b (Ok tt) (Err (Misaligned n k)) ≡ Ok y → b ≡ true
    by true e = refl
    by false e = absurd (cc)

pub blanks_ok : (n : ℕ) (line : List (List ℕ)) (columns : List ℕ) (y : Unit {0}) → blanks_at n line columns ≡ Ok y
    → AllByRecursion (λ k. is_blank (text line k k) ≡ true) columns
unfolding blanks_at
blanks_ok n line [] y e = tt
blanks_ok n line (k ∷ others) y e =
    let s = then_ok (blank_at n line k) (λ _. blanks_at n line others) y e in
    (blank_ok n line k s.0 s.1, blanks_ok n line others y s.2)

pub round_is : (n : ℕ) (line : List (List ℕ)) (before : ℕ) (cell : Cell) → round_at n line before ≡ Ok cell → IsRound (drop (91 + 10 * before) line) cell
unfolding round_at
round_is n line before cell e =
    let at = 91 + 10 * before in
    let D = drop at line in
    let fields = cell_from (text line (at + 1) (at + 4)) (text line (at + 6) (at + 6)) (text line (at + 8) (at + 8)) in
    let places = (at + 5) ∷ (at + 7) ∷ (at + 9) ∷ (at + 10) ∷ [] in
    let s = then_ok (blanks_at n line places) (λ _. ok_or fields (BadCell n (before + 1))) cell e in
    let blank = blanks_ok n line places s.0 s.1 in
    let read : fields ≡ Some cell = ok_or_ok fields (BadCell n (before + 1)) cell s.2 in
    record {
      blank5 = ap is_blank (sym (text-behind line at 5 5 (omega arith))) ∙ blank.0;
      blank7 = ap is_blank (sym (text-behind line at 7 7 (omega arith))) ∙ blank.1.0;
      blank9 = ap is_blank (sym (text-behind line at 9 9 (omega arith))) ∙ blank.1.1.0;
      blank10 = ap is_blank (sym (text-behind line at 10 10 (omega arith))) ∙ blank.1.1.1.0;
      read = rw (← text-behind line at 1 4 (omega arith), ← text-behind line at 6 6 (omega arith), ← text-behind line at 8 8 (omega arith)) read;
    }

-- written rounds

unfoldable pub tail_of : List Cell → List (List ℕ)
tail_of [] = []
tail_of (cell ∷ rest) = each (cell_text cell) ++ each (flat_map round_text rest)

pub each-append : (xs ys : List ℕ) → each (xs ++ ys) ≡ each xs ++ each ys
unfolding each
each-append xs ys = map-append (λ b. b ∷ []) xs ys

pub tail-rounds : (cells : List Cell) → drop 2 (each (flat_map round_text cells)) ≡ tail_of cells
unfolding each tail_of
tail-rounds [] = refl
tail-rounds (cell ∷ rest) = each-append (cell_text cell) (flat_map round_text rest)

pub lead_blank : (k : ℕ) → (k ≡ 1) ⊎ (k ≡ 2) → (cells : List Cell) → is_blank (text (each (flat_map round_text cells)) k k) ≡ true
unfolding each
lead_blank k (inl e) [] = rw e refl
lead_blank k (inl e) (cell ∷ rest) = rw e refl
lead_blank k (inr e) [] = rw e refl
lead_blank k (inr e) (cell ∷ rest) = rw e refl

eight : (a b c d e f g h : ℕ) → each (a ∷ b ∷ c ∷ d ∷ e ∷ f ∷ g ∷ h ∷ []) ≡ (a ∷ []) ∷ (b ∷ []) ∷ (c ∷ []) ∷ (d ∷ []) ∷ (e ∷ []) ∷ (f ∷ []) ∷ (g ∷ []) ∷ (h ∷ []) ∷ []
unfolding each
eight a b c d e f g h = refl

-- the written round
record Written (cell : Cell) (rest : List (List ℕ)) : Type 0 where
  round : is_blank (text rest 1 1) ≡ true → is_blank (text rest 2 2) ≡ true → IsRound (each (cell_text cell) ++ rest) cell
  behind : drop 10 (each (cell_text cell) ++ rest) ≡ drop 2 rest

written : (cell : Cell) (rest : List (List ℕ)) → is_sound cell ≡ true → Written cell rest
written cell rest sound =
    let f = fields_of cell sound in
    let o = four_are f.opponent f.four in
    let spelled : cell_text cell ≡ o.0 ∷ o.1 ∷ o.2 ∷ o.3 ∷ 32 ∷ f.colour ∷ 32 ∷ f.result ∷ [] =
    f.spelled ∙ ap (λ (bs : List ℕ). bs ++ (32 ∷ f.colour ∷ 32 ∷ f.result ∷ [])) o.4 in
    let cols : each (cell_text cell) ≡ (o.0 ∷ []) ∷ (o.1 ∷ []) ∷ (o.2 ∷ []) ∷ (o.3 ∷ []) ∷ (32 ∷ []) ∷ (f.colour ∷ []) ∷ (32 ∷ []) ∷ (f.result ∷ []) ∷ [] =
    ap each spelled ∙ eight o.0 o.1 o.2 o.3 32 f.colour 32 f.result in
    let read : cell_from (o.0 ∷ o.1 ∷ o.2 ∷ o.3 ∷ []) (f.colour ∷ []) (f.result ∷ []) ≡ Some cell =
    ap (λ (bs : List ℕ). cell_from bs (f.colour ∷ []) (f.result ∷ [])) (sym o.4) ∙ f.read in
    record {
      round = λ h1 h2. rw cols (record { blank5 = refl; blank7 = refl; blank9 = h1; blank10 = h2; read = read });
      behind = rw cols refl;
    }

-- written cells read back, and behind them all is blank
pub rounds-written : (n : ℕ) (line : List (List ℕ)) (before more : ℕ) (cells : List Cell) → list_all is_sound cells ≡ true → length cells ≤ more
    → drop (91 + 10 * before) line ≡ tail_of cells → rounds_at n line before more ≡ Ok (cells ++ replicate (more - length cells) Blank)
unfolding rounds_at tail_of
rounds-written n line before zero [] sound few e = refl
rounds-written n line before zero (cell ∷ cells) sound few e = absurd (omega arith)
rounds-written n line before (suc more) [] sound few e =
    let here : round_at n line before ≡ Ok Blank = round_from n line before Blank (none_written (drop (91 + 10 * before) line) e) in
    let none : drop (91 + 10 * (before + 1)) line ≡ [] = next_columns line before ∙ ap (λ (cs : List (List ℕ)). drop 10 cs) e in
    let all : suc more - 0 ≡ suc more = omega arith in
    let others : more - 0 ≡ more = omega arith in
    let later : rounds_at n line (before + 1) more ≡ Ok (replicate (more - 0) Blank) = rounds-written n line (before + 1) more [] refl (omega arith) none in
    rw (here, later, all, others) refl
rounds-written n line before (suc more) (cell ∷ cells) sound few e =
    let both = and_parts (is_sound cell) (list_all is_sound cells) sound in
    let rest = each (flat_map round_text cells) in
    let w = written cell rest both.0 in
    let here : round_at n line before ≡ Ok cell =
    round_from n line before cell (subst (λ (cs : List (List ℕ)). IsRound cs cell) (sym e) (w.round (lead_blank 1 (inl refl) cells) (lead_blank 2 (inr refl) cells))) in
    let others : drop (91 + 10 * (before + 1)) line ≡ tail_of cells =
    next_columns line before ∙ ap (λ (cs : List (List ℕ)). drop 10 cs) e ∙ w.behind ∙ tail-rounds cells in
    let left : suc more - length (cell ∷ cells) ≡ more - length cells = omega arith in
    rw (here, rounds-written n line (before + 1) more cells both.1 (omega arith) others, left) refl

-- read rounds

-- a field of which the words are ASCII
ascii_onto : (b : ℕ) (all : List (List ℕ)) → list_all (λ word. list_all is_ascii word) (onto_first b all) ≡ true
    → (is_ascii b ≡ true) × (list_all (λ word. list_all is_ascii word) all ≡ true)
ascii_onto b [] h = let one = and_parts (is_ascii b && true) true h in ((and_parts (is_ascii b) true one.0).0, refl)
ascii_onto b (first ∷ others) h =
    let one = and_parts (is_ascii b && list_all is_ascii first) (list_all (λ word. list_all is_ascii word) others) h in
    let two = and_parts (is_ascii b) (list_all is_ascii first) one.0 in
    (two.0, and_from (list_all is_ascii first) (list_all (λ word. list_all is_ascii word) others) two.1 one.1)

pub ascii_both : (b : ℕ) (rest : List ℕ) → is_ascii b ≡ true → list_all is_ascii rest ≡ true → list_all is_ascii (b ∷ rest) ≡ true
ascii_both b rest h h' = and_from (is_ascii b) (list_all is_ascii rest) h h'

ascii_32 : (b : ℕ) → b ≡ 32 → is_ascii b ≡ true
ascii_32 b e = rw e refl

pub ascii-words : (bytes : List ℕ) → list_all (λ word. list_all is_ascii word) (words bytes) ≡ true → list_all is_ascii bytes ≡ true
ascii-words [] h = refl
ascii-words (b ∷ []) h =
    elim (eqb_tells b 32) [
      | inl same ↦ ascii_both b [] (ascii_32 b same.1) refl
      | inr other ↦ (and_parts (list_all is_ascii (b ∷ [])) true (rw other.0 at h)).0
    ]
ascii-words (b ∷ c ∷ rest) h =
    elim (eqb_tells b 32) [
      | inl same ↦ ascii_both b (c ∷ rest) (ascii_32 b same.1) (ascii-words (c ∷ rest) (rw same.0 at h))
      | inr other ↦
          let h1 = rw other.0 at h in
          elim (eqb_tells c 32) [
            | inl same' ↦
                let h2 = and_parts (list_all is_ascii (b ∷ [])) (list_all (λ word. list_all is_ascii word) (words rest)) (rw same'.0 at h1) in
                ascii_both b (c ∷ rest) (and_parts (is_ascii b) true h2.0).0 (ascii_both c rest (ascii_32 c same'.1) (ascii-words rest h2.1))
            | inr other' ↦
                let h2 = ascii_onto b (words (c ∷ rest)) (rw other'.0 at h1) in
                ascii_both b (c ∷ rest) h2.0 (ascii-words (c ∷ rest) h2.1)
          ]
    ]

abbrev pub is_start : Option ℕ → Type 0
is_start None = Unit {0}
is_start (Some n) = (0 < n) × (n < 10000)

opponent_start : (n : ℕ) → n < 10000 → is_start (opponent_of n)
opponent_start n lt =
    elim (eqb_tells n 0) [
      | inl same ↦ rw same.0 tt
      | inr other ↦ rw other.0 (let some : 0 < n = omega (arith, other.1) in (some, lt))
    ]

-- the opponent of a field, of which the bytes are ASCII
pub opponent_is : (all : List (List ℕ)) (o : Option ℕ) → opponent_in all ≡ Some o → is_start o × (list_all (λ word. list_all is_ascii word) all ≡ true)
opponent_is [] o e = let same : None ≡ o = cc in (subst is_start same tt, refl)
opponent_is (word ∷ []) o e =
    let s = then_some (number_of word) (λ n. Some (opponent_of n)) o e in
    let w = number_is word s.0 s.1 in
    let same : opponent_of s.0 ≡ o = same_some (opponent_of s.0) o s.2 in
    (subst is_start same (opponent_start s.0 w.below), and_from (list_all is_ascii word) true (ascii-digits word w.digits) refl)
  where
    same_some : (x y : Option ℕ) → Some x ≡ Some y → x ≡ y
    same_some x y e = cc
opponent_is (word ∷ word' ∷ all) o e = absurd (cc)

-- what names this opponent
Names : Option ℕ → Option Cell → Type 0
Names o None = Unit {0}
Names o (Some cell) = opponent_in_cell cell ≡ o

names_either : (o : Option ℕ) (b : Bool) (x y : Option Cell) → Names o x → Names o y → Names o (cond b x y)
names_either o true x y h h' = h
names_either o false x y h h' = h'

names_bye : (result : ℕ) → Names None (bye_cell result)
unfolding Names
names_bye result =
    names_either None (result == 32) _ _ refl (names_either None (result == 72) _ _ refl (names_either None (result == 70) _ _ refl
    (names_either None (result == 85) _ _ refl (names_either None (result == 90) _ _ refl tt))))

names_forfeit : (n : ℕ) (colour : Option Colour) (result : ℕ) → Names (Some n) (forfeit_cell n colour result)
unfolding Names
names_forfeit n colour result = names_either (Some n) (result == 43) _ _ refl (names_either (Some n) (result == 45) _ _ refl tt)

names_game : (n : ℕ) (colour : Colour) (result : ℕ) → Names (Some n) (game_cell n colour result)
unfolding Names
names_game n colour result = names_either (Some n) (result == 32) _ _ refl (by (outcome_of result))
  where
    by : (played : Option (Bool × GameOutcome))
        → Names (Some n) (option_map_or (λ p. Some (Game n colour p.0 p.1)) played (forfeit_cell n (Some colour) result))
    by None = names_forfeit n (Some colour) result
    by (Some p) = refl

names_cell : (o : Option ℕ) (colour result : ℕ) → Names o (cell_of o colour result)
unfolding Names
names_cell None colour result = names_either None (is_no_colour colour) _ _ (names_bye result) tt
names_cell (Some n) colour result = names_either (Some n) (is_no_colour colour) _ _ (names_forfeit n None result) (by (colour_of colour))
  where
    by : (c : Option Colour) → Names (Some n) (option_and_then (λ x. game_cell n x result) c)
    by None = tt
    by (Some c) = names_game n c result

far : (c k : ℕ) → is_ascii c ≡ false → k < 128 → (c == k) ≡ false
far c k h lt = let above : 128 ≤ c = ltb-false c 128 h in ne_eqb c k (λ e. omega (arith, e))

none_either : {A : Type 0} (b : Bool) (x : Option A) → x ≡ None → cond b x None ≡ None
none_either true x e = e
none_either false x e = refl

far_colour : (o : Option ℕ) (c r : ℕ) → is_ascii c ≡ false → cell_of o c r ≡ None
far_colour None c r h = rw (far c 45 h (omega arith), far c 32 h (omega arith)) refl
far_colour (Some n) c r h = rw (far c 45 h (omega arith), far c 32 h (omega arith), far c 87 h (omega arith), far c 66 h (omega arith)) refl

far_bye : (r : ℕ) → is_ascii r ≡ false → bye_cell r ≡ None
far_bye r h = rw (far r 32 h (omega arith), far r 72 h (omega arith), far r 70 h (omega arith), far r 85 h (omega arith), far r 90 h (omega arith)) refl

far_forfeit : (n : ℕ) (c : Option Colour) (r : ℕ) → is_ascii r ≡ false → forfeit_cell n c r ≡ None
far_forfeit n c r h = rw (far r 43 h (omega arith), far r 45 h (omega arith)) refl

far_outcome : (r : ℕ) → is_ascii r ≡ false → outcome_of r ≡ None
far_outcome r h =
    rw (far r 49 h (omega arith), far r 61 h (omega arith), far r 48 h (omega arith), far r 87 h (omega arith), far r 68 h (omega arith), far r 76 h (omega arith)) refl

far_game : (n : ℕ) (c : Colour) (r : ℕ) → is_ascii r ≡ false → game_cell n c r ≡ None
far_game n c r h = rw (far r 32 h (omega arith), far_outcome r h) (far_forfeit n (Some c) r h)

far_result : (o : Option ℕ) (c r : ℕ) → is_ascii r ≡ false → cell_of o c r ≡ None
far_result None c r h = none_either (is_no_colour c) (bye_cell r) (far_bye r h)
far_result (Some n) c r h = rw (far_forfeit n None r h) (by (is_no_colour c) (colour_of c))
  where
    by : (b : Bool) (colour : Option Colour) → cond b None (option_and_then (λ x. game_cell n x r) colour) ≡ None
    by true colour = refl
    by false None = refl
    by false (Some x) = far_game n x r h

none_some : {A : Type 0} (o : Option A) (x : A) → o ≡ None → o ≡ Some x → ⊥
none_some o x e e' = cc

by_cases : (b : Bool) → (b ≡ false → ⊥) → b ≡ true
by_cases true h = refl
by_cases false h = absurd (h refl)

upper_ascii : (b m : ℕ) → to_ascii_uppercase b ≡ m → is_ascii m ≡ true → is_ascii b ≡ true
upper_ascii b m e h = grind (arith, nat_tests)

mark_ascii : (field : List ℕ) (m : ℕ) → mark_in field ≡ Some m → is_ascii m ≡ true → list_all is_ascii field ≡ true
mark_ascii [] m e h = refl
mark_ascii (b ∷ []) m e h = let same : to_ascii_uppercase b ≡ m = cc in ascii_both b [] (upper_ascii b m same h) refl
mark_ascii (b ∷ c ∷ rest) m e h = absurd (cc)

sound_start : (o : Option ℕ) → is_start o → option_map_or (λ n. nat_lt 0 n && nat_lt n 10000) o true ≡ true
sound_start None h = refl
sound_start (Some n) h = rw (lt-ltb 0 n h.0, lt-ltb n 10000 h.1) refl

-- what is known of the fields that spell a cell
pub record AreFields (opponent colour result : List ℕ) (cell : Cell) : Type 0 where
  pub sound : is_sound cell ≡ true
  pub opponent_ascii : list_all is_ascii opponent ≡ true
  pub colour_ascii : list_all is_ascii colour ≡ true
  pub result_ascii : list_all is_ascii result ≡ true

pub fields_are : (opponent colour result : List ℕ) (cell : Cell) → cell_from opponent colour result ≡ Some cell → AreFields opponent colour result cell
unfolding Names
fields_are opponent colour result cell e =
    let s1 = then_some (opponent_in (words opponent)) (λ o. option_and_then (λ c. option_and_then (λ r. cell_of o c r) (mark_in result)) (mark_in colour)) cell e in
    let s2 = then_some (mark_in colour) (λ c. option_and_then (λ r. cell_of s1.0 c r) (mark_in result)) cell s1.2 in
    let s3 = then_some (mark_in result) (λ r. cell_of s1.0 s2.0 r) cell s2.2 in
    let o = opponent_is (words opponent) s1.0 s1.1 in
    let names : Names s1.0 (Some cell) = subst (Names s1.0) s3.2 (names_cell s1.0 s2.0 s3.0) in
    let same : opponent_in_cell cell ≡ s1.0 = names in
    record {
      sound = rw same (sound_start s1.0 o.0);
      opponent_ascii = ascii-words opponent o.1;
      colour_ascii = mark_ascii colour s2.0 s2.1 (by_cases (is_ascii s2.0) (λ h. none_some (cell_of s1.0 s2.0 s3.0) cell (far_colour s1.0 s2.0 s3.0 h) s3.2));
      result_ascii = mark_ascii result s3.0 s3.1 (by_cases (is_ascii s3.0) (λ h. none_some (cell_of s1.0 s2.0 s3.0) cell (far_result s1.0 s2.0 s3.0 h) s3.2));
    }

pub ascii-blank : (bytes : List ℕ) → is_blank bytes ≡ true → list_all is_ascii bytes ≡ true
ascii-blank [] h = refl
ascii-blank (b ∷ rest) h =
    let both = and_parts (b == 32) (list_all (λ b. b == 32) rest) h in
    ascii_both b rest (ascii_32 b (eqb-true b 32 both.0)) (ascii-blank rest both.1)

pub joined_at : (i k : ℕ) (cols : List (List ℕ)) → joined (drop i cols) ≡ joined (take k (drop i cols)) ++ joined (drop (i + k) cols)
joined_at i k cols =
    ap joined (sym (take-append-drop k (drop i cols))) ∙ joined-append (take k (drop i cols)) (drop k (drop i cols))
    ∙ ap (λ (cs : List (List ℕ)). joined (take k (drop i cols)) ++ joined cs) (drop-drop k i cols)

-- the bytes of columns from a place on are ASCII where those of some columns are, and those behind them
pub ascii_from : (i k : ℕ) (cols : List (List ℕ)) → list_all is_ascii (joined (take k (drop i cols))) ≡ true → list_all is_ascii (joined (drop (i + k) cols)) ≡ true
    → list_all is_ascii (joined (drop i cols)) ≡ true
ascii_from i k cols h h' =
    let parts = joined_at i k cols in
    rw parts (list_all-append is_ascii (joined (take k (drop i cols))) (joined (drop (i + k) cols)) h h')

pub round_ascii : (cols : List (List ℕ)) (cell : Cell) → IsRound cols cell → list_all is_ascii (joined (drop 10 cols)) ≡ true → list_all is_ascii (joined cols) ≡ true
round_ascii cols cell r h =
    let f = fields_are (text cols 1 4) (text cols 6 6) (text cols 8 8) cell r.read in
    ascii_from 0 4 cols f.opponent_ascii (ascii_from 4 1 cols (ascii-blank (text cols 5 5) r.blank5) (ascii_from 5 1 cols f.colour_ascii
    (ascii_from 6 1 cols (ascii-blank (text cols 7 7) r.blank7) (ascii_from 7 1 cols f.result_ascii
    (ascii_from 8 1 cols (ascii-blank (text cols 9 9) r.blank9) (ascii_from 9 1 cols (ascii-blank (text cols 10 10) r.blank10) h))))))

-- what is known of rounds that were read
pub record WereRounds (line : List (List ℕ)) (before more : ℕ) (cells : List Cell) : Type 0 where
  pub count : length cells ≡ more
  pub sound : list_all is_sound cells ≡ true
  pub ascii : list_all is_ascii (joined (drop (91 + 10 * (before + more)) line)) ≡ true → list_all is_ascii (joined (drop (91 + 10 * before) line)) ≡ true

pub rounds_were : (n : ℕ) (line : List (List ℕ)) (before more : ℕ) (cells : List Cell) → rounds_at n line before more ≡ Ok cells → WereRounds line before more cells
unfolding rounds_at
rounds_were n line before zero cells e =
    let none : [] ≡ cells = cc in
    let same : before + 0 ≡ before = omega arith in
    record { count = rw (← none) refl; sound = rw (← none) refl; ascii = rw same (λ h. h) }
rounds_were n line before (suc more) cells e =
    let first = then_ok (round_at n line before) (λ cell. rounds_at n line (before + 1) more >>= λ others. Ok (cell ∷ others)) cells e in
    let then = then_ok (rounds_at n line (before + 1) more) (λ others. Ok (first.0 ∷ others)) cells first.2 in
    let same : first.0 ∷ then.0 ≡ cells = same_ok (first.0 ∷ then.0) cells then.2 in
    let here = round_is n line before first.0 first.1 in
    let others = rounds_were n line (before + 1) more then.0 then.1 in
    let cols = drop (91 + 10 * before) line in
    let f = fields_are (text cols 1 4) (text cols 6 6) (text cols 8 8) first.0 here.read in
    let sum : before + suc more ≡ before + 1 + more = omega arith in
    record {
      count = rw (← same) (ap suc others.count);
      sound = rw (← same) (and_from (is_sound first.0) (list_all is_sound then.0) f.sound others.sound);
      ascii = rw sum (λ h. round_ascii cols first.0 here (rw (next_columns line before) at (others.ascii h)));
    }
