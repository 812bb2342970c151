-- How many of the boards of a round pass a test, where exactly one player, or nobody, has a board that passes it.
use Rattle.std.proofs.Common.{◌≡◌, ℕ, Bool, true, false, cond, ◌+◌, List, [], ◌∷◌, refl, sym, ap, ◌∙◌, map, subst, zero-add, arith}
use Rattle.std.specs.Prelude.{◌==◌, ◌||◌, nat_eq, Option, Some, None, count_by}
use Rattle.std.specs.List.{cons_option, filter_map, list_any, IsDistinct, AllByRecursion}
use Rattle.std.proofs.lemmas.List.Sorted.{sum_by-IsPermutation}
use Rattle.std.proofs.lemmas.List.Sums.{sum_by-cons}
use Rattle.std.proofs.lemmas.Bool.Decides.{nat_tests}
use Rattle.trf16_report.specs.Prelude.{Entry, Sheet, known, starts_of, ranked_by}
use Rattle.trf16_report.proofs.RankLemmas.{ranked_moves}
use Rattle.tables.specs.declared.board.RankedBoard.{RankedBoard}
use Rattle.tables.specs.Prelude.{board_at, boards_of, boards_unordered, board_goes_before}

-- whether there is a board, and it passes a test
abbrev pub passes : (ℕ × ℕ → Bool) → Option RankedBoard → Bool
passes p None = false
passes p (Some ranked) = p ranked.board

step : {X : Type 0} (p : X → Bool) (x : X) (xs : List X) → count_by p (x ∷ xs) ≡ cond (p x) 1 0 + count_by p xs
step p x xs = sum_by-cons (λ x. cond (p x) 1 0) x xs

count-map : (p : ℕ × ℕ → Bool) (xs : List RankedBoard) → count_by p (map (λ (r : RankedBoard). r.board) xs) ≡ count_by (λ (r : RankedBoard). p r.board) xs
count-map p [] = refl
count-map p (x ∷ xs) =
    step p x.board (map (λ (r : RankedBoard). r.board) xs) ∙ ap (λ n. cond (p x.board) 1 0 + n) (count-map p xs)
    ∙ sym (step (λ (r : RankedBoard). p r.board) x xs)

-- of the boards that some make, as many pass as of those who make them
count-made : (p : ℕ × ℕ → Bool) (f : Entry → Option RankedBoard) (es : List Entry)
    → count_by (λ (r : RankedBoard). p r.board) (filter_map f es) ≡ count_by (λ e. passes p (f e)) es
count-made p f [] = refl
count-made p f (e ∷ es) = by (f e) (count-made p f es) ∙ sym (step (λ x. passes p (f x)) e es)
  where
    by : (made : Option RankedBoard) → count_by (λ (r : RankedBoard). p r.board) (filter_map f es) ≡ count_by (λ x. passes p (f x)) es
        → count_by (λ (r : RankedBoard). p r.board) (cons_option made (filter_map f es)) ≡ cond (passes p made) 1 0 + count_by (λ x. passes p (f x)) es
    by None h = h ∙ sym (zero-add (count_by (λ x. passes p (f x)) es))
    by (Some r) h = step (λ (r : RankedBoard). p r.board) r (filter_map f es) ∙ ap (λ n. cond (p r.board) 1 0 + n) h

count-same : {X : Type 0} (p q : X → Bool) → ((x : X) → p x ≡ q x) → (xs : List X) → count_by p xs ≡ count_by q xs
count-same p q same [] = refl
count-same p q same (x ∷ xs) =
    step p x xs ∙ (ap (λ t. cond t 1 0 + count_by p xs) (same x) ∙ (ap (λ n. cond (q x) 1 0 + n) (count-same p q same xs) ∙ sym (step q x xs)))

count-none : {X : Type 0} (p : X → Bool) → ((x : X) → p x ≡ false) → (xs : List X) → count_by p xs ≡ 0
count-none p fails [] = refl
count-none p fails (x ∷ xs) = step p x xs ∙ (ap (λ t. cond t 1 0 + count_by p xs) (fails x) ∙ ap (λ n. 0 + n) (count-none p fails xs))

abbrev is_start : ℕ → Entry → Bool
is_start start e = e.start == start

-- nobody behind has the start rank of one
absent-behind : (start : ℕ) (es : List Entry) → AllByRecursion (λ y. nat_eq start y ≡ false) (starts_of es) → count_by (is_start start) es ≡ 0
absent-behind start [] h = refl
absent-behind start (e ∷ es) h =
    let here : nat_eq start e.start ≡ false = h.0 in
    let other : is_start start e ≡ false = grind (arith, nat_tests) in
    step (is_start start) e es ∙ (ap (λ t. cond t 1 0 + count_by (is_start start) es) other ∙ ap (λ n. 0 + n) (absent-behind start es h.1))

-- one player alone has a start rank that is known
count-known : (start : ℕ) (es : List Entry) → IsDistinct nat_eq (starts_of es) → list_any (is_start start) es ≡ true → count_by (is_start start) es ≡ 1
unfolding IsDistinct
count-known start [] d k = absurd (cc)
count-known start (e ∷ es) d k = step (is_start start) e es ∙ by (is_start start e) refl k (count-known start es d.1)
  where
    by : (t : Bool) → is_start start e ≡ t → (t || list_any (is_start start) es) ≡ true
        → (list_any (is_start start) es ≡ true → count_by (is_start start) es ≡ 1) → cond t 1 0 + count_by (is_start start) es ≡ 1
    by true h known' rest =
        let same : e.start ≡ start = grind (arith, nat_tests) in
        let none : count_by (is_start start) es ≡ 0 = subst (λ n. count_by (is_start n) es ≡ 0) same (absent-behind e.start es d.0) in
        ap (λ n. 1 + n) none
    by false h known' rest = ap (λ n. 0 + n) (rest known')

-- as many boards pass a test as players whose board passes it
count-boards : (sheet : Sheet) (round : ℕ) (p : ℕ × ℕ → Bool)
    → count_by p (boards_of sheet round) ≡ count_by (λ (e : Entry). passes p (board_at sheet round e.start)) sheet.players
count-boards sheet round p =
    count-map p (ranked_by board_goes_before (boards_unordered sheet round))
    ∙ sum_by-IsPermutation (λ (r : RankedBoard). cond (p r.board) 1 0) (boards_unordered sheet round) (ranked_by board_goes_before (boards_unordered sheet round))
    (ranked_moves board_goes_before (boards_unordered sheet round))
    ∙ count-made p (λ (e : Entry). board_at sheet round e.start) sheet.players

-- one board passes a test that one known player's board alone passes
pub count_one : (sheet : Sheet) (round : ℕ) (p : ℕ × ℕ → Bool) (host : ℕ) → IsDistinct nat_eq (starts_of sheet.players) → known sheet host ≡ true
    → ((start : ℕ) → passes p (board_at sheet round start) ≡ (start == host)) → count_by p (boards_of sheet round) ≡ 1
count_one sheet round p host d k alone =
    count-boards sheet round p
    ∙ count-same (λ (e : Entry). passes p (board_at sheet round e.start)) (is_start host) (λ e. alone e.start) sheet.players
    ∙ count-known host sheet.players d k

-- no board passes a test that nobody's board passes
pub count_nothing : (sheet : Sheet) (round : ℕ) (p : ℕ × ℕ → Bool) → ((start : ℕ) → passes p (board_at sheet round start) ≡ false)
    → count_by p (boards_of sheet round) ≡ 0
count_nothing sheet round p fails =
    count-boards sheet round p ∙ count-none (λ (e : Entry). passes p (board_at sheet round e.start)) (λ e. fails e.start) sheet.players
