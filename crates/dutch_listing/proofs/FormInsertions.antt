-- Two downfloaters, not both moved down, can be put into the pairs of their arrangement, which stay in form.
use Rattle.std.proofs.Common.{◌≡◌, ℕ, ◌+◌, ◌<◌, ◌≤◌, List, [], ◌∷◌, ◌++◌, length, refl, sym, ap, ◌∙◌, arith, subst, inl, inr, ◌⊎◌, length-append, append_assoc}
use Rattle.std.specs.List.{AllByRecursion}
use Rattle.std.proofs.lemmas.Bool.{cases_order, cases_lt}
use Rattle.dutch_arrangements.specs.declared.bracket.Shape.{Shape}
use Rattle.dutch_arrangements.specs.Prelude.{IsIn, Frame, Arrangement, arrangements, players_of, paired, down, pairs_by_number, players_in, NoneTwice, FirstsAscend, IsMovedDown, IsResident, IsInForm, IsInsertion, TakesPair}
use Rattle.dutch_sequence.proofs.Orders.{IsIn-front, IsIn-back}
use Rattle.dutch_arrangements.proofs.CursorSets.{AreLists, numbers-within}
use Rattle.dutch_arrangements.proofs.NoneTwice.{in-left, players-append}
use Rattle.dutch_listing.proofs.FormArrangements.{lists-in, pairs-paired, arrangement-form}

-- ---- a pair among others

pub players-inserted : (z : ℕ) (pair : ℕ × ℕ) (front behind : List (ℕ × ℕ)) → IsIn z (players_in (front ++ pair ∷ behind)) → ((z ≡ pair.0) ⊎ (z ≡ pair.1)) ⊎ IsIn z (players_in (front ++ behind))
players-inserted z pair [] behind (inl same) = inl (inl same)
players-inserted z pair [] behind (inr (inl same)) = inl (inr same)
players-inserted z pair [] behind (inr (inr m)) = inr m
players-inserted z pair (p ∷ front) behind (inl same) = inr (inl same)
players-inserted z pair (p ∷ front) behind (inr (inl same)) = inr (inr (inl same))
players-inserted z pair (p ∷ front) behind (inr (inr m)) = elim (players-inserted z pair front behind m) [ inl here ↦ inl here | inr later ↦ inr (inr (inr later)) ]

pub inserted-players : (z : ℕ) (pair : ℕ × ℕ) (front behind : List (ℕ × ℕ)) → ((z ≡ pair.0) ⊎ (z ≡ pair.1)) ⊎ IsIn z (players_in (front ++ behind)) → IsIn z (players_in (front ++ pair ∷ behind))
inserted-players z pair [] behind (inl (inl same)) = inl same
inserted-players z pair [] behind (inl (inr same)) = inr (inl same)
inserted-players z pair [] behind (inr m) = inr (inr m)
inserted-players z pair (p ∷ front) behind (inl here) = inr (inr (inserted-players z pair front behind (inl here)))
inserted-players z pair (p ∷ front) behind (inr (inl same)) = inl same
inserted-players z pair (p ∷ front) behind (inr (inr (inl same))) = inr (inl same)
inserted-players z pair (p ∷ front) behind (inr (inr (inr m))) = inr (inr (inserted-players z pair front behind (inr m)))

twice-inserted : (pair : ℕ × ℕ) (front behind : List (ℕ × ℕ)) → (pair.0 ≡ pair.1 → ⊥) → (IsIn pair.0 (players_in (front ++ behind)) → ⊥) → (IsIn pair.1 (players_in (front ++ behind)) → ⊥)
    → NoneTwice (players_in (front ++ behind)) → NoneTwice (players_in (front ++ pair ∷ behind))
twice-inserted pair [] behind differ off off' h = (λ m. elim m [ inl same ↦ differ same | inr later ↦ off later ], (off', h))
twice-inserted pair (p ∷ front) behind differ off off' h = (
  λ m. elim m [
    | inl same ↦ h.0 (inl same)
    | inr later ↦ elim (players-inserted p.0 pair front behind later) [
      | inl (inl same) ↦ off (inl (sym same))
      | inl (inr same) ↦ off' (inl (sym same))
      | inr rest ↦ h.0 (inr rest)
    ]
  ],
  (
    λ m. elim (players-inserted p.1 pair front behind m) [
      | inl (inl same) ↦ off (inr (inl (sym same)))
      | inl (inr same) ↦ off' (inr (inl (sym same)))
      | inr rest ↦ h.1.0 rest
    ],
    twice-inserted pair front behind differ (λ m. off (inr (inr m))) (λ m. off' (inr (inr m))) h.1.1,
  ),
)

length-inserted : (pair : ℕ × ℕ) (front behind : List (ℕ × ℕ)) → length (front ++ pair ∷ behind) ≡ length (front ++ behind) + 1
length-inserted pair front behind =
    omega (arith, length-append front (pair ∷ behind), length-append front behind)

pub all-inserted : (P : ℕ × ℕ → Type 0) (pair : ℕ × ℕ) (front behind : List (ℕ × ℕ)) → P pair → AllByRecursion P (front ++ behind) → AllByRecursion P (front ++ pair ∷ behind)
all-inserted P pair [] behind h all = (h, all)
all-inserted P pair (p ∷ front) behind h all = (all.0, all-inserted P pair front behind h all.1)

-- where a pair stands among others by its first member
record Insertion (pair : ℕ × ℕ) (pairs : List (ℕ × ℕ)) : Type 0 where
  front : List (ℕ × ℕ)
  behind : List (ℕ × ℕ)
  parts : pairs ≡ front ++ behind
  ascend : FirstsAscend (front ++ pair ∷ behind)

later_above : (low high : ℕ) (pairs : List (ℕ × ℕ)) → low < high → AllByRecursion (λ (later : ℕ × ℕ). high < later.0) pairs → AllByRecursion (λ (later : ℕ × ℕ). low < later.0) pairs
later_above low high [] h all = tt
later_above low high (p ∷ pairs) h all = (let above : high < p.0 = all.0 in omega (arith, h, above), later_above low high pairs h all.1)

insertion_behind : (pair p : ℕ × ℕ) (pairs : List (ℕ × ℕ)) → p.0 < pair.0 → AllByRecursion (λ (later : ℕ × ℕ). p.0 < later.0) pairs → Insertion pair pairs → Insertion pair (p ∷ pairs)
insertion_behind pair p pairs h all later =
    record {
      front = p ∷ later.front;
      behind = later.behind;
      parts = ap (λ ps. p ∷ ps) later.parts;
      ascend = (all-inserted (λ (later : ℕ × ℕ). p.0 < later.0) pair later.front later.behind h (subst (AllByRecursion (λ (later : ℕ × ℕ). p.0 < later.0)) later.parts all), later.ascend);
    }

insertion_of : (pair : ℕ × ℕ) (pairs : List (ℕ × ℕ)) → FirstsAscend pairs → (IsIn pair.0 (players_in pairs) → ⊥) → Insertion pair pairs
insertion_of pair [] ascend off = record { front = []; behind = []; parts = refl; ascend = (tt, tt) }
insertion_of pair (p ∷ pairs) ascend off =
    elim (cases_order p.0 pair.0) [
      | inl same ↦ absurd (off (inl (sym same)))
      | inr (inl lower) ↦ insertion_behind pair p pairs lower ascend.0 (insertion_of pair pairs ascend.1 (λ m. off (inr (inr m))))
      | inr (inr higher) ↦
          record { front = []; behind = p ∷ pairs; parts = refl; ascend = ((higher, later_above pair.0 p.0 pairs higher ascend.0), ascend) }
    ]

-- ---- in form with one pair more

module _ (frame : Frame) (shape : Shape) (pairs : List (ℕ × ℕ)) (form : IsInForm frame shape pairs) (pair : ℕ × ℕ)
    (rises : pair.0 < pair.1) (off : IsIn pair.0 (players_in pairs) → ⊥) (off' : IsIn pair.1 (players_in pairs) → ⊥) where
  abbrev larger : ℕ → Shape
  larger mdps = record { pairs = shape.pairs + 1; mdps = mdps }

  record Taken (mdps : ℕ) : Type 0 where
    pub more : List (ℕ × ℕ)
    pub inserted : IsInsertion pair pairs more
    pub in_form : IsInForm frame (larger mdps) more

  -- in a list that is the pairs' in two parts
  grown : (front behind : List (ℕ × ℕ)) → pairs ≡ front ++ behind → NoneTwice (players_in (front ++ pair ∷ behind)) × (length (front ++ pair ∷ behind) ≡ shape.pairs + 1)
  grown front behind parts = (
    twice-inserted pair front behind (λ e. omega (arith, rises, e)) (subst (λ ps. IsIn pair.0 (players_in ps) → ⊥) parts off)
        (subst (λ ps. IsIn pair.1 (players_in ps) → ⊥) parts off') (subst (λ ps. NoneTwice (players_in ps)) parts form.none_twice),
    omega (arith, length-inserted pair front behind, ap length parts, form.count),
  )

  into_first : IsMovedDown frame pair.0 → IsResident frame pair.1 → Taken (shape.mdps + 1)
  into_first low high =
      let off_first : IsIn pair.0 (players_in form.moved_down) → ⊥ =
      λ m. off (subst (IsIn pair.0) (sym (ap players_in form.parts ∙ players-append form.moved_down form.others)) (IsIn-front pair.0 (players_in form.moved_down) (players_in form.others) m)) in
      let insertion = insertion_of pair form.moved_down form.moved_down_ascend off_first in
      let front = insertion.front in
      let behind = insertion.behind ++ form.others in
      let parts : pairs ≡ front ++ behind = form.parts ∙ ap (λ ps. ps ++ form.others) insertion.parts ∙ append_assoc front insertion.behind form.others in
      let grows = grown front behind parts in
      record {
        more = front ++ pair ∷ behind;
        inserted = record { front = front; behind = behind; before = parts; after = refl };
        in_form = record {
          moved_down = front ++ pair ∷ insertion.behind;
          others = form.others;
          parts = sym (append_assoc front (pair ∷ insertion.behind) form.others);
          count = grows.1;
          moved_down_count = omega (arith, length-inserted pair front insertion.behind, ap length insertion.parts, form.moved_down_count);
          of_moved_down = all-inserted (λ (p : ℕ × ℕ). IsMovedDown frame p.0 × IsResident frame p.1) pair front insertion.behind (low, high)
              (subst (AllByRecursion (λ (p : ℕ × ℕ). IsMovedDown frame p.0 × IsResident frame p.1)) insertion.parts form.of_moved_down);
          of_residents = form.of_residents;
          moved_down_ascend = insertion.ascend;
          others_ascend = form.others_ascend;
          none_twice = grows.0;
        };
      }

  into_others : IsResident frame pair.0 → IsResident frame pair.1 → Taken shape.mdps
  into_others low high =
      let off_others : IsIn pair.0 (players_in form.others) → ⊥ =
      λ m. off (subst (IsIn pair.0) (sym (ap players_in form.parts ∙ players-append form.moved_down form.others)) (IsIn-back pair.0 (players_in form.moved_down) (players_in form.others) m)) in
      let insertion = insertion_of pair form.others form.others_ascend off_others in
      let front = form.moved_down ++ insertion.front in
      let behind = insertion.behind in
      let parts : pairs ≡ front ++ behind = form.parts ∙ ap (λ ps. form.moved_down ++ ps) insertion.parts ∙ sym (append_assoc form.moved_down insertion.front behind) in
      let grows = grown front behind parts in
      record {
        more = front ++ pair ∷ behind;
        inserted = record { front = front; behind = behind; before = parts; after = refl };
        in_form = record {
          moved_down = form.moved_down;
          others = insertion.front ++ pair ∷ behind;
          parts = append_assoc form.moved_down insertion.front (pair ∷ behind);
          count = grows.1;
          moved_down_count = form.moved_down_count;
          of_moved_down = form.of_moved_down;
          of_residents = all-inserted (λ (p : ℕ × ℕ). IsResident frame p.0 × IsResident frame p.1) pair insertion.front behind (low, high)
              (subst (AllByRecursion (λ (p : ℕ × ℕ). IsResident frame p.0 × IsResident frame p.1)) insertion.parts form.of_residents);
          moved_down_ascend = form.moved_down_ascend;
          others_ascend = insertion.ascend;
          none_twice = grows.0;
        };
      }

module _ (frame : Frame) (shape : Shape) (a : Arrangement) (x y : ℕ) (within : frame.mdps ≤ length frame.scores) (fewer : shape.mdps ≤ shape.pairs)
    (inside : IsIn a (arrangements frame shape)) (x_down : IsIn x (down frame a)) (y_down : IsIn y (down frame a)) (rises : x < y) (resident : frame.mdps < y) where
  lists : AreLists frame shape a
  lists = lists-in frame shape a within inside

  form : IsInForm frame shape (pairs_by_number a)
  form = arrangement-form frame shape a within lists fewer

  off_pairs : (z : ℕ) → IsIn z (down frame a) → IsIn z (players_in (pairs_by_number a)) → ⊥
  off_pairs z m n = (in-left z (players_of frame) (paired a) m).1 (pairs-paired frame shape a within lists z n)

  of_bracket : (z : ℕ) → IsIn z (down frame a) → (0 < z) × (z ≤ length frame.scores)
  of_bracket z m =
      let h = numbers-within 1 (length frame.scores) z (in-left z (players_of frame) (paired a) m).0 in (omega (arith, h.0), omega (arith, h.1))

  pub takes-pair : TakesPair frame shape a (x, y)
  takes-pair =
      elim (cases_lt frame.mdps x) [
        | inl high ↦
            let taken = into_others frame shape (pairs_by_number a) form (x, y) rises (off_pairs x x_down) (off_pairs y y_down) (high, (of_bracket x x_down).1) (resident, (of_bracket y y_down).1) in
            record {
              larger = record { pairs = shape.pairs + 1; mdps = shape.mdps };
              one_more = record { pairs = refl; mdps = inl refl };
              pairs = taken.more;
              inserted = taken.inserted;
              in_form = taken.in_form;
            }
        | inr low ↦
            let taken = into_first frame shape (pairs_by_number a) form (x, y) rises (off_pairs x x_down) (off_pairs y y_down) ((of_bracket x x_down).0, low) (resident, (of_bracket y y_down).1) in
            record {
              larger = record { pairs = shape.pairs + 1; mdps = shape.mdps + 1 };
              one_more = record { pairs = refl; mdps = inr refl };
              pairs = taken.more;
              inserted = taken.inserted;
              in_form = taken.in_form;
            }
      ]
