-- Numbers that are kept once: what stands at each place stays as it was, whatever is kept more.
use Rattle.std.proofs.Common.{◌≡◌, ℕ, ◌<◌, List, [], ◌∷◌, All, length, get_or, set, replicate, Result, Ok, Err, OnErr, refl, sym, ap, subst, ◌∙◌}
use Rattle.std.proofs.lemmas.List.{map-set, get_or-map}
use Rattle.std.proofs.lemmas.List.Elements.{All-get_or, All-head, All-map, All-replicate, All-set, All-tail, All-weaker}
use Rattle.std.specs.Prelude.{slice_index}
use Rattle.dual.specs.WideTables.{Extends, IsAt, numbers_at}

pub on_err : {T E : Type 0} (r : Result T E) (P : Type 0) → P → OnErr r P
on_err (Ok x) P p = tt
on_err (Err e) P p = p

abbrev Inside : List ℕ → ℕ → Type 0
Inside numbers index = index < length numbers

pub inside_still : (numbers more indices : List ℕ) → Extends numbers more → All (Inside numbers) indices → All (Inside more) indices
inside_still numbers more indices kept inside = All-weaker (Inside numbers) (Inside more) (λ index lt. (kept index lt).0) indices inside

pub same_still : (numbers more indices : List ℕ) → Extends numbers more → All (Inside numbers) indices → numbers_at more indices ≡ numbers_at numbers indices
same_still numbers more [] kept inside = refl
same_still numbers more (index ∷ indices) kept inside =
    ap (λ (number : ℕ). number ∷ numbers_at more indices) (kept index (All-head (Inside numbers) index indices inside)).1
    ∙ ap (λ (rest : List ℕ). slice_index numbers index ∷ rest) (same_still numbers more indices kept (All-tail (Inside numbers) index indices inside))

-- an index that is written stands inside too
pub inside_set : (numbers more indices : List ℕ) (place index number : ℕ) → Extends numbers more → All (Inside numbers) indices → IsAt more number index
    → All (Inside more) (set indices place index)
inside_set numbers more indices place index number kept inside here =
    All-set (Inside more) indices place index here.0 (inside_still numbers more indices kept inside)

-- and of all places its own alone changes
pub numbers_set : (numbers more indices : List ℕ) (place index number : ℕ) → Extends numbers more → All (Inside numbers) indices → IsAt more number index
    → numbers_at more (set indices place index) ≡ set (numbers_at numbers indices) place number
numbers_set numbers more indices place index number kept inside here =
    map-set (slice_index more) indices place index
    ∙ (ap (λ (n : ℕ). set (numbers_at more indices) place n) here.1
    ∙ ap (λ (told : List ℕ). set told place number) (same_still numbers more indices kept inside))

-- a number that is there already is written at one place more
pub repeated : (numbers indices : List ℕ) (place from index : ℕ) → All (Inside numbers) indices → from < length indices → index ≡ slice_index indices from
    → numbers_at numbers (set indices place index) ≡ set (numbers_at numbers indices) place (get_or (numbers_at numbers indices) from 0)
repeated numbers indices place from index inside lt is =
    let place_of : index < length numbers = subst (λ (i : ℕ). i < length numbers) (sym is) (All-get_or (Inside numbers) indices from 0 lt inside) in
    numbers_set numbers numbers indices place index (slice_index numbers index) (λ i less. (less, refl)) inside (place_of, refl)
    ∙ ap (λ (n : ℕ). set (numbers_at numbers indices) place n) (ap (slice_index numbers) is ∙ sym (get_or-map (slice_index numbers) indices from 0 0 lt))

pub all_zero : (numbers indices : List ℕ) (index count : ℕ) → indices ≡ replicate count index → slice_index numbers index ≡ 0
    → All (λ number. number ≡ 0) (numbers_at numbers indices)
all_zero numbers indices index count are zero =
    All-map (λ number. number ≡ 0) (slice_index numbers) indices
    (subst (All (λ i. slice_index numbers i ≡ 0)) (sym are) (All-replicate (λ i. slice_index numbers i ≡ 0) count index zero))
