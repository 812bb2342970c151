-- The values of a row at their end, and the labels of a line one by one.
use Rattle.std.proofs.Common.{◌≡◌, ◌∙◌, ◌≤◌, ◌<◌, ◌+◌, ℕ, Bool, List, [], ◌∷◌, Option, ◌++◌, ap, append-nil, append_assoc, refl, sym, length, drop, get_or}
use Rattle.std.specs.Prelude.{slice_index_or, None}
use Rattle.std.proofs.lemmas.List.{drop_all, drop_more}
use Rattle.tables.specs.declared.key.Key.{Key}
use Rattle.replies.specs.Prelude.{values_text, LabelFacts, gap, labels_text, padded_label, values_labels}

no_values : (keys : List Key) → values_text keys [] ≡ []
no_values [] = refl
no_values (key ∷ keys) = refl

-- where the values are at their end there are no more texts
pub values_end : (keys : List Key) (values : List (Option ℕ)) (i : ℕ) (old text : List ℕ)
    → text ++ values_text (drop i keys) (drop i values) ≡ old ++ values_text keys values → length values ≤ i → text ≡ old ++ values_text keys values
values_end keys values i old text e end =
    let none : values_text (drop i keys) (drop i values) ≡ [] = ap (values_text (drop i keys)) (drop_all i values end) ∙ no_values (drop i keys) in
    sym (append-nil text) ∙ (ap (λ t. text ++ t) (sym none) ∙ e)

-- one more value, of which something is put, as a text or a label
pub values_more : {X : Type 0} (one : Key → Option ℕ → List X) (all : List Key → List (Option ℕ) → List X)
    → ((key : Key) (keys : List Key) (value : Option ℕ) (values : List (Option ℕ)) → all (key ∷ keys) (value ∷ values) ≡ one key value ++ all keys values)
    → (keys : List Key) (values : List (Option ℕ)) (i : ℕ) (d : Key) (old put whole : List X) → i < length keys → i < length values
    → put ≡ old ++ one (get_or keys i d) (get_or values i None) → old ++ all (drop i keys) (drop i values) ≡ whole
    → put ++ all (drop (i + 1) keys) (drop (i + 1) values) ≡ whole
values_more one all step keys values i d old put whole lt lt' e so_far =
    let value = one (get_or keys i d) (get_or values i None) in
    let rest = all (drop (i + 1) keys) (drop (i + 1) values) in
    let here : all (drop i keys) (drop i values) ≡ value ++ rest = rw (drop_more keys i d lt, drop_more values i None lt') (step _ _ _ _) in
    ap (λ xs. xs ++ rest) e ∙ append_assoc old value rest ∙ ap (λ xs. old ++ xs) (sym here) ∙ so_far

no_labels : (keys : List Key) → values_labels keys [] ≡ []
no_labels [] = refl
no_labels (key ∷ keys) = refl

-- where the values are at their end there are no more labels
pub labels_end : (keys : List Key) (values : List (Option ℕ)) (i : ℕ) (old line : List LabelFacts)
    → line ++ values_labels (drop i keys) (drop i values) ≡ old ++ values_labels keys values → length values ≤ i → line ≡ old ++ values_labels keys values
labels_end keys values i old line e end =
    let none : values_labels (drop i keys) (drop i values) ≡ [] = ap (values_labels (drop i keys)) (drop_all i values end) ∙ no_labels (drop i keys) in
    sym (append-nil line) ∙ (ap (λ l. line ++ l) (sym none) ∙ e)

-- one more label, and what parts it from those behind it
pub label_more : (utf8 : Bool) (wide : List ℕ) (i : ℕ) (labels : List LabelFacts) (d : LabelFacts) (old put text whole : List ℕ) → i < length labels
    → put ≡ old ++ padded_label utf8 (slice_index_or wide i 0) (get_or labels i d) → text ≡ put ++ gap (drop (i + 1) labels)
    → old ++ labels_text utf8 wide i (drop i labels) ≡ whole → text ++ labels_text utf8 wide (i + 1) (drop (i + 1) labels) ≡ whole
label_more utf8 wide i labels d old put text whole lt e e' so_far =
    let label = padded_label utf8 (slice_index_or wide i 0) (get_or labels i d) in
    let part = gap (drop (i + 1) labels) in
    let rest = labels_text utf8 wide (i + 1) (drop (i + 1) labels) in
    let here : labels_text utf8 wide i (drop i labels) ≡ label ++ (part ++ rest) = rw (drop_more labels i d lt) refl in
    let first : text ≡ (old ++ label) ++ part = e' ∙ ap (λ xs. xs ++ part) e in
    ap (λ xs. xs ++ rest) first ∙ append_assoc (old ++ label) part rest ∙ append_assoc old label (part ++ rest) ∙ ap (λ xs. old ++ xs) (sym here) ∙ so_far
