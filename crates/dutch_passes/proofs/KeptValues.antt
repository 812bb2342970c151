-- The values that are kept stay those of their lists, and the list that was used goes first.
use Rattle.std.proofs.Common.{◌≡◌, ℕ, ◌-◌, ◌≤◌, Bool, true, false, cond, if◌then◌else◌, List, [], ◌∷◌, length, take, Option, Some, None, is_some, Contains, ◌⊎◌, inl, inr, refl, sym, ap, ◌∙◌, nat_eq, subst, arith}
use Rattle.std.specs.Cmp.Lexicographic.{pointwise}
use Rattle.std.specs.Map.{lookup, lookup_entry, remove_entry}
use Rattle.std.specs.Option.{option_map_or}
use Rattle.std.proofs.lemmas.Bool.{true≢false}
use Rattle.std.proofs.lemmas.List.{take-map}
use Rattle.arrayvec.specs.ArrayVec.{ArrayVec}
use Rattle.lru.specs.LruCache.{LruCache, lru_cache, promoted, put_entries}
use Rattle.lru.proofs.CallerLemmas.{Contains-lookup_entry, Contains-lookup, Contains-promoted, Contains-put_entries}
use Rattle.dutch_arrangements.specs.Prelude.{is_same}
use Rattle.dutch_sequence.specs.declared.numbers.TheConstants.{LIMIT}
use Rattle.dutch_sequence.proofs.FromOn.{is_same-true}
use Rattle.dutch_player.specs.Prelude.{Facts}
use Rattle.dutch_bracket.specs.Prelude.{AreLeft, Reached, NextValue}
use Rattle.dutch_bracket.proofs.NextBrackets.{down_short}
use Rattle.dutch_passes.specs.Prelude.{Remembered, AreValues, IsUsed, Recalls, value_below, is_kept, others, with_used, lists_kept, is_key}

-- an entry of the cache
abbrev Kept : Type 0
Kept = ArrayVec ℕ × NextValue

abbrev Values : Type 0
Values = LruCache (ArrayVec ℕ) NextValue

key_same : (xs ys : List ℕ) → pointwise nat_eq xs ys ≡ is_same xs ys
key_same [] [] = refl
key_same [] (y ∷ ys) = refl
key_same (x ∷ xs) [] = refl
key_same (x ∷ xs) (y ∷ ys) = grind (arith, key_same xs ys)

module _ (d : ArrayVec ℕ) where
  key_is : (k : ArrayVec ℕ) → is_key d k ≡ true → d.items ≡ k.items
  key_is k is = is_same-true d.items k.items (sym (key_same d.items k.items) ∙ is)

  found_kept : (es : List Kept) → is_some (lookup (is_key d) es) ≡ is_kept d.items (lists_kept es)
  found_kept [] = refl
  found_kept (e ∷ es) = grind (arith, found_kept es, key_same d.items e.0.items)

  entry_kept : (es : List Kept) → is_some (lookup_entry (is_key d) es) ≡ is_kept d.items (lists_kept es)
  entry_kept [] = refl
  entry_kept (e ∷ es) = grind (arith, entry_kept es, key_same d.items e.0.items)

  removed : (es : List Kept) → lists_kept (remove_entry (is_key d) es) ≡ others d.items (lists_kept es)
  removed [] = refl
  removed (e ∷ es) = grind (arith, removed es, key_same d.items e.0.items)

  used_as : (kept : List (List ℕ)) (t : Bool) → is_kept d.items kept ≡ t → with_used d.items kept ≡ d.items ∷ cond t (others d.items kept) (take 63 kept)
  used_as kept t e = ap (λ t. d.items ∷ cond t (others d.items kept) (take 63 kept)) e

  promoted_at : (es : List Kept) (o : Option Kept) → is_some o ≡ true → ((k : Kept) → o ≡ Some k → k.0.items ≡ d.items)
      → lists_kept (option_map_or (λ e. e ∷ remove_entry (is_key d) es) o es) ≡ d.items ∷ others d.items (lists_kept es)
  promoted_at es None some key = grind arith
  promoted_at es (Some k) some key = grind (arith, removed es, key k refl)

  -- a list that is kept goes first when it is used
  promoted_kept : (es : List Kept) (v : NextValue) → lookup (is_key d) es ≡ Some v → lists_kept (promoted (is_key d) es) ≡ with_used d.items (lists_kept es)
  promoted_kept es v h =
      let kept : is_kept d.items (lists_kept es) ≡ true = sym (found_kept es) ∙ ap (λ o. is_some o) h in
      promoted_at es (lookup_entry (is_key d) es) (entry_kept es ∙ kept) (λ k found. sym (key_is k.0 (Contains-lookup_entry (is_key d) es k found).1))
      ∙ sym (used_as (lists_kept es) true kept)

  -- where none is found the list is not kept
  none_kept : (es : List Kept) → lookup (is_key d) es ≡ None → is_kept d.items (lists_kept es) ≡ false
  none_kept es h = sym (found_kept es) ∙ ap (λ o. is_some o) h

  none_at : {X : Type 0} (f : Kept → X) (x : X) (o : Option Kept) → is_some o ≡ false → option_map_or f o x ≡ x
  none_at f x o none = grind arith

  -- and all stays as it was
  none_promoted : (es : List Kept) → lookup (is_key d) es ≡ None → promoted (is_key d) es ≡ es
  none_promoted es h = none_at (λ e. e ∷ remove_entry (is_key d) es) es (lookup_entry (is_key d) es) (entry_kept es ∙ none_kept es h)

  -- a new list goes first, and pushes out the last of 64
  put_kept : (c : Values) (v : NextValue) → c.cap ≡ 64 → is_kept d.items (lists_kept c.entries) ≡ false
      → lists_kept (put_entries is_key c d v) ≡ with_used d.items (lists_kept c.entries)
  put_kept c v most none =
      ap (λ l. lists_kept l)
      (none_at (λ e. (e.0, v) ∷ remove_entry (is_key d) c.entries) ((d, v) ∷ take (c.cap - 1) c.entries) (lookup_entry (is_key d) c.entries) (entry_kept c.entries ∙ none))
      ∙ ap (λ n. d.items ∷ lists_kept (take (n - 1) c.entries)) most ∙ ap (λ l. d.items ∷ l) (sym (take-map (λ e. e.0.items) 63 c.entries))
      ∙ sym (used_as (lists_kept c.entries) false none)

  module _ (facts : Facts) (reached : Reached) (next : List ℕ) (c : Values) (are : AreValues facts reached next c) (short : Bool) where
    -- a look-ahead with such values
    abbrev seen : Values → Bool → Remembered
    seen values is_short =
        record { facts = facts; reached = reached; next = next; kept = lists_kept values.entries; is_short = is_short }

    -- a value that is found is that of the list
    found_value : (v : NextValue) → lookup (is_key d) c.entries ≡ Some v → v ≡ value_below facts reached next d.items
    found_value v h =
        let on = Contains-lookup (is_key d) c.entries v h in
        are.each (on.0, v) on.1 ∙ ap (value_below facts reached next) (sym (key_is on.0 on.2))

    with_entries : (values : Values) → values.cap ≡ 64 → ((e : Kept) → Contains values.entries e → e.1 ≡ value_below facts reached next e.0.items)
        → AreValues facts reached next values
    with_entries values most each =
        record { bracket = are.bracket; ordinary = are.ordinary; next_below = are.next_below; most = most; each = each }

    -- values that were used again
    pub promoted_values : AreValues facts reached next (lru_cache (promoted (is_key d) c.entries) c.cap)
    promoted_values = with_entries _ are.most (λ e on. are.each e (Contains-promoted (is_key d) c.entries e on))

    put_each : (v : NextValue) → v ≡ value_below facts reached next d.items → (e : Kept) → Contains (put_entries is_key c d v) e → e.1 ≡ value_below facts reached next e.0.items
    put_each v right e on =
        elim (Contains-put_entries is_key c d v e on) [
          | inl was ↦ are.each e was
          | inr is ↦ elim is.1 [
            | inl key ↦ is.0 ∙ right ∙ ap (λ k. value_below facts reached next k.items) (sym key)
            | inr old ↦ is.0 ∙ right ∙ ap (value_below facts reached next) (key_is e.0 old.2)
          ]
        ]

    -- a value was put, or memory was refused
    abbrev Keeps : NextValue → Values → Bool → Type 0
    Keeps v new is_short = ((new ≡ lru_cache (put_entries is_key c d v) c.cap) × (is_short ≡ short)) ⊎ ((new ≡ c) × (is_short ≡ true))

    -- then the values are right
    pub values_after : (v : NextValue) (new : Values) (is_short : Bool) → v ≡ value_below facts reached next d.items → Keeps v new is_short → AreValues facts reached next new
    values_after v new is_short right (inl put) = subst (AreValues facts reached next) (sym put.0) (with_entries _ are.most (put_each v right))
    values_after v new is_short right (inr same) = subst (AreValues facts reached next) (sym same.0) are

    -- and the list was used
    used_after : (v : NextValue) (new : Values) (is_short : Bool) → is_kept d.items (lists_kept c.entries) ≡ false → Keeps v new is_short
        → IsUsed d.items (seen c short) (seen new is_short)
    used_after v new is_short none (inl put) =
        inl (ap (λ k. seen k is_short) put.0 ∙ ap (seen (lru_cache (put_entries is_key c d v) c.cap)) put.1
        ∙ ap (λ l. record { facts = facts; reached = reached; next = next; kept = l; is_short = short }) (put_kept c v are.most none))
    used_after v new is_short none (inr same) = inr (none, ap (λ k. seen k is_short) same.0 ∙ ap (seen c) same.1)

    pub list_used : (v : NextValue) (new : Values) (is_short : Bool) (down : List ℕ) (old : Remembered) → d.items ≡ down → seen c short ≡ old → is_kept down old.kept ≡ false
        → Keeps v new is_short → IsUsed down old (seen new is_short)
    list_used v new is_short down old same is none keeps =
        subst (λ r. IsUsed down r (seen new is_short)) is (subst (λ xs. IsUsed xs (seen c short) (seen new is_short)) same
        (used_after v new is_short (ap (λ xs. is_kept xs (lists_kept c.entries)) same ∙ ap (λ (r : Remembered). is_kept down r.kept) is ∙ none) keeps))

    remembered : (found : Bool) (v : NextValue) → lookup (is_key d) c.entries ≡ (if found then Some v else None)
        → Recalls found v d.items (seen c short) (seen (lru_cache (promoted (is_key d) c.entries) c.cap) short)
    remembered true v h = record {
      value_is = λ is. found_value v h;
      used = λ is. ap (λ l. record { facts = facts; reached = reached; next = next; kept = l; is_short = short }) (promoted_kept c.entries v h);
      none = λ no. absurd (true≢false no);
      unused = λ no. absurd (true≢false no);
    }
    remembered false v h = record {
      value_is = λ is. absurd (true≢false (sym is));
      used = λ is. absurd (true≢false (sym is));
      none = λ no. none_kept c.entries h;
      unused = λ no. ap (λ es. record { facts = facts; reached = reached; next = next; kept = lists_kept es; is_short = short }) (none_promoted c.entries h);
    }

    -- whether a value is kept, where the list has become a key
    pub recalls : (down : List ℕ) (found : Bool) (v : NextValue) (new : Values) (old : Remembered) → d.items ≡ down → lookup (is_key d) c.entries ≡ (if found then Some v else None)
        → new ≡ lru_cache (promoted (is_key d) c.entries) c.cap → seen c short ≡ old → Recalls found v down old (seen new short)
    recalls down found v new old same h after is =
        subst (λ r. Recalls found v down r (seen new short)) is (subst (λ xs. Recalls found v xs (seen c short) (seen new short)) same
        (subst (λ k. Recalls found v d.items (seen c short) (seen k short)) (sym after) (remembered found v h)))

-- so few are left over that they fit in a key
pub few_left : (facts : Facts) (reached : Reached) (next down : List ℕ) (c : Values) → AreValues facts reached next c → AreLeft reached down → length down ≤ LIMIT
few_left facts reached next down c are left =
    omega (arith, down_short facts reached down next are.bracket left are.next_below, are.next_below.few)
