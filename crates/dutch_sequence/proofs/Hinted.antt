-- What a search finds that begins at a path: what the same search finds without it, but for what is before that path.
use Rattle.std.proofs.Common.{◌≡◌, ℕ, zero, suc, ◌≤◌, Bool, true, false, not, List, [], ◌∷◌, ◌++◌, length, refl, sym, ◌∙◌, ap, append_assoc, arith, subst, inl, inr, ◌==◌, if◌then◌else◌, Some, None}
use Rattle.std.specs.List.{filter}
use Rattle.std.proofs.lemmas.List.{append-nil}
use Rattle.std.proofs.lemmas.Bool.{cases_order, eq-eqb, ne_eqb, true≢false, not_from_false, not-true}
use Rattle.dutch_sequence.specs.Prelude.{Plan, entry, below, ahead, hits, hint_after, number_or, hinted, first_hint, Walked, IsIn}
use Rattle.dutch_sequence.proofs.HalfWalks.{Admitted}
use Rattle.dutch_sequence.proofs.Found.{found, ahead-new}
use Rattle.dutch_sequence.proofs.FoundPaths.{found-admitted, admitted-found, found-ascends}
use Rattle.dutch_sequence.proofs.Orders.{is_before-lower, is_before-equal, is_before-asymmetric, Ascends-filter, Ascends-unique, IsIn-filter, filter-IsIn}
use Rattle.dutch_sequence.proofs.ByKeys.{is_before}

-- the number after a beginning of the path
pub hint-on : (beginning : List ℕ) (x : ℕ) (rest : List ℕ) → hint_after (beginning ++ x ∷ rest) beginning ≡ Some x
hint-on [] x rest = refl
hint-on (b ∷ beginning) x rest =
    ap (λ same. if same then hint_after (beginning ++ x ∷ rest) beginning else None) (eq-eqb b b refl) ∙ hint-on beginning x rest

-- there is none after another number
pub hint-off : (beginning : List ℕ) (x y : ℕ) (rest path : List ℕ) → (x ≡ y → ⊥) → hint_after (beginning ++ x ∷ rest) (beginning ++ y ∷ path) ≡ None
hint-off [] x y rest path apart = ap (λ same. if same then hint_after rest path else None) (ne_eqb x y apart)
hint-off (b ∷ beginning) x y rest path apart =
    ap (λ same. if same then hint_after (beginning ++ x ∷ rest) (beginning ++ y ∷ path) else None) (eq-eqb b b refl) ∙ hint-off beginning x y rest path apart

-- a beginning that the path does not have
abbrev pub IsOff : List ℕ → List ℕ → Type 0
IsOff hint beginning = (path : List ℕ) → hint_after hint (beginning ++ path) ≡ None

off-on : (hint beginning : List ℕ) (x : ℕ) → IsOff hint beginning → IsOff hint (beginning ++ x ∷ [])
off-on hint beginning x off = λ path. ap (hint_after hint) (append_assoc beginning (x ∷ []) path) ∙ off (x ∷ path)

off-here : (hint beginning : List ℕ) → IsOff hint beginning → hint_after hint beginning ≡ None
off-here hint beginning off = ap (hint_after hint) (sym (append-nil beginning)) ∙ off []

off-from : (beginning : List ℕ) (x y : ℕ) (rest : List ℕ) → (x ≡ y → ⊥) → IsOff (beginning ++ x ∷ rest) (beginning ++ y ∷ [])
off-from beginning x y rest apart = λ path. ap (hint_after (beginning ++ x ∷ rest)) (append_assoc beginning (y ∷ []) path) ∙ hint-off beginning x y rest path apart

-- each number of a path is no lower than the first that its place tries
abbrev pub Reaches : Plan → List ℕ → List ℕ → Type 0
Reaches plan beginning [] = Unit {0}
Reaches plan beginning (x ∷ path) = (plan.start beginning ≤ x) × Reaches plan (beginning ++ x ∷ []) path

module _ (plan : Plan) where
  -- off the path all is as it was
  off-admitted : (hint : List ℕ) (open_places : ℕ) (beginning path : List ℕ) → IsOff hint beginning → Admitted (hinted hint plan) open_places beginning path → Admitted plan open_places beginning path
  off-admitted hint zero beginning path off admitted = admitted
  off-admitted hint (suc open_places) beginning [] off admitted = admitted
  off-admitted hint (suc open_places) beginning (y ∷ path) off admitted = (
    subst (λ told. number_or told (plan.start beginning) ≤ y) (off-here hint beginning off) admitted.0,
    admitted.1,
    admitted.2,
    off-admitted hint open_places (beginning ++ y ∷ []) path (off-on hint beginning y off) admitted.3,
  )

  admitted-off : (hint : List ℕ) (open_places : ℕ) (beginning path : List ℕ) → IsOff hint beginning → Admitted plan open_places beginning path → Admitted (hinted hint plan) open_places beginning path
  admitted-off hint zero beginning path off admitted = admitted
  admitted-off hint (suc open_places) beginning [] off admitted = admitted
  admitted-off hint (suc open_places) beginning (y ∷ path) off admitted = (
    subst (λ told. number_or told (plan.start beginning) ≤ y) (sym (off-here hint beginning off)) admitted.0,
    admitted.1,
    admitted.2,
    admitted-off hint open_places (beginning ++ y ∷ []) path (off-on hint beginning y off) admitted.3,
  )

  -- what is admitted from the path on is what is admitted and not before it
  from-admitted : (open_places : ℕ) (beginning rest path : List ℕ) → length rest ≡ open_places → Reaches plan beginning rest → Admitted (hinted (beginning ++ rest) plan) open_places beginning path → Admitted plan open_places beginning path × (is_before path rest ≡ false)
  from-admitted zero beginning [] path whole reaches admitted = (admitted, ap (λ p. is_before p []) admitted)
  from-admitted zero beginning (x ∷ rest) path whole reaches admitted = absurd (omega arith)
  from-admitted (suc open_places) beginning [] path whole reaches admitted = absurd (omega arith)
  from-admitted (suc open_places) beginning (x ∷ rest) [] whole reaches admitted = absurd admitted
  from-admitted (suc open_places) beginning (x ∷ rest) (y ∷ path) whole reaches admitted =
      let low : x ≤ y = subst (λ told. number_or told (plan.start beginning) ≤ y) (hint-on beginning x rest) admitted.0 in
      elim (cases_order x y) [
        | inl same ↦
            let deeper : Admitted (hinted ((beginning ++ x ∷ []) ++ rest) plan) open_places (beginning ++ x ∷ []) path =
            subst (λ hint. Admitted (hinted hint plan) open_places (beginning ++ x ∷ []) path) (sym (append_assoc beginning (x ∷ []) rest))
            (subst (λ z. Admitted (hinted (beginning ++ x ∷ rest) plan) open_places (beginning ++ z ∷ []) path) (sym same) admitted.3) in
            let later = from-admitted open_places (beginning ++ x ∷ []) rest path (omega arith) reaches.1 deeper in (
              (omega (arith, reaches.0), admitted.1, admitted.2, subst (λ z. Admitted plan open_places (beginning ++ z ∷ []) path) same later.0),
              subst (λ z. is_before (z ∷ path) (x ∷ rest) ≡ false) same (is_before-equal x path rest ∙ later.1),
            )
        | inr (inl below') ↦ (
          (omega (arith, reaches.0), admitted.1, admitted.2, off-admitted (beginning ++ x ∷ rest) open_places (beginning ++ y ∷ []) path (off-from beginning x y rest (λ e. omega (arith, below'))) admitted.3),
          is_before-asymmetric (x ∷ rest) (y ∷ path) (is_before-lower x y rest path below'),
        )
        | inr (inr above) ↦ absurd (omega (arith, low, above))
      ]

  admitted-from : (open_places : ℕ) (beginning rest path : List ℕ) → length rest ≡ open_places → Admitted plan open_places beginning path → is_before path rest ≡ false → Admitted (hinted (beginning ++ rest) plan) open_places beginning path
  admitted-from zero beginning [] path whole admitted late = admitted
  admitted-from zero beginning (x ∷ rest) path whole admitted late = absurd (omega arith)
  admitted-from (suc open_places) beginning [] path whole admitted late = absurd (omega arith)
  admitted-from (suc open_places) beginning (x ∷ rest) [] whole admitted late = absurd admitted
  admitted-from (suc open_places) beginning (x ∷ rest) (y ∷ path) whole admitted late =
      let from : x ≤ y → (hinted (beginning ++ x ∷ rest) plan).start beginning ≤ y = λ low. subst (λ told. number_or told (plan.start beginning) ≤ y) (sym (hint-on beginning x rest)) low in
      elim (cases_order x y) [
        | inl same ↦
            let later : is_before path rest ≡ false = sym (is_before-equal x path rest) ∙ subst (λ z. is_before (z ∷ path) (x ∷ rest) ≡ false) (sym same) late in
            let deeper : Admitted (hinted ((beginning ++ x ∷ []) ++ rest) plan) open_places (beginning ++ x ∷ []) path =
            admitted-from open_places (beginning ++ x ∷ []) rest path (omega arith) (subst (λ z. Admitted plan open_places (beginning ++ z ∷ []) path) (sym same) admitted.3) later in (
              from (omega arith),
              admitted.1,
              admitted.2,
              subst (λ z. Admitted (hinted (beginning ++ x ∷ rest) plan) open_places (beginning ++ z ∷ []) path) same
                  (subst (λ hint. Admitted (hinted hint plan) open_places (beginning ++ x ∷ []) path) (append_assoc beginning (x ∷ []) rest) deeper),
            )
        | inr (inl below') ↦ (
          from (omega (arith, below')),
          admitted.1,
          admitted.2,
          admitted-off (beginning ++ x ∷ rest) open_places (beginning ++ y ∷ []) path (off-from beginning x y rest (λ e. omega (arith, below'))) admitted.3,
        )
        | inr (inr above) ↦ absurd (true≢false (sym (is_before-lower y x path rest above) ∙ late))
      ]

  -- so it finds what is not before the path
  pub hinted-found : (hint : List ℕ) → Reaches plan [] hint → found (hinted hint plan) (length hint) [] ≡ filter (λ path. not (is_before path hint)) (found plan (length hint) [])
  hinted-found hint reaches =
      let n : ℕ = length hint in
      let late : List ℕ → Bool = λ path. not (is_before path hint) in
      Ascends-unique (λ path. path) (found (hinted hint plan) n []) (filter late (found plan n []))
      (found-ascends (hinted hint plan) n [])
      (Ascends-filter (λ path. path) late (found plan n []) (found-ascends plan n []))
      (λ c m.
      let one = found-admitted (hinted hint plan) n [] c m in
      let both = from-admitted n [] hint one.0 refl reaches one.2 in
      filter-IsIn late c (found plan n []) (subst (λ c. IsIn c (found plan n [])) (sym one.1) (admitted-found plan n [] one.0 both.0))
      (ap late one.1 ∙ not_from_false (is_before one.0 hint) both.1))
      (λ c m.
      let kept = IsIn-filter late c (found plan n []) m in
      let one = found-admitted plan n [] c kept.0 in
      subst (λ c. IsIn c (found (hinted hint plan) n [])) (sym one.1)
      (admitted-found (hinted hint plan) n [] one.0
      (admitted-from n [] hint one.0 refl one.2 (ap (λ p. is_before p hint) (sym one.1) ∙ not-true (is_before c hint) kept.1))))

  first-is : (open_places : ℕ) (hint : List ℕ) → length hint ≡ open_places → entry (hinted hint plan) open_places [] ≡ first_hint hint
  first-is zero [] same = refl
  first-is zero (x ∷ hint) same = absurd (omega arith)
  first-is (suc open_places) [] same = absurd (omega arith)
  first-is (suc open_places) (x ∷ hint) same = refl

  -- all is before it, from the first number on that it tries
  pub hinted-ahead : (hint : List ℕ) → plan.places ≡ length hint → ahead (hinted hint plan) [] (first_hint hint) ≡ below (hinted hint plan) plan.places [] (entry (hinted hint plan) plan.places [])
  hinted-ahead hint whole =
      ap (ahead (hinted hint plan) []) (sym (first-is plan.places hint (sym whole))) ∙ ahead-new (hinted hint plan)

  pub hinted-hits : (hint : List ℕ) → plan.places ≡ length hint → Reaches plan [] hint → hits (ahead (hinted hint plan) [] (first_hint hint)) ≡ filter (λ path. not (is_before path hint)) (found plan plan.places [])
  hinted-hits hint whole reaches =
      ap hits (hinted-ahead hint whole)
      ∙ ap (λ n. found (hinted hint plan) n []) whole
      ∙ hinted-found hint reaches
      ∙ ap (λ n. filter (λ path. not (is_before path hint)) (found plan n [])) (sym whole)

-- a path that is no shorter has none
pub hint-short : (hint path : List ℕ) → length hint ≤ length path → hint_after hint path ≡ None
hint-short [] path short = refl
hint-short (x ∷ hint) [] short = absurd (omega arith)
hint-short (x ∷ hint) (y ∷ path) short =
    elim (x == y) as (λ same. (if same then hint_after hint path else None) ≡ None) [
      | true ↦ hint-short hint path (omega arith)
      | false ↦ refl
    ]

-- where such a search has walked, the search has walked without the path
pub Walked-hinted : (hint : List ℕ) (plan : Plan) (beginning path : List ℕ) → Walked (hinted hint plan) beginning path → Walked plan beginning path
Walked-hinted hint plan beginning [] walked = tt
Walked-hinted hint plan beginning (x ∷ path) walked = (walked.0, walked.1, Walked-hinted hint plan (beginning ++ x ∷ []) path walked.2)
