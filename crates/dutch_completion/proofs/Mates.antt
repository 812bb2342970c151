-- Who is paired out with whom, as a map of each player to a mate; whoever is left out is their own mate.
use Rattle.std.proofs.Common.{◌≡◌, ℕ, zero, suc, ◌≤◌, Bool, true, ◌==◌, cond, List, [], ◌∷◌, ◌++◌, length, refl, sym, ap, ◌∙◌, arith, subst, inl, inr, ◌⊎◌}
use Rattle.std.proofs.lemmas.List.{length-append}
use Rattle.std.proofs.lemmas.Bool.{cases_eq, eq-eqb, ne_eqb}
use Rattle.dutch_arrangements.specs.Prelude.{IsIn, NoneTwice}
use Rattle.dutch_sequence.proofs.Orders.{IsIn-append, IsIn-front, IsIn-back}
use Rattle.dutch_arrangements.proofs.NoneTwice.{twice-back, twice-apart}
use Rattle.dutch_bracket.specs.Completion.{Covers, MayBeLeftOut, Completable}
use Rattle.dutch_bracket.specs.Prelude.{nobody}
use Rattle.dutch_completion.proofs.Covering.{with_left, with_pair}

-- ---- a member among others

pub middle-in : (z u : ℕ) (front behind : List ℕ) → IsIn z (front ++ u ∷ behind) → (z ≡ u) ⊎ IsIn z (front ++ behind)
middle-in z u [] behind m = m
middle-in z u (x ∷ front) behind (inl same) = inr (inl same)
middle-in z u (x ∷ front) behind (inr m) = elim (middle-in z u front behind m) [ inl here ↦ inl here | inr other ↦ inr (inr other) ]

pub in-middle : (z u : ℕ) (front behind : List ℕ) → (z ≡ u) ⊎ IsIn z (front ++ behind) → IsIn z (front ++ u ∷ behind)
in-middle z u [] behind m = m
in-middle z u (x ∷ front) behind (inl same) = inr (in-middle z u front behind (inl same))
in-middle z u (x ∷ front) behind (inr (inl same)) = inl same
in-middle z u (x ∷ front) behind (inr (inr m)) = inr (in-middle z u front behind (inr m))

pub twice-middle : (u : ℕ) (front behind : List ℕ) → NoneTwice (front ++ u ∷ behind) → (IsIn u (front ++ behind) → ⊥) × NoneTwice (front ++ behind)
twice-middle u [] behind h = h
twice-middle u (x ∷ front) behind h =
    let rest = twice-middle u front behind h.1 in (
      λ m. elim m [ inl same ↦ h.0 (in-middle x u front behind (inl (sym same))) | inr later ↦ rest.0 later ],
      (λ m. h.0 (in-middle x u front behind (inr m)), rest.1),
    )

-- where a member stands
record Stands (z : ℕ) (zs : List ℕ) : Type 0 where
  front : List ℕ
  behind : List ℕ
  parts : zs ≡ front ++ z ∷ behind

stands : (z : ℕ) (zs : List ℕ) → IsIn z zs → Stands z zs
stands z [] m = absurd m
stands z (x ∷ zs) (inl same) = record { front = []; behind = zs; parts = ap (λ y. y ∷ zs) (sym same) }
stands z (x ∷ zs) (inr m) = let later = stands z zs m in record { front = x ∷ later.front; behind = later.behind; parts = ap (λ ys. x ∷ ys) later.parts }

-- ---- mates

module _ (meets : ℕ → ℕ → Bool) where
  -- each of some players has a mate among them, is the mate of that one, and may meet them; at most one is their own mate, and may be
  -- left out
  pub record AreMates (may_be_left : ℕ → Bool) (players : List ℕ) (mate : ℕ → ℕ) : Type 0 where
    pub inside : (a : ℕ) → IsIn a players → IsIn (mate a) players
    pub back : (a : ℕ) → IsIn a players → mate (mate a) ≡ a
    pub met : (a : ℕ) → IsIn a players → (mate a ≡ a → ⊥) → meets a (mate a) ≡ true
    pub one : (a b : ℕ) → IsIn a players → IsIn b players → mate a ≡ a → mate b ≡ b → a ≡ b
    pub left : (a : ℕ) → IsIn a players → mate a ≡ a → may_be_left a ≡ true

  -- some players with whom their mates are
  pub fewer_mates : (may_be_left allowed : ℕ → Bool) (players few : List ℕ) (mate : ℕ → ℕ) → AreMates may_be_left players mate → ((a : ℕ) → IsIn a few → IsIn a players)
      → ((a : ℕ) → IsIn a few → IsIn (mate a) few) → ((a : ℕ) → IsIn a few → mate a ≡ a → allowed a ≡ true) → AreMates allowed few mate
  fewer_mates may_be_left allowed players few mate are among closed left = record {
    inside = closed;
    back = λ a m. are.back a (among a m);
    met = λ a m. are.met a (among a m);
    one = λ a b m n. are.one a b (among a m) (among b n);
    left = left;
  }

  -- the first of some players is their own mate
  first_left : (may_be_left : ℕ → Bool) (mate : ℕ → ℕ) (a : ℕ) (later : List ℕ) → NoneTwice (a ∷ later) → AreMates may_be_left (a ∷ later) mate → mate a ≡ a → AreMates nobody later mate
  first_left may_be_left mate a later twice are alone =
      fewer_mates may_be_left nobody (a ∷ later) later mate are (λ b m. inr m)
      (λ b m. elim (are.inside b (inr m)) [
        | inl same ↦
            let own : b ≡ a = sym (are.back b (inr m)) ∙ ap mate same ∙ alone in absurd (twice.0 (subst (λ c. IsIn c later) own m))
        | inr other ↦ other
      ])
      (λ b m same. let own : b ≡ a = are.one b a (inr m) (inl refl) same alone in absurd (twice.0 (subst (λ c. IsIn c later) own m)))

  -- the first of some players has a mate further back
  first_paired : (may_be_left : ℕ → Bool) (mate : ℕ → ℕ) (a : ℕ) (front behind : List ℕ) → NoneTwice (a ∷ (front ++ mate a ∷ behind)) → AreMates may_be_left (a ∷ (front ++ mate a ∷ behind)) mate
      → AreMates may_be_left (front ++ behind) mate
  first_paired may_be_left mate a front behind twice are =
      let later = front ++ mate a ∷ behind in
      let whole = a ∷ later in
      let off = twice-middle (mate a) front behind twice.1 in
      let among : (b : ℕ) → IsIn b (front ++ behind) → IsIn b whole = λ b m. inr (in-middle b (mate a) front behind (inr m)) in
      fewer_mates may_be_left may_be_left whole (front ++ behind) mate are among
      (λ b m. elim (are.inside b (among b m)) [
        | inl same ↦
            let own : b ≡ mate a = sym (are.back b (among b m)) ∙ ap mate same in absurd (off.0 (subst (λ c. IsIn c (front ++ behind)) own m))
        | inr other ↦ elim (middle-in (mate b) (mate a) front behind other) [
          | inl same ↦
              let own : b ≡ a = sym (are.back b (among b m)) ∙ ap mate same ∙ are.back a (inl refl) in
              absurd (twice.0 (subst (λ c. IsIn c later) own (in-middle b (mate a) front behind (inr m))))
          | inr rest ↦ rest
        ]
      ])
      (λ b m. are.left b (among b m))

  mates_upto : (n : ℕ) (may_be_left : ℕ → Bool) (players : List ℕ) (mate : ℕ → ℕ) → length players ≤ n → NoneTwice players → AreMates may_be_left players mate → Completable meets may_be_left players
  mates_upto n may_be_left [] mate few twice are = record { pairs = []; out = []; covered = refl; left_out = tt {0} }
  mates_upto zero may_be_left (a ∷ later) mate few twice are = absurd (omega (arith, few))
  mates_upto (suc n) may_be_left (a ∷ later) mate few twice are =
      elim (are.inside a (inl refl)) [
        | inl alone ↦
            with_left meets may_be_left a later (are.left a (inl refl) alone)
            (mates_upto n nobody later mate (omega (arith, few)) twice.1 (first_left may_be_left mate a later twice are alone))
        | inr other ↦
            let place = stands (mate a) later other in
            let front = place.front in
            let behind = place.behind in
            let whole : a ∷ later ≡ a ∷ (front ++ mate a ∷ behind) = ap (λ xs. a ∷ xs) place.parts in
            let twice' = subst NoneTwice whole twice in
            with_pair meets may_be_left a later (mate a) front behind place.parts (are.met a (inl refl) (λ e. twice.0 (subst (λ c. IsIn c later) e other)))
            (mates_upto n may_be_left (front ++ behind) mate
            (omega (arith, few, ap length place.parts, length-append front (mate a ∷ behind), length-append front behind))
            (twice-middle (mate a) front behind twice'.1).1
            (first_paired may_be_left mate a front behind twice' (subst (λ xs. AreMates may_be_left xs mate) whole are)))
      ]

  -- players with mates can be paired out
  pub mates_complete : (may_be_left : ℕ → Bool) (players : List ℕ) (mate : ℕ → ℕ) → NoneTwice players → AreMates may_be_left players mate → Completable meets may_be_left players
  mates_complete may_be_left players mate = mates_upto (length players) may_be_left players mate (omega arith)

  -- ---- the mates of a list of pairs

  -- two are mates of each other, and the others have the mates they had
  abbrev pub swapped : ℕ → ℕ → (ℕ → ℕ) → ℕ → ℕ
  swapped u v mate a = cond (a == u) v (cond (a == v) u (mate a))

  swapped_first : (u v : ℕ) (mate : ℕ → ℕ) → swapped u v mate u ≡ v
  swapped_first u v mate = ap (λ t. cond t v (cond (u == v) u (mate u))) (eq-eqb u u refl)

  swapped_second : (u v : ℕ) (mate : ℕ → ℕ) → (u ≡ v → ⊥) → swapped u v mate v ≡ u
  swapped_second u v mate apart =
      ap (λ t. cond t v (cond (v == v) u (mate v))) (ne_eqb v u (λ e. apart (sym e))) ∙ ap (λ t. cond t u (mate v)) (eq-eqb v v refl)

  swapped_other : (u v : ℕ) (mate : ℕ → ℕ) (a : ℕ) → (a ≡ u → ⊥) → (a ≡ v → ⊥) → swapped u v mate a ≡ mate a
  swapped_other u v mate a off off' =
      ap (λ t. cond t v (cond (a == v) u (mate a))) (ne_eqb a u off) ∙ ap (λ t. cond t u (mate a)) (ne_eqb a v off')

  -- the mates of players whom a list of pairs covers
  record Mated (players out : List ℕ) (mate : ℕ → ℕ) : Type 0 where
    inside : (a : ℕ) → IsIn a players → IsIn (mate a) players
    outside : (a : ℕ) → (IsIn a players → ⊥) → mate a ≡ a
    back : (a : ℕ) → mate (mate a) ≡ a
    met : (a : ℕ) → (mate a ≡ a → ⊥) → meets a (mate a) ≡ true
    alone : (a : ℕ) → IsIn a players → mate a ≡ a → IsIn a out

  module _ (symmetric : (a b : ℕ) → meets a b ≡ meets b a) where
    module _ (u v : ℕ) (rest skipped later : List ℕ) (mate : ℕ → ℕ) (players out : List ℕ)
        (may_meet : meets u v ≡ true) (apart : u ≡ v → ⊥) (u_off : IsIn u rest → ⊥) (v_off : IsIn v rest → ⊥)
        (u_kept : IsIn u skipped → ⊥) (v_kept : IsIn v skipped → ⊥) (skips : (a : ℕ) → IsIn a skipped → IsIn a rest → ⊥)
        (cases : (a : ℕ) → IsIn a players → (a ≡ u) ⊎ ((a ≡ v) ⊎ (IsIn a skipped ⊎ IsIn a rest)))
        (u_in : IsIn u players) (v_in : IsIn v players) (skipped_in : (a : ℕ) → IsIn a skipped → IsIn a players) (rest_in : (a : ℕ) → IsIn a rest → IsIn a players)
        (skipped_out : (a : ℕ) → IsIn a skipped → IsIn a out) (later_out : (a : ℕ) → IsIn a later → IsIn a out)
        (mated : Mated rest later mate) where
      abbrev new : ℕ → ℕ
      new = swapped u v mate

      -- a player who is neither of the two
      other_of : (a : ℕ) → (a ≡ u → ⊥) → (a ≡ v → ⊥) → new a ≡ mate a
      other_of = swapped_other u v mate

      -- the mate of such a one is neither of them
      mate_u : (a : ℕ) → (a ≡ u → ⊥) → mate a ≡ u → ⊥
      mate_u a off e = off (sym (mated.back a) ∙ ap mate e ∙ mated.outside u u_off)

      mate_v : (a : ℕ) → (a ≡ v → ⊥) → mate a ≡ v → ⊥
      mate_v a off e = off (sym (mated.back a) ∙ ap mate e ∙ mated.outside v v_off)

      -- any player is one of the two, or neither
      either : (P : ℕ → Type 0) → P u → P v → ((a : ℕ) → (a ≡ u → ⊥) → (a ≡ v → ⊥) → P a) → (a : ℕ) → P a
      either P at_u at_v others a =
          elim (cases_eq a u) [
            | inl same ↦ subst P (sym same) at_u
            | inr off ↦ elim (cases_eq a v) [ inl same ↦ subst P (sym same) at_v | inr off' ↦ others a off off' ]
          ]

      new_u : new u ≡ v
      new_u = swapped_first u v mate

      new_v : new v ≡ u
      new_v = swapped_second u v mate apart

      new_inside : (a : ℕ) → IsIn a players → IsIn (new a) players
      new_inside =
          either (λ a. IsIn a players → IsIn (new a) players)
          (λ m. subst (λ b. IsIn b players) (sym new_u) v_in)
          (λ m. subst (λ b. IsIn b players) (sym new_v) u_in)
          (λ a off off' m. subst (λ b. IsIn b players) (sym (other_of a off off')) (elim (cases a m) [
            | inl same ↦ absurd (off same)
            | inr (inl same) ↦ absurd (off' same)
            | inr (inr (inl skip)) ↦ subst (λ b. IsIn b players) (sym (mated.outside a (skips a skip))) (skipped_in a skip)
            | inr (inr (inr more)) ↦ rest_in (mate a) (mated.inside a more)
          ]))

      new_mated : Mated players out new
      new_mated = record {
        inside = new_inside;
        outside = either (λ a. (IsIn a players → ⊥) → new a ≡ a) (λ off. absurd (off u_in)) (λ off. absurd (off v_in))
            (λ a off off' none. other_of a off off' ∙ mated.outside a (λ m. none (rest_in a m)));
        back = either (λ a. new (new a) ≡ a) (ap new new_u ∙ new_v) (ap new new_v ∙ new_u)
            (λ a off off'. ap new (other_of a off off') ∙ other_of (mate a) (mate_u a off) (mate_v a off') ∙ mated.back a);
        met = either (λ a. (new a ≡ a → ⊥) → meets a (new a) ≡ true) (λ ne. ap (meets u) new_u ∙ may_meet) (λ ne. ap (meets v) new_v ∙ symmetric v u ∙ may_meet)
            (λ a off off' ne. ap (meets a) (other_of a off off') ∙ mated.met a (λ e. ne (other_of a off off' ∙ e)));
        alone = either (λ a. IsIn a players → new a ≡ a → IsIn a out) (λ m e. absurd (apart (sym e ∙ new_u))) (λ m e. absurd (apart (sym new_v ∙ e)))
            (λ a off off' m e. elim (cases a m) [
              | inl same ↦ absurd (off same)
              | inr (inl same) ↦ absurd (off' same)
              | inr (inr (inl skip)) ↦ skipped_out a skip
              | inr (inr (inr more)) ↦ later_out a (mated.alone a more (sym (other_of a off off') ∙ e))
            ]);
      }

    -- each of the pairs is of two mates, who are not one player
    record HasMates (players out : List ℕ) (pairs : List (ℕ × ℕ)) : Type 0 where
      mate : ℕ → ℕ
      mated : Mated players out mate
      told : (a b : ℕ) → IsIn (a, b) pairs → IsIn a players × (mate a ≡ b) × (a ≡ b → ⊥)

    mates_of_covers : (pairs : List (ℕ × ℕ)) (players out : List ℕ) → NoneTwice players → Covers meets players pairs out → HasMates players out pairs
    mates_of_covers [] players out twice same = record {
      mate = λ a. a;
      mated = record { inside = λ a m. m; outside = λ a off. refl; back = λ a. refl; met = λ a ne. absurd (ne refl); alone = λ a m e. subst (IsIn a) same m };
      told = λ a b m. absurd m;
    }
    mates_of_covers (pair ∷ pairs) players out twice c =
        let skipped = c.skipped in
        let between = c.between in
        let behind = c.behind in
        let rest = between ++ behind in
        let u = pair.0 in
        let v = pair.1 in
        let tail = between ++ v ∷ behind in
        let all = skipped ++ u ∷ tail in
        let twice' : NoneTwice all = subst NoneTwice c.players_are twice in
        let back : NoneTwice (u ∷ tail) = twice-back skipped (u ∷ tail) twice' in
        let kept = twice-apart skipped (u ∷ tail) twice' in
        let off_v = twice-middle v between behind back.1 in
        let less = mates_of_covers pairs rest c.later off_v.1 c.covered in
        let tail_in : (a : ℕ) → IsIn a rest → IsIn a tail = λ a m. in-middle a v between behind (inr m) in
        let all_in : (a : ℕ) → IsIn a (u ∷ tail) → IsIn a players = λ a m. subst (IsIn a) (sym c.players_are) (IsIn-back a skipped (u ∷ tail) m) in
        record {
          mate = swapped u v less.mate;
          mated = new_mated u v rest skipped c.later less.mate players out c.may_meet
              (λ e. back.0 (subst (λ w. IsIn w tail) (sym e) (in-middle v v between behind (inl refl))))
              (λ m. back.0 (tail_in u m))
              off_v.0
              (λ m. kept u m (inl refl))
              (λ m. kept v m (inr (in-middle v v between behind (inl refl))))
              (λ a m n. kept a m (inr (tail_in a n)))
              (λ a m. elim (IsIn-append a skipped (u ∷ tail) (subst (IsIn a) c.players_are m)) [
                | inl skip ↦ inr (inr (inl skip))
                | inr (inl same) ↦ inl same
                | inr (inr more) ↦ elim (middle-in a v between behind more) [ inl same ↦ inr (inl same) | inr other ↦ inr (inr (inr other)) ]
              ])
              (all_in u (inl refl))
              (all_in v (inr (in-middle v v between behind (inl refl))))
              (λ a m. subst (IsIn a) (sym c.players_are) (IsIn-front a skipped (u ∷ tail) m))
              (λ a m. all_in a (inr (tail_in a m)))
              (λ a m. subst (IsIn a) (sym c.out_are) (IsIn-front a skipped c.later m))
              (λ a m. subst (IsIn a) (sym c.out_are) (IsIn-back a skipped c.later m))
              less.mated;
          told = λ a b m. elim m [
            | inl same ↦
                (let first : a ≡ u = ap (λ (p : ℕ × ℕ). p.0) same in
                let second : b ≡ v = ap (λ (p : ℕ × ℕ). p.1) same in (
                  all_in a (inl first),
                  ap (swapped u v less.mate) first ∙ swapped_first u v less.mate ∙ sym second,
                  λ e. back.0 (subst (λ w. IsIn w tail) (sym second ∙ sym e ∙ first) (in-middle v v between behind (inl refl))),
                ))
            | inr later ↦
                (let told = less.told a b later in (
                  all_in a (inr (tail_in a told.0)),
                  swapped_other u v less.mate a (λ e. back.0 (subst (λ w. IsIn w tail) e (tail_in a told.0))) (λ e. off_v.0 (subst (λ w. IsIn w rest) e told.0)) ∙ told.1,
                  told.2,
                ))
          ];
        }

    one_out : (may_be_left : ℕ → Bool) (out : List ℕ) → MayBeLeftOut may_be_left out → (a : ℕ) → IsIn a out → (may_be_left a ≡ true) × ((b : ℕ) → IsIn b out → a ≡ b)
    one_out may_be_left [] left a m = absurd m
    one_out may_be_left (x ∷ []) left a (inl same) =
        (ap may_be_left same ∙ left, λ b m. elim m [ inl same' ↦ same ∙ sym same' | inr none ↦ absurd none ])
    one_out may_be_left (x ∷ []) left a (inr none) = absurd none
    one_out may_be_left (x ∷ y ∷ rest) left a m = absurd left

    -- the mates of players whom a list of pairs pairs out
    pub record PairMates (may_be_left : ℕ → Bool) (players : List ℕ) (pairs : List (ℕ × ℕ)) : Type 0 where
      pub mate : ℕ → ℕ
      pub are : AreMates may_be_left players mate
      pub tells : (a b : ℕ) → IsIn (a, b) pairs → (mate a ≡ b) × (a ≡ b → ⊥)

    pub pairs_mates : (may_be_left : ℕ → Bool) (players : List ℕ) (pairs : List (ℕ × ℕ)) (out : List ℕ) → NoneTwice players → Covers meets players pairs out → MayBeLeftOut may_be_left out
        → PairMates may_be_left players pairs
    pairs_mates may_be_left players pairs out twice covered left_out =
        let found = mates_of_covers pairs players out twice covered in
        let mated = found.mated in
        record {
          mate = found.mate;
          are = record {
            inside = mated.inside;
            back = λ a m. mated.back a;
            met = λ a m. mated.met a;
            one = λ a b m n e f. (one_out may_be_left out left_out a (mated.alone a m e)).1 b (mated.alone b n f);
            left = λ a m e. (one_out may_be_left out left_out a (mated.alone a m e)).0;
          };
          tells = λ a b m. let told = found.told a b m in (told.1, told.2);
        }

    pub record FoundMates (may_be_left : ℕ → Bool) (players : List ℕ) : Type 0 where
      pub mate : ℕ → ℕ
      pub are : AreMates may_be_left players mate

    -- players who can be paired out have mates
    pub complete_mates : (may_be_left : ℕ → Bool) (players : List ℕ) → NoneTwice players → Completable meets may_be_left players → FoundMates may_be_left players
    complete_mates may_be_left players twice whole =
        let found = pairs_mates may_be_left players whole.pairs whole.out twice whole.covered whole.left_out in
        record { mate = found.mate; are = found.are }
