-- A listing on its way: what was printed and what is to come.
use Rattle.std.proofs.Common.{◌≡◌, ◌∙◌, ◌≤◌, ◌<◌, ◌+◌, ◌++◌, ℕ, zero, suc, List, [], ◌∷◌, ap, sym, refl, subst, arith, append-nil, append_assoc, length, take, drop, flat_map}
use Rattle.std.proofs.lemmas.Grind.{flat_map-append}
use Rattle.std.proofs.lemmas.List.{drop_all}
use Rattle.dutch_arrangements.specs.Prelude.{Arrangement, Frame, down, Candidate}
use Rattle.dutch_bracket.specs.Prelude.{Reached, frame_of}
use Rattle.dutch_player.specs.Prelude.{Facts}
use Rattle.round_lines.specs.CandidateTexts.{candidate_text, line_text, pairs_text}
use Rattle.round_lines.specs.Listings.{IsListing, Puts}
use Rattle.round_lines.specs.declared.listing.Ending.TheVariants.{AtEnd, AtCount, Stopped}

-- behind a front the lines of the first of some candidates are printed, and the others are to come
pub record IsUnderway (front : List ℕ) (line : Arrangement → List ℕ) (all coming : List Arrangement) (done : ℕ) (text : List ℕ) : Type 0 where
  pub text_is : text ≡ front ++ flat_map line (take done all)
  pub rest : coming ≡ drop done all
  pub within : done ≤ length all

-- one more member of a list
one_more : (all rest : List Arrangement) (c : Arrangement) (done : ℕ) → c ∷ rest ≡ drop done all
    → (take (suc done) all ≡ take done all ++ c ∷ []) × (rest ≡ drop (suc done) all) × (suc done ≤ length all)
one_more [] rest c zero e = cc
one_more [] rest c (suc n) e = cc
one_more (x ∷ xs) rest c zero e =
    let first : c ≡ x = cc in
    let others : rest ≡ xs = cc in
    (ap (λ y. y ∷ []) (sym first), others, omega arith)
one_more (x ∷ xs) rest c (suc n) e =
    let later = one_more xs rest c n e in
    (ap (λ ys. x ∷ ys) later.0, later.1, omega (arith, later.2))

-- before the first
pub underway_none : (front : List ℕ) (line : Arrangement → List ℕ) (all : List Arrangement) → IsUnderway front line all all 0 front
underway_none front line all = record { text_is = sym (append-nil front); rest = refl; within = omega arith }

-- behind one more
pub underway_more : (front : List ℕ) (line : Arrangement → List ℕ) (all before coming : List Arrangement) (c : Arrangement) (done : ℕ) (text : List ℕ)
    → IsUnderway front line all before done text → before ≡ c ∷ coming → IsUnderway front line all coming (done + 1) (text ++ line c)
underway_more front line all before coming c done text h e =
    let more = one_more all coming c done (sym e ∙ h.rest) in
    let next : suc done ≡ done + 1 = omega arith in
    let one : flat_map line (take done all) ++ line c ≡ flat_map line (take (suc done) all) =
    ap (λ t. flat_map line (take done all) ++ t) (sym (append-nil (line c))) ∙ (sym (flat_map-append line (take done all) (c ∷ [])) ∙ ap (flat_map line) (sym more.0)) in
    subst (λ n. IsUnderway front line all coming n (text ++ line c)) next (record {
      text_is = ap (λ t. t ++ line c) h.text_is ∙ (append_assoc front (flat_map line (take done all)) (line c) ∙ ap (λ t. front ++ t) one);
      rest = more.1;
      within = more.2;
    })

-- none is left
none_left : (all : List Arrangement) (done : ℕ) → done ≤ length all → drop done all ≡ [] → (length all ≡ done) × (take done all ≡ all)
none_left [] zero h e = (refl, refl)
none_left [] (suc n) h e = absurd (omega (arith, h))
none_left (x ∷ xs) zero h e = cc
none_left (x ∷ xs) (suc n) h e =
    let later = none_left xs n (omega (arith, h)) e in
    (ap suc later.0, ap (λ ys. x ∷ ys) later.1)

-- the listing ends where none is left
pub underway_end : (front : List ℕ) (line : Arrangement → List ℕ) (all coming : List Arrangement) (done count : ℕ) (text : List ℕ)
    → (steps : ℕ) → IsUnderway front line all coming done text → coming ≡ [] → done < count → Puts front text (IsListing line all count steps AtEnd)
underway_end front line all coming done count text steps h e less =
    let none = none_left all done h.within (sym h.rest ∙ e) in
    (flat_map line all, h.text_is ∙ ap (λ some. front ++ flat_map line some) none.1, (subst (λ n. n < count) (sym none.0) less, refl))

no_seconds : (facts : Facts) (reached : Reached) (firsts : List ℕ) → pairs_text facts reached firsts [] ≡ []
no_seconds facts reached [] = refl
no_seconds facts reached (first ∷ firsts) = refl

-- where the second list is at its end there are no more pairs
pub pairs_end : (facts : Facts) (reached : Reached) (firsts seconds : List ℕ) (i : ℕ) (old text : List ℕ)
    → text ++ pairs_text facts reached (drop i firsts) (drop i seconds) ≡ old ++ pairs_text facts reached firsts seconds → length seconds ≤ i
    → text ≡ old ++ pairs_text facts reached firsts seconds
pairs_end facts reached firsts seconds i old text e end =
    let none : pairs_text facts reached (drop i firsts) (drop i seconds) ≡ [] = ap (pairs_text facts reached (drop i firsts)) (drop_all i seconds end) ∙ no_seconds facts reached (drop i firsts) in
    sym (append-nil text) ∙ (ap (λ t. text ++ t) (sym none) ∙ e)

-- the listing is stopped
pub underway_stopped : (front : List ℕ) (line : Arrangement → List ℕ) (all coming : List Arrangement) (done count : ℕ) (text : List ℕ)
    → (steps used : ℕ) → IsUnderway front line all coming done text → done < count → used ≡ steps → Puts front text (IsListing line all count steps (Stopped used))
underway_stopped front line all coming done count text steps used h less e = (flat_map line (take done all), h.text_is, (e, (done, less, h.within, refl)))

-- as many came as were asked for
pub underway_count : (front : List ℕ) (line : Arrangement → List ℕ) (all coming : List Arrangement) (done count : ℕ) (text : List ℕ)
    → (steps : ℕ) → IsUnderway front line all coming done text → done ≤ count → count ≤ done → Puts front text (IsListing line all count steps AtCount)
underway_count front line all coming done count text steps h low high =
    let same : done ≡ count = omega (arith, low, high) in
    (flat_map line (take count all), subst (λ n. text ≡ front ++ flat_map line (take n all)) same h.text_is, (subst (λ n. n ≤ length all) same h.within, refl))

-- behind the line of one more candidate
pub underway_line : (facts : Facts) (reached : Reached) (front : List ℕ) (all before coming : List Arrangement) (candidate : Candidate) (frame : Frame) (done : ℕ) (text new : List ℕ)
    → IsUnderway front (line_text facts reached) all before done text → before ≡ candidate.lists ∷ coming → candidate.down ≡ down frame candidate.lists → frame ≡ frame_of facts reached
    → new ≡ text ++ candidate_text facts reached candidate → IsUnderway front (line_text facts reached) all coming (done + 1) new
underway_line facts reached front all before coming candidate frame done text new h e left same put =
    let line : candidate_text facts reached candidate ≡ line_text facts reached candidate.lists =
    ap (λ d. candidate_text facts reached (record { lists = candidate.lists; down = d })) (left ∙ ap (λ f. down f candidate.lists) same) in
    subst (IsUnderway front (line_text facts reached) all coming (done + 1)) (sym (put ∙ ap (λ t. text ++ t) line))
    (underway_more front (line_text facts reached) all before coming candidate.lists done text h e)
