-- Players with texts, one by one.
use Rattle.std.proofs.Common.{◌≡◌, ◌∙◌, ℕ, nat_eq, false, List, [], ◌∷◌, ◌++◌, length, map, None, refl, sym, ap, subst, append_assoc, arith}
use Rattle.std.specs.List.{IsDistinct, list_any}
use Rattle.std.specs.Map.{keys_of, lookup}
use Rattle.std.proofs.lemmas.List.{append-nil, map-append}
use Rattle.std.proofs.lemmas.Map.Made.{is_some-lookup}
use Rattle.indexmap.specs.IndexMap.{IndexMap, insert_entry}
use Rattle.indexmap.proofs.CallerLemmas.{insert_entry-new}
use Rattle.trf16_report.specs.Prelude.{Entry, entry_of, starts_of}
use Rattle.trf16_report.specs.declared.player.Player.{Player}
use Rattle.trf16_report.proofs.ReportLemmas.{none_from, keyed-push, starts-entries}
use Rattle.trf16_writer.proofs.RoundLemmas.{fresh}
use Rattle.ranks.specs.Prelude.{entries_with}

-- the players so far, each with a text; with those still to come they are all players, and there are texts for these
pub record AreWith (done : List (ℕ × Player)) (rest : List Entry) (left : List (List ℕ)) (all : List Entry) (texts : List (List ℕ)) : Type 0 where
  pub keyed : keys_of done ≡ map (λ e. e.1.start) done
  pub whole : map (λ e. entry_of e.1) done ++ entries_with rest left ≡ entries_with all texts
  pub many : length left ≡ length rest
  pub starts : starts_of (entries_with all texts) ≡ starts_of all

-- start ranks stay where there is a text for each player
pub starts_with : (entries : List Entry) (texts : List (List ℕ)) → length texts ≡ length entries → starts_of (entries_with entries texts) ≡ starts_of entries
starts_with [] texts many = refl
starts_with (entry ∷ entries) [] many = absurd (omega (arith, many))
starts_with (entry ∷ entries) (text ∷ texts) many = ap (λ (starts : List ℕ). entry.start ∷ starts) (starts_with entries texts (omega (arith, many)))

-- no player yet
pub with_none : (done : List (ℕ × Player)) (rest all : List Entry) (texts : List (List ℕ)) → done ≡ [] → rest ≡ all → length texts ≡ length all
    → AreWith done rest texts all texts
with_none done rest all texts none same many =
    subst (λ (es : List (ℕ × Player)). AreWith es rest texts all texts) (sym none)
    (record {
      keyed = refl;
      whole = ap (λ (es : List Entry). entries_with es texts) same;
      many = many ∙ ap (λ (es : List Entry). length es) (sym same);
      starts = starts_with all texts many;
    })

-- nobody so far has the start rank of the next player
absent_yet : (done : List (ℕ × Player)) (entry : Entry) (rest : List Entry) (text : List ℕ) (left : List (List ℕ)) (all : List Entry) (texts : List (List ℕ))
    → AreWith done (entry ∷ rest) (text ∷ left) all texts → IsDistinct nat_eq (starts_of all) → lookup (nat_eq entry.start) done ≡ None
absent_yet done entry rest text left all texts so_far distinct =
    let entries = map (λ (e : ℕ × Player). entry_of e.1) done in
    let whole : starts_of entries ++ entry.start ∷ starts_of (entries_with rest left) ≡ starts_of all =
    sym (map-append (λ (e : Entry). e.start) entries (entries_with (entry ∷ rest) (text ∷ left))) ∙ ap starts_of so_far.whole ∙ so_far.starts in
    let none : list_any (nat_eq entry.start) (starts_of entries) ≡ false =
    fresh (starts_of entries) entry.start (starts_of (entries_with rest left)) (subst (IsDistinct nat_eq) (sym whole) distinct) in
    none_from (lookup (nat_eq entry.start) done)
    (is_some-lookup (nat_eq entry.start) done ∙ ap (list_any (nat_eq entry.start)) (so_far.keyed ∙ starts-entries done) ∙ none)

one_more : (done : List (ℕ × Player)) (entry : Entry) (rest : List Entry) (text : List ℕ) (left : List (List ℕ)) (all : List Entry) (texts : List (List ℕ)) (player : Player)
    → entry_of player ≡ record entry { right = text } → AreWith done (entry ∷ rest) (text ∷ left) all texts
    → AreWith (done ++ (entry.start, player) ∷ []) rest left all texts
one_more done entry rest text left all texts player same so_far =
    let start : player.start ≡ entry.start = ap (λ (e : Entry). e.start) same in
    let entries = map (λ (e : ℕ × Player). entry_of e.1) done in
    let others = entries_with rest left in
    record {
      keyed = subst (λ s. keys_of (done ++ (s, player) ∷ []) ≡ map (λ e. e.1.start) (done ++ (s, player) ∷ [])) start (keyed-push done player so_far.keyed);
      whole = ap (λ (es : List Entry). es ++ others) (map-append (λ (e : ℕ × Player). entry_of e.1) done ((entry.start, player) ∷ []))
          ∙ append_assoc entries (entry_of player ∷ []) others ∙ ap (λ (e : Entry). entries ++ e ∷ others) same ∙ so_far.whole;
      many = omega (arith, so_far.many);
      starts = so_far.starts;
    }

-- one more player, as the loop inserts them
pub with_one : {S : Type 0} (done : IndexMap ℕ Player S) (entry : Entry) (coming rest : List Entry) (text : List ℕ) (given left : List (List ℕ)) (all : List Entry) (texts : List (List ℕ)) (player : Player) (new : List (ℕ × Player))
    → coming ≡ entry ∷ rest → given ≡ text ∷ left → AreWith done.entries coming given all texts → entry_of player ≡ record entry { right = text }
    → new ≡ insert_entry nat_eq done.entries entry.start player → IsDistinct nat_eq (starts_of all) → AreWith new rest left all texts
with_one done entry coming rest text given left all texts player new steps first so_far same inserted distinct =
    let half : AreWith done.entries (entry ∷ rest) given all texts = subst (λ (es : List Entry). AreWith done.entries es given all texts) steps so_far in
    let here : AreWith done.entries (entry ∷ rest) (text ∷ left) all texts = subst (λ (ts : List (List ℕ)). AreWith done.entries (entry ∷ rest) ts all texts) first half in
    subst (λ (es : List (ℕ × Player)). AreWith es rest left all texts)
    (sym (inserted ∙ insert_entry-new nat_eq done entry.start player (absent_yet done.entries entry rest text left all texts here distinct)))
    (one_more done.entries entry rest text left all texts player same here)

-- there is a text for each player who is still to come
pub text_left : (done : List (ℕ × Player)) (entry : Entry) (coming rest : List Entry) (given : List (List ℕ)) (all : List Entry) (texts : List (List ℕ))
    → coming ≡ entry ∷ rest → given ≡ [] → AreWith done coming given all texts → ⊥
text_left done entry coming rest given all texts steps none so_far =
    let sizes : length given ≡ length coming = so_far.many in
    let some : length coming ≡ length (entry ∷ rest) = ap (λ (es : List Entry). length es) steps in
    let nothing : length given ≡ 0 = ap (λ (ts : List (List ℕ)). length ts) none in
    absurd (omega (arith, sizes, some, nothing))

pub with_all : (done : List (ℕ × Player)) (rest : List Entry) (left : List (List ℕ)) (all : List Entry) (texts : List (List ℕ)) → rest ≡ [] → AreWith done rest left all texts
    → map (λ e. entry_of e.1) done ≡ entries_with all texts
with_all done rest left all texts nothing so_far =
    let entries = map (λ (e : ℕ × Player). entry_of e.1) done in
    sym (append-nil entries) ∙ ap (λ (es : List Entry). entries ++ entries_with es left) (sym nothing) ∙ so_far.whole
