-- The players with new start ranks, one by one: no two have the same one.
use Rattle.std.proofs.Common.{◌≡◌, ℕ, Bool, true, false, ◌||◌, ◌==◌, nat_eq, List, [], ◌∷◌, ◌++◌, map, refl, sym, ap, ◌∙◌, subst, append_assoc, length, ◌≤◌, arith, Some}
use Rattle.std.specs.List.{AllByRecursion, IsDistinct, list_any}
use Rattle.std.proofs.lemmas.Bool.{ne_eqb, eqb-false}
use Rattle.std.proofs.lemmas.List.{append-nil, length-map, map-append}
use Rattle.trf16_report.specs.Prelude.{Entry, Sheet, known, new_start, player_of, renumbered, renumbered_entry, starts_of, with_player}
use Rattle.trf16_report.specs.declared.limits.TheConstants.{MOST_PLAYERS}
use Rattle.trf16_writer.specs.Alone.{players_alone}
use Rattle.trf16_writer.proofs.BoardLemmas.{eq-sym}
use Rattle.trf16_writer.proofs.RoundLemmas.{fresh}
use Rattle.trf16_writer.proofs.NewStartRanks.{AreOf, all_of, known_player, new_once}

-- a player with a new start rank
abbrev moved : Sheet → Entry → Entry
moved sheet entry = renumbered_entry (new_start sheet) entry

-- the players so far, and with those still to come all
pub record ArePut (sheet draft : Sheet) (rest : List Entry) : Type 0 where
  pub alone : draft ≡ record (players_alone sheet) { players = draft.players }
  pub whole : draft.players ++ map (moved sheet) rest ≡ map (moved sheet) sheet.players

-- ---- no two new start ranks are one

other_new : (sheet : Sheet) (x y : Entry) → player_of sheet.players x.start ≡ Some x → player_of sheet.players y.start ≡ Some y → nat_eq x.start y.start ≡ false
    → nat_eq (new_start sheet x.start) (new_start sheet y.start) ≡ false
other_new sheet x y is is' other =
    ne_eqb (new_start sheet x.start) (new_start sheet y.start) (λ e.
    eqb-false x.start y.start other (new_once sheet x.start y.start (known_player sheet.players x.start x is) (known_player sheet.players y.start y is') e))

others_new : (sheet : Sheet) (x : Entry) (xs : List Entry) → player_of sheet.players x.start ≡ Some x → AreOf sheet.players xs
    → AllByRecursion (λ z. nat_eq x.start z ≡ false) (starts_of xs) → AllByRecursion (λ z. nat_eq (new_start sheet x.start) z ≡ false) (starts_of (map (moved sheet) xs))
others_new sheet x [] is are other = tt
others_new sheet x (y ∷ xs) is are other = (other_new sheet x y is are.0 other.0, others_new sheet x xs is are.1 other.1)

distinct_new : (sheet : Sheet) (xs : List Entry) → AreOf sheet.players xs → IsDistinct nat_eq (starts_of xs) → IsDistinct nat_eq (starts_of (map (moved sheet) xs))
unfolding IsDistinct
distinct_new sheet [] are distinct = tt
distinct_new sheet (x ∷ xs) are distinct = (others_new sheet x xs are.0 are.1 distinct.0, distinct_new sheet xs are.1 distinct.1)

-- ---- one player more

known_starts : (entries : List Entry) (start : ℕ) → list_any (λ (entry : Entry). entry.start == start) entries ≡ list_any (nat_eq start) (starts_of entries)
known_starts [] start = refl
known_starts (entry ∷ entries) start = rw (eq-sym entry.start start, known_starts entries start) refl

-- nobody so far has the new start rank of the next player
pub fresh_start : (sheet draft : Sheet) (entry : Entry) (rest : List Entry) → IsDistinct nat_eq (starts_of sheet.players) → ArePut sheet draft (entry ∷ rest)
    → known draft (new_start sheet entry.start) ≡ false
fresh_start sheet draft entry rest own put =
    let all = distinct_new sheet sheet.players (all_of sheet.players own) own in
    let whole : starts_of draft.players ++ new_start sheet entry.start ∷ starts_of (map (moved sheet) rest) ≡ starts_of (map (moved sheet) sheet.players) =
    sym (map-append (λ (e : Entry). e.start) draft.players (map (moved sheet) (entry ∷ rest))) ∙ ap starts_of put.whole in
    known_starts draft.players (new_start sheet entry.start)
    ∙ fresh (starts_of draft.players) (new_start sheet entry.start) (starts_of (map (moved sheet) rest)) (subst (IsDistinct nat_eq) (sym whole) all)

pub one_put : (sheet draft next : Sheet) (entry made : Entry) (rest : List Entry) → made ≡ moved sheet entry → next ≡ with_player draft made
    → ArePut sheet draft (entry ∷ rest) → ArePut sheet next rest
one_put sheet draft next entry made rest same put-in put =
    let grown : with_player draft made ≡ record (players_alone sheet) { players = draft.players ++ made ∷ [] } = ap (λ (s : Sheet). with_player s made) put.alone in
    let after : next.players ≡ draft.players ++ made ∷ [] = ap (λ (s : Sheet). s.players) put-in in
    record {
      alone = put-in ∙ grown ∙ ap (λ (ps : List Entry). record (players_alone sheet) { players = ps }) (sym after);
      whole = ap (λ (ps : List Entry). ps ++ map (moved sheet) rest) after
          ∙ append_assoc draft.players (made ∷ []) (map (moved sheet) rest)
          ∙ ap (λ (e : Entry). draft.players ++ e ∷ map (moved sheet) rest) same ∙ put.whole;
    }

pub all_put : (sheet draft : Sheet) (rest : List Entry) → rest ≡ [] → ArePut sheet draft rest → draft ≡ players_alone (renumbered sheet)
all_put sheet draft rest nothing put =
    put.alone ∙ ap (λ (ps : List Entry). record (players_alone sheet) { players = ps })
    (sym (append-nil draft.players) ∙ ap (λ (es : List Entry). draft.players ++ map (moved sheet) es) (sym nothing) ∙ put.whole)

-- as many are put as there are
pub few_put : (sheet draft : Sheet) (rest : List Entry) → rest ≡ [] → ArePut sheet draft rest → (n : ℕ) → length sheet.players ≡ n → n ≤ MOST_PLAYERS → length draft.players ≤ MOST_PLAYERS
few_put sheet draft rest nothing put n size few =
    let same : length draft.players ≡ n =
    ap (λ (s : Sheet). length s.players) (all_put sheet draft rest nothing put) ∙ length-map sheet.players (moved sheet) ∙ size in
    omega (arith, same, few)

-- the same of the player who is put
pub made_start : (sheet draft : Sheet) (entry : Entry) (rest : List Entry) (made : Entry) → IsDistinct nat_eq (starts_of sheet.players) → made ≡ moved sheet entry
    → ArePut sheet draft (entry ∷ rest) → known draft made.start ≡ false
made_start sheet draft entry rest made own same put = ap (λ (e : Entry). known draft e.start) same ∙ fresh_start sheet draft entry rest own put
