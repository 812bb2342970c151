-- Putting one text after the other.
use Rattle.std.proofs.Common.{◌≡◌, ◌≤◌, ◌<◌, ◌+◌, ◌-◌, ℕ, List, [], ◌++◌, Option, None, Some, Result, Ok, Err, length, take, drop, subst, refl, sym, ap, ◌∙◌, append_assoc, take-append-drop, arith}
use Rattle.std.specs.Io.KnownBytes.{Appends, Keeps}
use Rattle.std.proofs.KnownBytes.{Appends-trans, Appends-nil}
use Rattle.std.proofs.Math.Seq.{take-add}
use Rattle.std.proofs.lemmas.List.{take_rest, append-nil, length-append, length-drop}
use Rattle.trf16_report.specs.Prelude.{CountsOne, Use, HasText, HasPart, Puts}

-- a sink before and after, member by member
abbrev pub used : Option (List ℕ) → Option (List ℕ) → ℕ → ℕ → Use
used first now f g = record { before = first; after = now; failures_before = f; failures_after = g }

-- ---- one text, in as many calls as the sink takes

-- the front of the text is written, and no call failed
pub record HasWritten (text : List ℕ) (done : ℕ) (first now : Option (List ℕ)) (failures_first failures_now : ℕ) : Type 0 where
  pub written : Appends first now (take done text)
  pub fits : done ≤ length text
  pub failures : failures_now ≡ failures_first

-- a call that wrote the next bytes of the rest makes the front longer
pub written_further : (first now next : Option (List ℕ)) (text : List ℕ) (done count : ℕ) → Appends first now (take done text)
    → Appends now next (take count (take (length text - done) (drop done text))) → Appends first next (take (done + count) text)
written_further first now next text done count front more =
    let next_bytes = subst (λ xs. Appends now next (take count xs)) (take_rest text done) more in
    subst (λ xs. Appends first next xs) (sym (take-add done count text)) (Appends-trans first now next _ _ front next_bytes)

pub Appends-kept : (first now next : Option (List ℕ)) (text : List ℕ) → Appends first now text → Keeps now next → Appends first next text
Appends-kept None now next text put kept = tt
Appends-kept (Some x) None next text put kept = absurd put
Appends-kept (Some x) (Some y) None text put kept = absurd kept
Appends-kept (Some x) (Some y) (Some z) text put kept = kept ∙ put

-- a call that failed leaves a part
pub part_written : (first now next : Option (List ℕ)) (text : List ℕ) (done f g h : ℕ) → HasWritten text done first now f g → done < length text
    → Keeps now next → CountsOne g h → HasPart text (used first next f h)
part_written first now next text done f g h front lt kept fails = record {
  part = take done text;
  rest = drop done text;
  whole = sym (take-append-drop done text);
  left = omega (arith, length-drop done text, lt);
  written = Appends-kept first now next (take done text) front.written kept;
  failed = subst (λ n. CountsOne n h) front.failures fails;
}

-- ---- texts, one after the other

-- of a text all is put but a rest, and no call failed
pub record IsPutUpTo (text rest : List ℕ) (sink : Use) : Type 0 where
  pub front : List ℕ
  pub whole : text ≡ front ++ rest
  pub put : HasText front sink

-- nothing is put yet
pub put_nothing : (text : List ℕ) (first : Option (List ℕ)) (f : ℕ) → IsPutUpTo text text (used first first f f)
put_nothing text first f = record { front = []; whole = refl; put = record { written = Appends-nil first; sound = refl } }

-- the next text is put
pub put_next : (text rest next others : List ℕ) (first now last : Option (List ℕ)) (f g h : ℕ) → IsPutUpTo text rest (used first now f g)
    → rest ≡ next ++ others → HasText next (used now last g h) → IsPutUpTo text others (used first last f h)
put_next text rest next others first now last f g h before e more = record {
  front = before.front ++ next;
  whole = before.whole ∙ ap (λ (bs : List ℕ). before.front ++ bs) e ∙ sym (append_assoc before.front next others);
  put = record { written = Appends-trans first now last before.front next before.put.written more.written; sound = more.sound ∙ before.put.sound };
}

-- the sink fails in the next text
pub put_fails : (text rest next others : List ℕ) (first now last : Option (List ℕ)) (f g h : ℕ) → IsPutUpTo text rest (used first now f g)
    → rest ≡ next ++ others → HasPart next (used now last g h) → HasPart text (used first last f h)
put_fails text rest next others first now last f g h before e more = record {
  part = before.front ++ more.part;
  rest = more.rest ++ others;
  whole = before.whole ∙ ap (λ (bs : List ℕ). before.front ++ bs) (e ∙ ap (λ (bs : List ℕ). bs ++ others) more.whole ∙ append_assoc more.part more.rest others)
      ∙ sym (append_assoc before.front more.part (more.rest ++ others));
  left = omega (arith, length-append more.rest others, more.left);
  written = Appends-trans first now last before.front more.part before.put.written more.written;
  failed = subst (λ n. CountsOne n h) before.put.sound more.failed;
}

-- all is put
pub all_put : (text rest : List ℕ) (sink : Use) → IsPutUpTo text rest sink → rest ≡ [] → HasText text sink
all_put text rest sink before e =
    let same : before.front ≡ text = sym (append-nil before.front) ∙ ap (λ (bs : List ℕ). before.front ++ bs) (sym e) ∙ sym before.whole in
    subst (λ bs. HasText bs sink) same before.put

-- the last text is put, or the sink fails in it
pub put_last : {T E : Type 0} (text rest : List ℕ) (first now last : Option (List ℕ)) (f g h : ℕ) (answer : Result T E) → IsPutUpTo text rest (used first now f g)
    → Puts rest (used now last g h) answer → Puts text (used first last f h) answer
put_last text rest first now last f g h (Ok x) before more =
    all_put text [] (used first last f h) (put_next text rest rest [] first now last f g h before (sym (append-nil rest)) more) refl
put_last text rest first now last f g h (Err x) before more = put_fails text rest rest [] first now last f g h before (sym (append-nil rest)) more

-- two texts, of which the first is put
pub put_both : {T E : Type 0} (a b : List ℕ) (first now last : Option (List ℕ)) (f g h : ℕ) (answer : Result T E) → HasText a (used first now f g)
    → Puts b (used now last g h) answer → Puts (a ++ b) (used first last f h) answer
put_both a b first now last f g h answer one two =
    put_last (a ++ b) b first now last f g h answer (put_next (a ++ b) (a ++ b) a b first first now f f g (put_nothing (a ++ b) first f) refl one) two

-- two texts, where the sink fails in the first
pub put_neither : (a b : List ℕ) (first last : Option (List ℕ)) (f h : ℕ) → HasPart a (used first last f h) → HasPart (a ++ b) (used first last f h)
put_neither a b first last f h one = put_fails (a ++ b) (a ++ b) a b first first last f f h (put_nothing (a ++ b) first f) refl one

-- one text is put, and the sink fails behind it
pub fails_behind : {a b : List ℕ} {first now last : Option (List ℕ)} {f g h : ℕ} → HasText a (used first now f g) → HasPart b (used now last g h)
    → HasPart (a ++ b) (used first last f h)
fails_behind {a} {b} {first} {now} {last} {f} {g} {h} one two =
    put_fails (a ++ b) b b [] first now last f g h (put_next (a ++ b) (a ++ b) a b first first now f f g (put_nothing (a ++ b) first f) refl one) (sym (append-nil b)) two
