-- The words that are entries, as a loop looks at them.
use Rattle.std.proofs.Common.{◌≡◌, ◌∙◌, ℕ, ◌+◌, ◌<◌, List, [], ◌∷◌, ◌++◌, length, get_or, drop, map, Bor, Some, None, Err, refl, ap, sym}
use Rattle.std.proofs.lemmas.List.{drop_more}
use Rattle.clap.specs.Words.{Text}
use Rattle.entries.specs.Prelude.{entry_in}
use Rattle.entries.specs.declared.entry.HandEntry.{HandEntry}
use Rattle.requests.specs.Prelude.{entries_behind}
use Rattle.requests.specs.declared.options.WordFault.TheVariants.{BadEntry}

-- the texts of some words
abbrev pub texts : List (Bor Text) → List Text
texts = map (λ word. word.now)

pub entries-more : (so_far : List HandEntry) (words : List (Bor Text)) (i : ℕ) (d : Bor Text) (text : Text) (entry : HandEntry) → i < length words
    → text ≡ (get_or words i d).now → entry_in text ≡ Some entry
    → entries_behind so_far (texts (drop i words)) ≡ entries_behind (so_far ++ entry ∷ []) (texts (drop (i + 1) words))
entries-more so_far words i d text entry lt same e =
    let here : entry_in (get_or words i d).now ≡ Some entry = ap entry_in (sym same) ∙ e in
    rw (drop_more words i d lt, here) refl

pub entries-fail : (so_far : List HandEntry) (words : List (Bor Text)) (i : ℕ) (d : Bor Text) (text : Text) → i < length words
    → text ≡ (get_or words i d).now → entry_in text ≡ None
    → entries_behind so_far (texts (drop i words)) ≡ Err (BadEntry (length so_far + 1))
entries-fail so_far words i d text lt same e =
    let here : entry_in (get_or words i d).now ≡ None = ap entry_in (sym same) ∙ e in
    rw (drop_more words i d lt, here) refl
