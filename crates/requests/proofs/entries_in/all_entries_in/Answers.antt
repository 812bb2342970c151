use Rattle.std.proofs.Common.{◌≡◌, ◌∙◌, [], Some, ap, codes}
use Rattle.std.specs.Prelude.{unwrap_or}
use Rattle.std.proofs.lemmas.Result.{IfOk-weaker}
use Rattle.clap.proofs.WalkLemmas.{raw_values-rows}
use Rattle.clap.specs.Words.{found_of}
use Rattle.requests.specs.Prelude.{entries_in, entry_words, rows_in}
use Rattle.requests.proofs.EntryWordLemmas.{texts}
use Rattle.requests.proofs.entries_in.all_entries_in.Goals as goal

pub returns-in-Some : goal.returns-in-Some
returns-in-Some c =
    let read : Some (texts c.in-Some.words.now) ≡ _ = c.in-Some.ensures ∙ raw_values-rows (found_of c.args.matches.now) (codes "entry") in
    let same : texts c.in-Some.words.now ≡ entry_words (rows_in c.args.matches.now) = ap (λ all. unwrap_or all []) read in
    IfOk-weaker c.entries_in.result _ _ (λ found h. h ∙ ap entries_in same) c.entries_in.ensures

pub returns-in-None : goal.returns-in-None
returns-in-None c =
    let read = c.in-None.ensures ∙ raw_values-rows (found_of c.args.matches.now) (codes "entry") in
    let same : [] ≡ entry_words (rows_in c.args.matches.now) = ap (λ all. unwrap_or all []) read in
    IfOk-weaker c.entries_in-in-None.result _ _ (λ found h. h ∙ ap entries_in same) c.entries_in-in-None.ensures
