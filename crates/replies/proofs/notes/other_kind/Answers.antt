-- What `find` gives is the first of the table that passes, and the table is that of the definition.
use Rattle.std.proofs.Common.{rules, option_map, ℕ, List, Bor, map, sym, ap, ◌∙◌}
use Rattle.std.proofs.lemmas.Iterator.{YieldsList-from_slice}
use Rattle.std.proofs.lemmas.Iterator.Adapters.{option_map_id}
use Rattle.std.proofs.lemmas.Iterator.Consumers.{YieldsList-from_copied}
use Rattle.std.proofs.lemmas.Iterator.Search.{find_from_yields_List}
use Rattle.std.specs.List.{find}
use Rattle.trf16_report.specs.Prelude.{is_word}
use Rattle.replies.specs.Prelude.{other_kinds}
use Rattle.replies.proofs.FoundLemmas.{find_seen}
use Rattle.replies.proofs.notes.other_kind.Goals as goal

pub returns : goal.returns
unfolding other_kinds
returns c =
    let seen : Bor (List ℕ) × Bor (List ℕ) → List ℕ × List ℕ = λ other. (other.0.now, other.1.now) in
    let is_named : List ℕ × List ℕ → _ = λ other. is_word c.args.kind.now other.0 in
    let table = c.iter.result.rest.now in
    let yields = YieldsList-from_copied (YieldsList-from_slice table cc) in
    let found = find_from_yields_List (λ other. is_named (seen other)) _ _ c.find.result c.find.ensures.ran yields (λ x b q k. search rules) in
    ap (option_map seen) (sym (option_map_id c.find.result) ∙ found)
    ∙ find_seen seen is_named table
    ∙ ap (find is_named) (ap (map seen) c.iter.ensures.rest)
