use Rattle.std.proofs.Common.{◌∙◌, ◌∷◌, [], List, ℕ, ap, sym, arith}
use Rattle.std.specs.Option.{is_some}
use Rattle.dutch_arrangements.specs.Prelude.{parts, arrangement_of, of_bracket}
use Rattle.dutch_arrangements.proofs.CursorSets.{not_of}
use Rattle.dutch_arrangements.proofs.cursor.Cursor.read.Goals as goal

pub returns-in_default-arrangement_in : goal.returns-in_default-arrangement_in
returns-in_default-arrangement_in c =
    let frame = c.args.bracket.now in
    let lists = c.in-Some.lists in
    let four : List (List ℕ) = lists.s1.now ∷ lists.s2.now ∷ lists.s1r.now ∷ lists.s2r.now ∷ [] in
    let few = c.residents-residents.ensures.few in
    sym (ap (λ ps. of_bracket frame c.args.shape (arrangement_of ps)) (ap (parts 47) (sym c.as_bytes.ensures.value) ∙ c.in-Some.ensures.0)
    ∙ not_of frame c.args.shape (arrangement_of four) c.moved_down-moved_down.ensures.few (omega (arith, few))
    (ap (λ ps. is_some (arrangement_of ps)) (sym c.in-Some.ensures.0) ∙ c.in-Some.ensures.1) c.in_default-arrangement_in.ensures)
