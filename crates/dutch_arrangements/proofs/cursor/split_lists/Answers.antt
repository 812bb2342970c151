use Rattle.std.proofs.Common.{◌∙◌, ◌∷◌, ap}
use Rattle.dutch_arrangements.specs.Prelude.{arrangement_of}
use Rattle.dutch_arrangements.proofs.CursorLemmas.{too_many}
use Rattle.dutch_arrangements.proofs.cursor.split_lists.Goals as goal

pub returns-in-Some : goal.returns-in-Some
returns-in-Some c =
    let s1 = c.in_ok-s1.s1.now in
    let s2 = c.in_ok-s2.s2.now in
    let s1r = c.in_ok-s1r.s1r.now in
    ap arrangement_of
    (c.in_ok-s1.ensures.parts ∙ ap (λ xs. s1 ∷ xs) (c.in_ok-s2.ensures.parts ∙ ap (λ xs. s2 ∷ xs) (c.in_ok-s1r.ensures.parts ∙ ap (λ xs. s1r ∷ xs) c.in-Some.ensures.parts)))
    ∙ too_many s1 s2 s1r c.in-Some.field-0.0.now c.in-Some.field-0.1.now
