use Rattle.std.proofs.Common.{rules, map, ◌≡◌, [], ◌∷◌, ◌++◌, ap, ◌∙◌}
use Rattle.std.proofs.lemmas.List.{map_push}
use Rattle.arbiter_c.proofs.WordLemmas.{read_further}
use Rattle.arbiter_c.proofs.words.words_of.Goals as goal

pub loop-rest-preserved : goal.loop-rest-preserved
loop-rest-preserved c =
    let pushed : c.push.new.self.items ≡ c.loop-rest.words.items ++ c.in-Ok.word ∷ [] = search rules in
    read_further _ _ _ _ _ _ _ c.loop-rest.invariant c.next_line.ensures.first c.in-Ok.ensures.cases
    (ap (map (λ word. word.now)) pushed ∙ map_push (λ word. word.now) c.loop-rest.words.items c.in-Ok.word)
