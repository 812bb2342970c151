use Rattle.std.proofs.Common.{◌||◌, ◌==◌, ℕ, List, false, ap, sym, ◌∙◌}
use Rattle.std.specs.Option.{option_map_or}
use Rattle.trf16_report.specs.Prelude.{words, number_of, is_named, has_start}
use Rattle.std.proofs.Math.Bool.{or_assoc}
use Rattle.trf16_report.proofs.start_ranks.StartRanks.mark_words.Goals as goal

pub loop-word-preserved : goal.loop-word-preserved
loop-word-preserved c = λ i.
    let marked = has_start c.loop-word.self i in
    let others = is_named (words c.in-Some.after.now) i in
    ap (λ b. b || others) (c.mark_word.ensures i)
    ∙ or_assoc marked (option_map_or (λ n. n == i) (number_of c.in-Some.word.now) false) others
    ∙ ap (λ (ws : List (List ℕ)). marked || is_named ws i) (sym c.in-Some.ensures.first)
    ∙ c.loop-word.invariant i
