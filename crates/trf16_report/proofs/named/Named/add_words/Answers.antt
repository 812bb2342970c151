use Rattle.std.proofs.Common.{◌||◌, ◌==◌, ℕ, List, false, ap, sym, ◌∙◌}
use Rattle.std.specs.Map.{keys_of}
use Rattle.std.specs.Option.{option_map_or}
use Rattle.std.specs.Prelude.{slice_index_or}
use Rattle.trf16_report.specs.Prelude.{words, number_of, is_named, is_place}
use Rattle.std.proofs.Math.Bool.{or_assoc}
use Rattle.trf16_report.proofs.named.Named.add_words.Goals as goal

pub loop-word-preserved : goal.loop-word-preserved
loop-word-preserved c = (
  λ k lt.
      let start = slice_index_or (keys_of c.args.players.now.entries) k 0 in
      let before = is_place c.loop-word.self.places.items k in
      let others = is_named (words c.in-Some.after.now) start in
      ap (λ b. b || others) (c.in_ok-add_word.ensures.more k lt)
      ∙ or_assoc before (option_map_or (λ n. n == start) (number_of c.in-Some.word.now) false) others
      ∙ ap (λ (ws : List (List ℕ)). before || is_named ws start) (sym c.in-Some.ensures.first)
      ∙ c.loop-word.invariant.0 k lt,
  c.in_ok-add_word.ensures.count ∙ c.loop-word.invariant.1,
)
