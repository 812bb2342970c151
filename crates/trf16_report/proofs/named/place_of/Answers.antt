use Rattle.std.proofs.Common.{◌≡◌, ℕ, ◌==◌, false, length, slice_index_or, Option, Some, sym, ap, ◌∙◌, arith}
use Rattle.std.specs.Map.{keys_of}
use Rattle.std.specs.Option.{option_map_or}
use Rattle.std.proofs.lemmas.Map.Entries.{length-keys_of}
use Rattle.trf16_report.specs.Prelude.{number_of}
use Rattle.trf16_report.proofs.MarkLemmas.{place_tells}
use Rattle.trf16_report.proofs.named.place_of.Goals as goal

pub returns-clause-place : goal.returns-clause-place
returns-clause-place c =
    let entries = c.args.players.now.entries in
    let start = c.in_ok-start.start in
    let spelled : number_of c.args.word.now ≡ Some start = cc (c.number_of.ensures.value, c.in_ok-start.was) in
    let size : length (keys_of entries) ≡ length entries = length-keys_of entries in
    λ k lt.
    place_tells (keys_of entries) start k c.get_index_of.result c.get_index_of.ensures.unique c.get_index_of.ensures.index (omega (arith, lt, size))
    ∙ sym (ap (λ (number : Option ℕ). option_map_or (λ n. n == slice_index_or (keys_of entries) k 0) number false) spelled)
