-- What is marked so far: each one in front with all.
use Rattle.std.proofs.Common.{◌≡◌, ℕ, ◌*◌, ◌<◌, ◌||◌, ◌&&◌, false}
use Rattle.std.specs.Prelude.{slice_index_or, take, vec_len}
use Rattle.trf16_report.specs.Prelude.{are_marked, is_place}
use Rattle.trf16_report.proofs.apart.Apart.mark_each_two.Given as goal

abbrev pub invariant-loop-place : goal.invariant-loop-place
invariant-loop-place l =
    ((k m : ℕ) → m < l.initial.self.count
    → are_marked l.self k m ≡ (are_marked l.initial.self k m || (is_place (take l.place-index l.named.places.items) k && slice_index_or l.named.marks.items m false)))
    × (l.self.count ≡ l.initial.self.count) × (vec_len l.self.marks ≡ l.self.count * l.self.count)
