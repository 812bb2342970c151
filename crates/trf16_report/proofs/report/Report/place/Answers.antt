use Rattle.std.proofs.Common.{◌≡◌, ℕ, ◌<◌, ◌≤◌, length, refl, ap, ◌∙◌, arith}
use Rattle.std.specs.Prelude.{slice_index_or}
use Rattle.std.specs.Map.{keys_of}
use Rattle.std.proofs.lemmas.List.{length-map}
use Rattle.trf16_report.specs.declared.player.Player.{Player}
use Rattle.trf16_report.specs.Prelude.{Entry, Sheet, starts_of}
use Rattle.trf16_report.proofs.ReportLemmas.{starts-entries}
use Rattle.trf16_report.proofs.ApartLemmas.{placed, some_so}
use Rattle.trf16_report.proofs.report.Report.place.Goals as goal
use Rattle.trf16_report.specs.declared.limits.TheConstants.{MOST_PLAYERS}

pub returns-clause-start : goal.returns-clause-start
returns-clause-start c =
    let entries = c.self.inside.players.entries in
    let starts = starts_of c.args.self.now.players in
    some_so c.get_index_of.result (λ i. (slice_index_or starts i 0 ≡ c.args.start) × (i < length starts)) (λ i. slice_index_or starts i 0 ≡ c.args.start) (λ i p. p.0)
    (placed (keys_of entries) starts c.args.start c.get_index_of.result c.get_index_of.ensures.index
    (c.self.invariant.0 ∙ starts-entries entries ∙ ap (λ (sheet : Sheet). starts_of sheet.players) c.self.view_is))

pub returns-clause-within : goal.returns-clause-within
returns-clause-within c =
    let entries = c.self.inside.players.entries in
    let starts = starts_of c.args.self.now.players in
    let size : length starts ≡ length c.args.self.now.players = length-map c.args.self.now.players (λ (e : Entry). e.start) in
    some_so c.get_index_of.result (λ i. (slice_index_or starts i 0 ≡ c.args.start) × (i < length starts)) (λ i. i < length c.args.self.now.players) (λ i p. omega (arith, p.1, size))
    (placed (keys_of entries) starts c.args.start c.get_index_of.result c.get_index_of.ensures.index
    (c.self.invariant.0 ∙ starts-entries entries ∙ ap (λ (sheet : Sheet). starts_of sheet.players) c.self.view_is))

pub returns-clause-few : goal.returns-clause-few
returns-clause-few c =
    let entries = c.self.inside.players.entries in
    let few : length entries ≤ MOST_PLAYERS = c.self.invariant.1 in
    let starts = keys_of entries in
    let size : length starts ≡ length entries = length-map entries (λ (e : ℕ × Player). e.0) in
    some_so c.get_index_of.result (λ i. (slice_index_or starts i 0 ≡ c.args.start) × (i < length starts)) (λ i. i < MOST_PLAYERS) (λ i p. omega (arith, p.1, size, few))
    (placed starts starts c.args.start c.get_index_of.result c.get_index_of.ensures.index refl)
