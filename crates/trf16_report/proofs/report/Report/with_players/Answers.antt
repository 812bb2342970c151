use Rattle.std.proofs.Common.{◌≡◌, ℕ, ◌≤◌, List, map, length, refl, sym, ap, ◌∙◌, arith}
use Rattle.std.proofs.lemmas.List.{length-map}
use Rattle.trf16_report.specs.Prelude.{lines, lines_carried, Entry, Sheet, entry_of, starts_of}
use Rattle.trf16_report.specs.declared.player.Player.{Player}
use Rattle.trf16_report.proofs.ReportLemmas.{starts-entries}
use Rattle.trf16_report.proofs.ApartLemmas.{apart_again}
use Rattle.trf16_report.proofs.NoteLemmas.{tells_again}
use Rattle.trf16_report.proofs.report.Report.with_players.Goals as goal
use Rattle.trf16_report.specs.declared.limits.TheConstants.{MOST_PLAYERS}

pub invariant_of-result : goal.invariant_of-result
invariant_of-result c =
    let r = c.self.inside in
    let players = c.args.players.entries in
    let said = lines_carried r.bare_absences r.utf8 (lines r.text.now) r.bye in
    let size : length players ≡ length r.players.entries =
    sym (length-map players (λ (e : ℕ × Player). e.1.start)) ∙ ap (λ (starts : List ℕ). length starts) c.requires.same ∙ length-map c.args.self.now.players (λ (e : Entry). e.start)
    ∙ ap (λ (sheet : Sheet). length sheet.players) (sym c.self.view_is) ∙ length-map r.players.entries (λ (e : ℕ × Player). entry_of e.1) in
    let few : length r.players.entries ≤ MOST_PLAYERS = c.self.invariant.1 in (
      c.requires.keyed,
      omega (arith, size, few),
      c.self.invariant.2,
      c.last_round_of-rounds.ensures.value,
      c.last_round_of-rounds.ensures.few,
      tells_again r.notes c.in_ok-notes.notes said c.in_ok-notes.ensures.absent c.in_ok-notes.ensures.firsts c.in_ok-notes.ensures.together c.self.invariant.5,
      c.self.invariant.6,
      apart_again r.apart c.in_ok-apart.apart (record said { players = map (λ e. entry_of e.1) r.players.entries }) (record said { players = map (λ e. entry_of e.1) players })
          c.in_ok-apart.ensures.both c.in_ok-apart.ensures.count refl refl
          (sym (starts-entries players) ∙ c.requires.same ∙ ap (λ (sheet : Sheet). starts_of sheet.players) (sym c.self.view_is))
          c.self.invariant.7,
    )
