use Rattle.std.proofs.Common.{rules, ◌≡◌, ℕ, false, ◌≤◌, map, length, ap, sym, ◌∙◌, arith}
use Rattle.std.proofs.lemmas.List.{length-map}
use Rattle.trf16_report.specs.Prelude.{lines, Sheet, entry_of, lines_carried, starts_of}
use Rattle.trf16_report.specs.declared.player.Player.{Player}
use Rattle.trf16_report.proofs.NoteLemmas.{tells_same}
use Rattle.trf16_report.proofs.ApartLemmas.{apart_same}
use Rattle.trf16_report.proofs.draft.Draft.into_report.Goals as goal
use Rattle.trf16_report.specs.declared.limits.TheConstants.{MOST_PLAYERS}

pub invariant_of-result : goal.invariant_of-result
invariant_of-result c =
    let r = c.self.inside in
    let size : length r.players.entries ≡ length c.args.self.players =
    sym (length-map r.players.entries (λ (e : ℕ × Player). entry_of e.1)) ∙ ap (λ (sheet : Sheet). length sheet.players) c.self.view_is in
    let few : length c.args.self.players ≤ MOST_PLAYERS = c.requires.few_players in (
      c.self.invariant.0,
      omega (arith, size, few),
      search rules,
      c.last_round_of-rounds.ensures.value,
      c.last_round_of-rounds.ensures.few,
      tells_same c.args.notes c.args.self (lines_carried false r.utf8 (lines r.text.now) r.bye)
          (ap (λ (sheet : Sheet). sheet.utf8) c.self.view_is) (ap (λ (sheet : Sheet). sheet.carried) c.self.view_is) c.requires.noted,
      c.self.invariant.1,
      apart_same c.args.apart c.args.self (record (lines_carried false r.utf8 (lines r.text.now) r.bye) { players = map (λ e. entry_of e.1) r.players.entries })
          (ap (λ (sheet : Sheet). sheet.utf8) c.self.view_is) (ap (λ (sheet : Sheet). sheet.carried) c.self.view_is) (ap (λ (sheet : Sheet). starts_of sheet.players) c.self.view_is)
          c.requires.told_apart,
    )
