use Rattle.std.proofs.Common.{◌≡◌, ℕ, List, length, map, sym, ap, ◌∙◌, arith}
use Rattle.std.specs.Map.{keys_of}
use Rattle.std.proofs.lemmas.List.{length-map}
use Rattle.trf16_report.specs.Prelude.{lines, some_carried, Entry, Sheet, entry_of, starts_of, without_players}
use Rattle.trf16_report.specs.declared.player.Player.{Player}
use Rattle.trf16_report.proofs.ApartLemmas.{told, told_none}
use Rattle.trf16_report.proofs.ReportLemmas.{starts-entries}
use Rattle.trf16_report.proofs.draft.Draft.apart.Goals as goal

size : (entries : List (ℕ × Player)) (players : List Entry) → map (λ e. entry_of e.1) entries ≡ players → length entries ≡ length players
size entries players same = sym (length-map entries (λ e. entry_of e.1)) ∙ ap (λ (es : List Entry). length es) same

keyed : (entries : List (ℕ × Player)) (players : List Entry) → map (λ e. entry_of e.1) entries ≡ players → keys_of entries ≡ map (λ e. e.1.start) entries → keys_of entries ≡ starts_of players
keyed entries players same keys = keys ∙ starts-entries entries ∙ ap starts_of same

pub read-requires : goal.read-requires
read-requires c =
    let same = size c.self.inside.players.entries c.args.self.now.players (ap (λ (sheet : Sheet). sheet.players) c.self.view_is) in
    omega (arith, same, c.requires.few)

pub none-requires : goal.none-requires
none-requires c =
    let same = size c.self.inside.players.entries c.args.self.now.players (ap (λ (sheet : Sheet). sheet.players) c.self.view_is) in
    omega (arith, same, c.requires.few, c.len.ensures.len)

pub returns-then-notes : goal.returns-then-notes
returns-then-notes c =
    let r = c.self.inside in
    let same = ap (λ (sheet : Sheet). sheet.players) c.self.view_is in
    told c.read.result c.args.self.now (without_players r.utf8 (lines r.text.now) 0) (keys_of r.players.entries) (length r.players.entries)
    (keyed r.players.entries c.args.self.now.players same c.self.invariant.0) (size r.players.entries c.args.self.now.players same)
    (λ test. ap (some_carried test) c.self.view_is) c.read.ensures.both c.read.ensures.count

pub returns-else-notes : goal.returns-else-notes
returns-else-notes c =
    let same = ap (λ (sheet : Sheet). sheet.players) c.self.view_is in
    told_none c.none.result c.args.self.now (c.none.ensures.count ∙ c.len.ensures.len ∙ size c.self.inside.players.entries c.args.self.now.players same)
    (sym c.requires.noted.together ∙ c.if-notes.false) c.none.ensures.none
