use Rattle.std.proofs.Common.{◌≡◌, ℕ, List, ◌++◌, ◌∷◌, [], map, false, ap, sym, subst, ◌∙◌, Ok, Result, nat_eq, is_some}
use Rattle.std.specs.HashMap.{get}
use Rattle.std.specs.Map.{keys_of}
use Rattle.std.proofs.lemmas.List.{map-append}
use Rattle.indexmap.proofs.CallerLemmas.{insert_entry-new}
use Rattle.trf16_report.specs.declared.fault.Fault.{Fault}
use Rattle.trf16_report.specs.declared.player.Player.{Player}
use Rattle.trf16_report.specs.Prelude.{lines, Entry, Sheet, known, entry_of, with_player, carried_line}
use Rattle.trf16_report.proofs.ReportLemmas.{known-lookup, none_from, keyed-push}
use Rattle.trf16_report.proofs.draft.Draft.enter.Goals as goal

pub invariant_of-self-2 : goal.invariant_of-self-2
invariant_of-self-2 c =
    let entries = c.self.inside.players.entries in
    let start = c.args.player.start in
    let missing : is_some (get nat_eq c.self.inside.players start) ≡ false =
    known-lookup entries start c.self.invariant.0 ∙ ap (λ sheet. known sheet start) c.self.view_is ∙ c.requires in
    let new : c.insert.new.self.entries ≡ entries ++ (start, c.args.player) ∷ [] =
    c.in_ok-insert.ensures.entries ∙ insert_entry-new nat_eq c.self.inside.players start c.args.player (none_from (get nat_eq c.self.inside.players start) missing) in
    (subst (λ (es : List (ℕ × Player)). keys_of es ≡ map (λ e. e.1.start) es) (sym new) (keyed-push entries c.args.player c.self.invariant.0), c.self.invariant.1)

pub returns : goal.returns
returns c =
    let entries = c.self.inside.players.entries in
    let start = c.args.player.start in
    let missing : is_some (get nat_eq c.self.inside.players start) ≡ false =
    known-lookup entries start c.self.invariant.0 ∙ ap (λ sheet. known sheet start) c.self.view_is ∙ c.requires in
    let new : c.insert.new.self.entries ≡ entries ++ (start, c.args.player) ∷ [] =
    c.in_ok-insert.ensures.entries ∙ insert_entry-new nat_eq c.self.inside.players start c.args.player (none_from (get nat_eq c.self.inside.players start) missing) in
    let given : List Entry → Result Sheet Fault = λ ps. Ok (record {
      utf8 = c.self.inside.utf8;
      carried = map (carried_line c.self.inside.utf8) (lines c.self.inside.text.now);
      players = ps;
      total = c.self.inside.total;
      initial = c.self.inside.initial;
      bye = c.self.inside.bye;
    }) in
    let of_entry = λ (e : ℕ × Player). entry_of e.1 in
    ap (λ (sheet : Sheet). Ok (with_player sheet (entry_of c.args.player))) (sym c.self.view_is)
    ∙ ap given (sym (map-append of_entry entries ((start, c.args.player) ∷ [])) ∙ ap (map of_entry) (sym new))
