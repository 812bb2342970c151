use Rattle.std.proofs.Common.{ℕ, ◌||◌, List, ap, refl, sym, ◌∙◌, arith}
use Rattle.std.specs.Map.{keys_of}
use Rattle.trf16_report.specs.Prelude.{columns, lines, names_both, are_marked}
use Rattle.trf16_report.specs.Notes.{start_at}
use Rattle.trf16_report.proofs.AnsweringLemmas.{some_of, some_of-cons, not_together}
use Rattle.std.proofs.Math.Bool.{or_assoc}
use Rattle.trf16_report.proofs.apart.Apart.read.Goals as goal

pub loop-rest-preserved : goal.loop-rest-preserved
loop-rest-preserved c =
    let utf8 = c.args.utf8 in
    let starts = keys_of c.args.players.now.entries in
    let line = c.next_line.result.0.now in
    let after = lines c.next_line.result.1.now in
    let old = c.loop-rest.apart in
    let before = c.loop-rest.invariant in
    let same = c.in_ok-mark_line.ensures.same in record {
      both = λ i j li lj.
          let test = names_both (start_at starts i) (start_at starts j) in
          let here = test (columns utf8 line) in
          ap (λ b. b || some_of test utf8 after) (c.in_ok-mark_line.ensures.marked i j (omega (arith, li, same)) (omega (arith, lj, same)))
          ∙ or_assoc (are_marked old i j) here (some_of test utf8 after)
          ∙ ap (λ b. are_marked old i j || b) (sym (some_of-cons test utf8 line after here (not_together (start_at starts i) (start_at starts j) (columns utf8 line)) refl))
          ∙ ap (λ (ls : List (List ℕ)). are_marked old i j || some_of test utf8 ls) (sym c.next_line.ensures.first)
          ∙ before.both i j (omega (arith, li, same)) (omega (arith, lj, same));
      count = same ∙ before.count;
      room = c.in_ok-mark_line.ensures.room;
      nobody = c.in_ok-mark_line.ensures.nobody;
      all = c.in_ok-mark_line.ensures.all ∙ before.all;
    }
