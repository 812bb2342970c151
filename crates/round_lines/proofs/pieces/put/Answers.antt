-- The pieces are put one after the other.
use Rattle.std.proofs.Common.{◌≡◌, ◌++◌, ℕ, List, OnOk, subst}
use Rattle.round_lines.proofs.PieceLemmas.{together}
use Rattle.round_lines.proofs.pieces.put.Goals as goal

pub returns : goal.returns
returns c =
    subst (λ (all : List ℕ). OnOk c.put_each.result (c.put_each.new.text ≡ c.args.text.now ++ all)) (together c.args.telling.now c.args.pieces.now)
    c.put_each.ensures
