use Rattle.replies.proofs.notes.put_told_of_kind.Goals as goal

pub returns-in-BlankBefore : goal.returns-in-BlankBefore
returns-in-BlankBefore c = rw c.in-BlankBefore.is c.put_kind.ensures
