use Rattle.entry_laws.proofs.WhatStands.{unchanged}
use Rattle.entry_laws.proofs.entered.what_stands_there_is_not_changed.Goals as goal

pub returns : goal.returns
returns c = unchanged
