-- What stands in a place, as a list.
use Rattle.std.specs.Prelude.{List, [], ◌∷◌, Option, Some, None}

-- what there is, as a list [own]
abbrev pub listed : {T : Type 0} → Option T → List T
listed None = []
listed (Some x) = x ∷ []
