-- The attributes so far and those to come make all of them.
use Rattle.std.proofs.Common.{◌≡◌, ◌++◌, drop, flat_map, map}
use Rattle.markup.specs.Prelude.{attribute_of, attribute_text}
use Rattle.markup.proofs.writing.Markup.attributes.Given as goal

abbrev pub invariant-loop-attribute : goal.invariant-loop-attribute
invariant-loop-attribute l =
    l.self ++ flat_map attribute_text (map attribute_of (drop l.attribute-index l.attributes))
    ≡ l.initial.self ++ flat_map attribute_text (map attribute_of l.attributes)
