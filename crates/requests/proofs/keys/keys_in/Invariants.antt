use Rattle.std.proofs.Common.{◌≡◌, ◌+◌, length, option_map}
use Rattle.std.specs.Option.{option_map_or}
use Rattle.requests.specs.Prelude.{names_left, keys_in}
use Rattle.requests.proofs.KeyRule.{keys_onto}
use Rattle.requests.proofs.keys.keys_in.Given as goal

abbrev pub invariant-loop-rest : goal.invariant-loop-rest
invariant-loop-rest l = keys_onto l.keys (names_left (option_map (λ rest. rest.now) l.rest)) ≡ keys_in l.text

abbrev pub decreases-loop-rest : goal.decreases-loop-rest
decreases-loop-rest l = option_map_or (λ rest. length rest.now + 1) l.rest 0
