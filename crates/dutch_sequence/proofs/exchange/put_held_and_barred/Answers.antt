use Rattle.std.proofs.Common.{rules, ◌≡◌, ◌-◌, ◌+◌, ◌≤◌, ◌++◌, ℕ, List, length, take, drop, ap, sym, ◌∙◌, append_assoc, arith, length-append}
use Rattle.dutch_sequence.specs.Prelude.{count_of, out_limit, fixed_numbers}
use Rattle.dutch_sequence.specs.declared.exchange.Known.TheVariants.{Chosen, PassedOver}
use Rattle.dutch_sequence.specs.declared.exchange.Side.{Side}
use Rattle.dutch_sequence.specs.declared.exchange.Side.TheVariants.{In, Out}
use Rattle.dutch_sequence.specs.declared.numbers.TheConstants.{LIMIT}
use Rattle.dutch_sequence.proofs.Asked.{told-room}
use Rattle.dutch_sequence.proofs.DifferenceRanges.{take_front_of}
use Rattle.dutch_sequence.proofs.exchange.put_held_and_barred.Goals as goal

-- what is told of both sides is no more than the pool has
told-fit : (pool : List ℕ) (k : ℕ) (out in' : Side) (outs ins : List ℕ) (below below' : ℕ) → out ≡ Out → in' ≡ In → k ≤ length pool
    → length (fixed_numbers pool k out outs below PassedOver) + length (fixed_numbers pool k in' ins below' Chosen) + length (fixed_numbers pool k out outs below Chosen) + length (fixed_numbers pool k in' ins below' PassedOver) ≤ length pool
told-fit pool k out in' outs ins below below' is_out is_in enough =
    let out_count : count_of pool k out ≡ k = ap (count_of pool k) is_out in
    let in_count : count_of pool k in' ≡ length pool - k = ap (count_of pool k) is_in in
    omega (arith, told-room pool k out outs below, told-room pool k in' ins below', out_count, in_count, enough)

pub put_fixed-requires : goal.put_fixed-requires
put_fixed-requires c =
    let pool = c.args.stage.now.pool.now in
    let k = c.args.stage.now.k in
    let few : length pool ≤ LIMIT = search rules in
    let o = c.fixed_out-outs.result in
    let i = c.fixed_in-ins.result in
    let fit = told-fit pool k o.side i.side o.taken.now i.taken.now o.limit i.limit c.fixed_out-outs.ensures.side c.fixed_in-ins.ensures.side (search rules) in
    record { room = omega (arith, fit, few, ap length c.clear.ensures) }

pub put_fixed-requires-2 : goal.put_fixed-requires-2
put_fixed-requires-2 c =
    let pool = c.args.stage.now.pool.now in
    let k = c.args.stage.now.k in
    let few : length pool ≤ LIMIT = search rules in
    let o = c.fixed_out-outs.result in
    let i = c.fixed_in-ins.result in
    let fit = told-fit pool k o.side i.side o.taken.now i.taken.now o.limit i.limit c.fixed_out-outs.ensures.side c.fixed_in-ins.ensures.side (search rules) in
    record { room = omega (arith, fit, few, ap length c.clear.ensures, ap length c.put_fixed.ensures, length-append c.clear.new.self.items (fixed_numbers pool k o.side o.taken.now o.limit PassedOver)) }

pub put_fixed-requires-3 : goal.put_fixed-requires-3
put_fixed-requires-3 c =
    let pool = c.args.stage.now.pool.now in
    let k = c.args.stage.now.k in
    let few : length pool ≤ LIMIT = search rules in
    let o = c.fixed_out-outs.result in
    let i = c.fixed_in-ins.result in
    let fit = told-fit pool k o.side i.side o.taken.now i.taken.now o.limit i.limit c.fixed_out-outs.ensures.side c.fixed_in-ins.ensures.side (search rules) in
    record { room = omega (arith, fit, few, ap length c.clear.ensures, ap length c.put_fixed.ensures, length-append c.clear.new.self.items (fixed_numbers pool k o.side o.taken.now o.limit PassedOver), ap length c.put_fixed-2.ensures, length-append c.put_fixed.new.numbers.items (fixed_numbers pool k i.side i.taken.now i.limit Chosen)) }

pub put_fixed-requires-4 : goal.put_fixed-requires-4
put_fixed-requires-4 c =
    let pool = c.args.stage.now.pool.now in
    let k = c.args.stage.now.k in
    let few : length pool ≤ LIMIT = search rules in
    let o = c.fixed_out-outs.result in
    let i = c.fixed_in-ins.result in
    let fit = told-fit pool k o.side i.side o.taken.now i.taken.now o.limit i.limit c.fixed_out-outs.ensures.side c.fixed_in-ins.ensures.side (search rules) in
    record { room = omega (arith, fit, few, ap length c.clear.ensures, ap length c.put_fixed.ensures, length-append c.clear.new.self.items (fixed_numbers pool k o.side o.taken.now o.limit PassedOver), ap length c.put_fixed-2.ensures, length-append c.put_fixed.new.numbers.items (fixed_numbers pool k i.side i.taken.now i.limit Chosen), ap length c.put_fixed-3.ensures, length-append c.put_fixed-2.new.numbers.items (fixed_numbers pool k o.side o.taken.now o.limit Chosen)) }

pub returns-clause-held : goal.returns-clause-held
returns-clause-held c =
    let pool = c.args.stage.now.pool.now in
    let k = c.args.stage.now.k in
    let size = c.args.stage.now.size in
    let beginning = c.args.beginning.now in
    let o = c.fixed_out-outs.result in
    let i = c.fixed_in-ins.result in
    let both : List ℕ = c.put_fixed-2.new.numbers.items in
    let third : List ℕ = fixed_numbers pool k o.side o.taken.now o.limit Chosen in
    let fourth : List ℕ = fixed_numbers pool k i.side i.taken.now i.limit PassedOver in
    let second : List ℕ = fixed_numbers pool k i.side i.taken.now i.limit Chosen in
    let first : List ℕ = fixed_numbers pool k Out (take size beginning) (out_limit pool k size beginning) PassedOver in
    ap (take c.len-held.result) (c.put_fixed-4.ensures ∙ ap (λ l. l ++ fourth) c.put_fixed-3.ensures ∙ append_assoc both third fourth)
    ∙ take_front_of both (third ++ fourth) c.len-held.result (sym c.len-held.ensures.value)
    ∙ c.put_fixed-2.ensures
    ∙ ap (λ l. l ++ second) (c.put_fixed.ensures ∙ ap (λ l. l ++ fixed_numbers pool k o.side o.taken.now o.limit PassedOver) c.clear.ensures)
    ∙ ap (λ s. fixed_numbers pool k s o.taken.now o.limit PassedOver ++ second) c.fixed_out-outs.ensures.side
    ∙ ap (λ t. fixed_numbers pool k Out t o.limit PassedOver ++ second) c.fixed_out-outs.ensures.taken
    ∙ ap (λ l. fixed_numbers pool k Out (take size beginning) l PassedOver ++ second) c.fixed_out-outs.ensures.limit
    ∙ ap (λ s. first ++ fixed_numbers pool k s i.taken.now i.limit Chosen) c.fixed_in-ins.ensures.side
    ∙ ap (λ t. first ++ fixed_numbers pool k In t i.limit Chosen) c.fixed_in-ins.ensures.taken
    ∙ ap (λ l. first ++ fixed_numbers pool k In (drop size beginning) l Chosen) c.fixed_in-ins.ensures.limit
