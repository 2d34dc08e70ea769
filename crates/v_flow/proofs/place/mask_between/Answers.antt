use Rattle.std.proofs.Common.{◌∙◌, ◌-◌, ◌^◌, ◌≤◌, arith, ap}
use Rattle.verilog_meaning.specs.Register.{is_set}
use Rattle.v_flow.proofs.Places as places
use Rattle.v_flow.proofs.place.mask_between.Goals as goal

pub overflow_sub-result : goal.overflow_sub-result
overflow_sub-result c = let m : 2 ^ c.args.low - 1 ≤ 2 ^ c.args.high - 1 = places.mask-order c.args.low c.args.high c.requires.order in omega (arith, m, c.mask.ensures, c.mask-2.ensures)

pub returns : goal.returns
returns c b = ap (λ x. is_set (x - c.mask-2.result) b) c.mask.ensures ∙ ap (λ y. is_set ((2 ^ c.args.high - 1) - y) b) c.mask-2.ensures ∙ places.mask-bits c.args.low c.args.high b
