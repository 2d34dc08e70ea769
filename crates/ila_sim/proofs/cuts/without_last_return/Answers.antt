use Rattle.std.proofs.Common.{◌≡◌, ◌≤◌, ◌-◌, suc, length, sym, arith}
use Rattle.ila_sim.proofs.Words.{return_last, other_last, is_empty, is_full, empty_line}
use Rattle.ila_sim.proofs.cuts.without_last_return.Goals as goal

pub returns-then-is_empty : goal.returns-then-is_empty
returns-then-is_empty c = empty_line c.args.line.now (is_empty c.args.line.now c.is_empty.result c.is_empty.ensures c.if-is_empty.true)

pub returns-then-line-last-eq13 : goal.returns-then-line-last-eq13
returns-then-line-last-eq13 c =
    let full : 1 ≤ length c.args.line.now = is_full c.args.line.now c.is_empty.result c.is_empty.ensures c.if-is_empty.false in
    let last : suc (length c.args.line.now - 1) ≡ length c.args.line.now = omega (arith, full) in
    sym (return_last c.args.line.now (length c.args.line.now - 1) 0 last c.if-line-last-eq13.true)

pub returns-else-line-last-eq13 : goal.returns-else-line-last-eq13
returns-else-line-last-eq13 c =
    let full : 1 ≤ length c.args.line.now = is_full c.args.line.now c.is_empty.result c.is_empty.ensures c.if-is_empty.false in
    let last : suc (length c.args.line.now - 1) ≡ length c.args.line.now = omega (arith, full) in
    sym (other_last c.args.line.now (length c.args.line.now - 1) 0 last c.if-line-last-eq13.false)
