use Rattle.std.proofs.Common.{◌∙◌, sym, arith, ap, subst, ◌<◌, ◌+◌, length}
use Rattle.ila_model.specs.declared.parts.Child.{Child}
use Rattle.ila_model.proofs.Declarations.{are_placed-late}
use Rattle.ila_model.proofs.sorted.are_placed.Goals as goal

pub returns-then-total-next : goal.returns-then-total-next
returns-then-total-next c =
    let d = c.child-item.result in
    let long : c.args.total < c.loop-child.next + length d.initial_values.items = omega (arith, c.len-privates.ensures, c.loop-child.invariant.within) in
    let there = subst (λ (x : Child). c.args.total < c.loop-child.next + length x.initial_values.items) c.child-item.is long in
    sym (c.loop-child.invariant.rest ∙ are_placed-late c.loop-child.next c.args.total c.args.children.now c.loop-child.child-index d (omega arith) there)
