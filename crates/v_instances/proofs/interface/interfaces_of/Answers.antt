use Rattle.std.proofs.Common.{subst, length, ◌≤◌}
use Rattle.v_instances.proofs.Modules.{modules_end}
use Rattle.v_instances.proofs.interface.interfaces_of.Goals as goal

pub returns : goal.returns
returns c =
    modules_end c.loop-within.interfaces c.args.tree.now.modules.items c.loop-within.within-index
    (subst (λ ms. length ms ≤ c.loop-within.within-index) c.deref-within-items.ensures.value c.loop-within-test.false) c.loop-within.invariant
