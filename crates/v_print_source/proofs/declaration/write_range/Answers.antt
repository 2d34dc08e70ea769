use Rattle.std.proofs.Common.{ap}
use Rattle.v_syntax.specs.declared.module.Range.{Range}
use Rattle.v_print.proofs.Written.{then, as_front, nothing_written}
use Rattle.v_print_source.proofs.Wholes.{range_arm, no_range}
use Rattle.v_print_source.proofs.declaration.write_range.Goals as goal

pub returns-in_ok-mark-in-Some-3 : goal.returns-in_ok-mark-in-Some-3
returns-in_ok-mark-in-Some-3 c = as_front (range_arm c.args.range.now c.in-Some.bounds c.deref.result.now.left c.deref-in-Some.result.now.right c.in-Some.is (ap (λ (g : Range). g.left) c.deref.ensures) (ap (λ (g : Range). g.right) c.deref-in-Some.ensures)) (then c.in_ok-blank-in-Some.ensures.reads (then c.in_ok-mark-in-Some.ensures (then c.in_ok-write-in-Some.ensures (then c.in_ok-mark-in-Some-2.ensures (then c.in_ok-write-in-Some-2.ensures c.in_ok-mark-in-Some-3.ensures)))))

pub returns-in-None : goal.returns-in-None
returns-in-None c = as_front (no_range c.args.range.now c.in-None.is) (nothing_written c.args.out.now)
