use Rattle.v_print.proofs.Written.{then, as_front, nothing_written}
use Rattle.v_print_source.proofs.Wholes.{no_ports_arm, listed_arm, declared_arm}
use Rattle.v_print_source.proofs.module.write_ports.Goals as goal

pub returns-in-NoPorts : goal.returns-in-NoPorts
returns-in-NoPorts c = as_front (no_ports_arm c.args.ports.now c.in-NoPorts.is) (nothing_written c.args.out.now)

pub returns-in_ok-mark-in-Listed-2 : goal.returns-in_ok-mark-in-Listed-2
returns-in_ok-mark-in-Listed-2 c = as_front (listed_arm c.args.ports.now c.in-Listed.names c.deref.result.now c.in-Listed.is c.deref.ensures.value)
    (then c.in_ok-blank-in-Listed.ensures.reads (then c.in_ok-mark-in-Listed.ensures (then c.in_ok-write_names-in-Listed.ensures c.in_ok-mark-in-Listed-2.ensures)))

pub returns-in_ok-mark-in-Declared-2 : goal.returns-in_ok-mark-in-Declared-2
returns-in_ok-mark-in-Declared-2 c = as_front (declared_arm c.args.ports.now c.in-Declared.list c.deref-in-Declared.result.now c.in-Declared.is c.deref-in-Declared.ensures.value)
    (then c.in_ok-blank-in-Declared.ensures.reads (then c.in_ok-mark-in-Declared.ensures (then c.in_ok-write_all_ports-in-Declared.ensures (then c.in_ok-begin_line-in-Declared.ensures c.in_ok-mark-in-Declared-2.ensures))))
