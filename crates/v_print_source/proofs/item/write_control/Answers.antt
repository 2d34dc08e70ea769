use Rattle.v_print.proofs.Written.{then, as_front}
use Rattle.v_print_source.proofs.Wholes.{any_change_arm, on_events_arm}
use Rattle.v_print_source.proofs.item.write_control.Goals as goal

pub returns-in_ok-mark-in-AnyChange : goal.returns-in_ok-mark-in-AnyChange
returns-in_ok-mark-in-AnyChange c = as_front (any_change_arm c.args.events.now c.in-AnyChange.is) c.in_ok-mark-in-AnyChange.ensures

pub returns-in_ok-mark-in-OnEvents-2 : goal.returns-in_ok-mark-in-OnEvents-2
returns-in_ok-mark-in-OnEvents-2 c = as_front (on_events_arm c.args.events.now c.in-OnEvents.list c.deref.result.now c.in-OnEvents.is c.deref.ensures.value)
    (then c.in_ok-mark-in-OnEvents.ensures (then c.in_ok-write_events-in-OnEvents.ensures c.in_ok-mark-in-OnEvents-2.ensures))
