use Rattle.std.proofs.Common.{arith}
use Rattle.map_uses.proofs.Turning.{none_named, named_more_of, all_named}
use Rattle.map_uses.proofs.names.names_in.Goals as goal

pub loop-each-init : goal.loop-each-init
loop-each-init c = λ new are. none_named new c.new-table.result

pub loop-each-preserved : goal.loop-each-preserved
loop-each-preserved c = λ new are.
    named_more_of new c.args.texts.now.list.items c.deref-each-items.result.now c.deref-each-items.ensures.value c.loop-each.each-index c.each-item.result _
    c.as_str.result c.loop-each.table c.insert.new.self (omega arith) c.each-item.is c.in_ok-insert.ensures.updates c.as_str.ensures.value are (c.loop-each.invariant new are)

pub returns : goal.returns
returns c = λ new are.
    all_named new c.args.texts.now.list.items c.loop-each.each-index c.loop-each.table (omega (arith, c.loop-each-test.false))
    (c.loop-each.invariant new are)
