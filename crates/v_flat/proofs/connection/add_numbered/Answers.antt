use Rattle.v_syntax.specs.Tree.{tree_of}
use Rattle.v_syntax.specs.Source.{direction_of}
use Rattle.verilog_meaning.specs.Settled.{port_order}
use Rattle.v_renamed.specs.NewNames.{new_name}
use Rattle.v_flat.specs.Views.{assignments_of}
use Rattle.v_flat.proofs.Loops.{nothing}
use Rattle.v_flat.proofs.Connected.{none_numbered, meant_none}
use Rattle.v_flat.proofs.connection.add_numbered.Goals as goal

pub returns-in-None : goal.returns-in-None
returns-in-None c = λ m i.
    nothing (assignments_of c.args.list.now.items) _
    (meant_none (new_name c.args.names.now) (new_name c.args.below.now) (direction_of c.args.way) m (tree_of c.args.expression.now) _
    (none_numbered c.args.interface.now.ports.order.items c.deref.result.now (port_order m) c.args.place i.ports c.deref.ensures.value c.in-None.ensures.lookup.3))
