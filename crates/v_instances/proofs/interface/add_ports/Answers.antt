use Rattle.std.proofs.Common.{◌∙◌, ap, refl, arith}
use Rattle.wb_values.specs.Value.{entry_of}
use Rattle.wb_values.specs.Choice.{first_of}
use Rattle.verilog_meaning.specs.Settled.{named_ports, declared_ports}
use Rattle.v_syntax.specs.Source.{direction_of, port_of}
use Rattle.v_instances.specs.Texts.{texts}
use Rattle.v_instances.specs.Interface.{direction_in}
use Rattle.v_instances.proofs.Names.{table_turn}
use Rattle.v_instances.proofs.interface.add_ports.Goals as goal

pub loop-port-preserved : goal.loop-port-preserved
loop-port-preserved c = λ q.
    table_turn port_of (λ p. named_ports p.direction p.names) declared_ports (λ p ps. refl) c.args.ports.now c.loop-port.port-index c.port-item.result q
    (direction_in c.loop-port.directions q) (direction_in c.add_named.new.directions q) _ (omega arith) c.port-item.is
    (c.in_ok-add_named.ensures q ∙ ap (λ ns. first_of (direction_in c.loop-port.directions q) (entry_of (named_ports (direction_of c.port-item.result.direction) (texts ns)) q)) c.deref.ensures.value)
    (c.loop-port.invariant q)
