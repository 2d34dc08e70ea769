use Rattle.std.proofs.Common.{◌∙◌, ap, map}
use Rattle.wb_values.specs.Value.{entry_of}
use Rattle.wb_values.specs.Choice.{first_of}
use Rattle.verilog_meaning.specs.Hierarchy.{header_ports}
use Rattle.verilog_meaning.specs.Settled.{declared_ports, item_ports}
use Rattle.v_syntax.specs.Source.{item_of, ports_of}
use Rattle.v_instances.specs.Interface.{direction_in}
use Rattle.v_instances.proofs.Names.{whole_table}
use Rattle.v_instances.proofs.interface.directions_of.Goals as goal

pub returns : goal.returns
returns c = λ q.
    c.in_ok-add_items.ensures q
    ∙ ap (λ is. first_of (direction_in c.add_header.new.directions q) (entry_of (item_ports (map item_of is)) q)) c.deref.ensures.value
    ∙ whole_table c.new-directions.result (declared_ports (header_ports (ports_of c.args.within.now.ports))) (item_ports (map item_of c.args.within.now.items.items)) q
    (direction_in c.add_header.new.directions q) c.new-directions.ensures.empty (c.in_ok-add_header.ensures q)
