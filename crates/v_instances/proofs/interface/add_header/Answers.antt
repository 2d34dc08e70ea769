use Rattle.std.proofs.Common.{◌∙◌, ap, sym, map}
use Rattle.wb_values.specs.Value.{entry_of}
use Rattle.wb_values.specs.Choice.{first_of}
use Rattle.verilog_meaning.specs.Hierarchy.{header_ports}
use Rattle.verilog_meaning.specs.Settled.{declared_ports}
use Rattle.v_syntax.specs.Source.{port_of, ports_of}
use Rattle.v_instances.specs.Interface.{direction_in}
use Rattle.v_instances.proofs.Names.{first_none}
use Rattle.v_instances.proofs.interface.add_header.Goals as goal

pub returns-in-NoPorts : goal.returns-in-NoPorts
returns-in-NoPorts c = λ q. sym (ap (λ (x : _). first_of (direction_in c.args.directions.now q) (entry_of (declared_ports (header_ports (ports_of x))) q)) c.in-NoPorts.is ∙ first_none (direction_in c.args.directions.now q))

pub returns-in-Listed : goal.returns-in-Listed
returns-in-Listed c = λ q. sym (ap (λ (x : _). first_of (direction_in c.args.directions.now q) (entry_of (declared_ports (header_ports (ports_of x))) q)) c.in-Listed.is ∙ first_none (direction_in c.args.directions.now q))

pub returns-in_ok-add_ports-in-Declared : goal.returns-in_ok-add_ports-in-Declared
returns-in_ok-add_ports-in-Declared c = λ q.
    c.in_ok-add_ports-in-Declared.ensures q
    ∙ ap (λ ps. first_of (direction_in c.args.directions.now q) (entry_of (declared_ports (map port_of ps)) q)) c.deref.ensures.value
    ∙ sym (ap (λ (x : _). first_of (direction_in c.args.directions.now q) (entry_of (declared_ports (header_ports (ports_of x))) q)) c.in-Declared.is)
