use Rattle.std.proofs.Common.{refl, map, arith, subst}
use Rattle.v_syntax.specs.Source.{port_of}
use Rattle.v_hier.specs.Tables.{has_name}
use Rattle.v_ordered.specs.Membership.{Adds, port_nets, header_nets}
use Rattle.v_ordered.proofs.Adding.{turn, end}
use Rattle.v_ordered.proofs.members.add_header.Goals as goal

pub loop-port-init : goal.loop-port-init
loop-port-init c = λ rest. refl

pub loop-port-preserved : goal.loop-port-preserved
loop-port-preserved c =
    turn (λ x. port_nets (has_name c.args.variables.now) (port_of x).names) (λ xs. header_nets (has_name c.args.variables.now) (map port_of xs)) (λ x xs. refl) c.args.ports.now c.loop-port.port-index _ c.args.members.now c.loop-port.members c.add_ports.new.members (omega arith)
    c.loop-port.invariant (subst (λ x. Adds c.loop-port.members (port_nets (has_name c.args.variables.now) (port_of x).names) c.add_ports.new.members) c.port-item.is (subst (λ ns. Adds c.loop-port.members (port_nets (has_name c.args.variables.now) (map (λ n. n.now) ns)) c.add_ports.new.members) c.deref.ensures.value c.in_ok-add_ports.ensures))

pub returns : goal.returns
returns c =
    end (λ x. port_nets (has_name c.args.variables.now) (port_of x).names) (λ xs. header_nets (has_name c.args.variables.now) (map port_of xs)) (λ x xs. refl) refl c.args.ports.now c.loop-port.port-index c.args.members.now c.loop-port.members
    (omega (arith, c.loop-port-test.false)) c.loop-port.invariant
