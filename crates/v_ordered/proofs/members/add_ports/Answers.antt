use Rattle.std.proofs.Common.{◌∷◌, [], refl, map, arith}
use Rattle.v_hier.specs.Tables.{has_name}
use Rattle.v_ordered.specs.Membership.{port_nets}
use Rattle.v_ordered.proofs.Adding.{turn, end, ports_more}
use Rattle.v_ordered.proofs.members.add_ports.Goals as goal

pub loop-name-init : goal.loop-name-init
loop-name-init c = λ rest. refl

pub loop-name-preserved : goal.loop-name-preserved
loop-name-preserved c =
    turn (λ x. port_nets (has_name c.args.variables.now) (x.now ∷ [])) (λ xs. port_nets (has_name c.args.variables.now) (map (λ n. n.now) xs)) (λ x xs. ports_more (has_name c.args.variables.now) x.now (map (λ n. n.now) xs)) c.args.names.now c.loop-name.name-index _ c.args.members.now c.loop-name.members c.add_port.new.members (omega arith)
    c.loop-name.invariant c.in_ok-add_port.ensures

pub returns : goal.returns
returns c =
    end (λ x. port_nets (has_name c.args.variables.now) (x.now ∷ [])) (λ xs. port_nets (has_name c.args.variables.now) (map (λ n. n.now) xs)) (λ x xs. ports_more (has_name c.args.variables.now) x.now (map (λ n. n.now) xs)) refl c.args.names.now c.loop-name.name-index c.args.members.now c.loop-name.members
    (omega (arith, c.loop-name-test.false)) c.loop-name.invariant
