use Rattle.std.proofs.Common.{◌∷◌, [], refl, map, arith, subst}
use Rattle.v_ordered.specs.Membership.{Adds, nets_named}
use Rattle.v_ordered.proofs.Adding.{turn, end}
use Rattle.v_ordered.proofs.members.add_wires.Goals as goal

pub loop-wire-init : goal.loop-wire-init
loop-wire-init c = λ rest. refl

pub loop-wire-preserved : goal.loop-wire-preserved
loop-wire-preserved c =
    turn (λ x. nets_named (x.name.now ∷ [])) (λ xs. nets_named (map (λ w. w.name.now) xs)) (λ x xs. refl) c.args.wires.now c.loop-wire.wire-index _ c.args.members.now c.loop-wire.members c.add_net.new.members (omega arith)
    c.loop-wire.invariant (subst (λ x. Adds c.loop-wire.members (nets_named (x.name.now ∷ [])) c.add_net.new.members) c.wire-item.is c.in_ok-add_net.ensures)

pub returns : goal.returns
returns c =
    end (λ x. nets_named (x.name.now ∷ [])) (λ xs. nets_named (map (λ w. w.name.now) xs)) (λ x xs. refl) refl c.args.wires.now c.loop-wire.wire-index c.args.members.now c.loop-wire.members
    (omega (arith, c.loop-wire-test.false)) c.loop-wire.invariant
