use Rattle.std.proofs.Common.{◌∷◌, [], refl, map, arith, subst}
use Rattle.v_ordered.specs.Membership.{Adds, instances_named}
use Rattle.v_ordered.proofs.Adding.{turn, end}
use Rattle.v_ordered.proofs.members.add_instances.Goals as goal

pub loop-each-init : goal.loop-each-init
loop-each-init c = λ rest. refl

pub loop-each-preserved : goal.loop-each-preserved
loop-each-preserved c =
    turn (λ x. instances_named (x.name.now ∷ [])) (λ xs. instances_named (map (λ i. i.name.now) xs)) (λ x xs. refl) c.args.instances.now c.loop-each.each-index _ c.args.members.now c.loop-each.members c.add_instance.new.members (omega arith)
    c.loop-each.invariant (subst (λ x. Adds c.loop-each.members (instances_named (x.name.now ∷ [])) c.add_instance.new.members) c.each-item.is c.in_ok-add_instance.ensures)

pub returns : goal.returns
returns c =
    end (λ x. instances_named (x.name.now ∷ [])) (λ xs. instances_named (map (λ i. i.name.now) xs)) (λ x xs. refl) refl c.args.instances.now c.loop-each.each-index c.args.members.now c.loop-each.members
    (omega (arith, c.loop-each-test.false)) c.loop-each.invariant
