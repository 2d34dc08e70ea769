use Rattle.std.proofs.Common.{◌∷◌, [], refl, map, arith, subst}
use Rattle.v_ordered.specs.Membership.{Adds, nets_named}
use Rattle.v_ordered.proofs.Adding.{turn, end}
use Rattle.v_ordered.proofs.members.add_variables.Goals as goal

pub loop-variable-init : goal.loop-variable-init
loop-variable-init c = λ rest. refl

pub loop-variable-preserved : goal.loop-variable-preserved
loop-variable-preserved c =
    turn (λ x. nets_named (x.name.now ∷ [])) (λ xs. nets_named (map (λ v. v.name.now) xs)) (λ x xs. refl) c.args.variables.now c.loop-variable.variable-index _ c.args.members.now c.loop-variable.members c.add_net.new.members (omega arith)
    c.loop-variable.invariant (subst (λ x. Adds c.loop-variable.members (nets_named (x.name.now ∷ [])) c.add_net.new.members) c.variable-item.is c.in_ok-add_net.ensures)

pub returns : goal.returns
returns c =
    end (λ x. nets_named (x.name.now ∷ [])) (λ xs. nets_named (map (λ v. v.name.now) xs)) (λ x xs. refl) refl c.args.variables.now c.loop-variable.variable-index c.args.members.now c.loop-variable.members
    (omega (arith, c.loop-variable-test.false)) c.loop-variable.invariant
