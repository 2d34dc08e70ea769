use Rattle.std.proofs.Common.{refl, map, arith, subst}
use Rattle.v_syntax.specs.Source.{item_of}
use Rattle.v_hier.specs.Tables.{has_name}
use Rattle.v_ordered.specs.Membership.{Adds, item_nets, all_item_nets}
use Rattle.v_ordered.proofs.Adding.{turn, end}
use Rattle.v_ordered.proofs.members.add_items.Goals as goal

pub loop-item-init : goal.loop-item-init
loop-item-init c = λ rest. refl

pub loop-item-preserved : goal.loop-item-preserved
loop-item-preserved c =
    turn (λ x. item_nets (has_name c.args.variables.now) (item_of x)) (λ xs. all_item_nets (has_name c.args.variables.now) (map item_of xs)) (λ x xs. refl) c.args.items.now c.loop-item.item-index _ c.args.members.now c.loop-item.members c.add_item.new.members (omega arith)
    c.loop-item.invariant (subst (λ x. Adds c.loop-item.members (item_nets (has_name c.args.variables.now) (item_of x)) c.add_item.new.members) c.item-item.is c.in_ok-add_item.ensures)

pub returns : goal.returns
returns c =
    end (λ x. item_nets (has_name c.args.variables.now) (item_of x)) (λ xs. all_item_nets (has_name c.args.variables.now) (map item_of xs)) (λ x xs. refl) refl c.args.items.now c.loop-item.item-index c.args.members.now c.loop-item.members
    (omega (arith, c.loop-item-test.false)) c.loop-item.invariant
