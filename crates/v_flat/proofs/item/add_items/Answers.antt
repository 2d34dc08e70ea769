use Rattle.std.proofs.Common.{◌∙◌, ◌++◌, refl, ap, map, arith}
use Rattle.v_syntax.specs.Source.{item_of}
use Rattle.v_renamed.specs.NewNames.{new_name}
use Rattle.v_flat.specs.Items.{own_item, own_items}
use Rattle.v_flat.proofs.Loops.{turn, end}
use Rattle.v_flat.proofs.item.add_items.Goals as goal

pub loop-item-preserved : goal.loop-item-preserved
loop-item-preserved c =
    turn (λ x. own_item (new_name c.args.names.now) (item_of x)) (λ xs. own_items (new_name c.args.names.now) (map item_of xs)) (λ x xs. refl)
    c.args.items.now c.loop-item.item-index _ _ (map item_of c.loop-item.list.items) (map item_of c.add_item.new.list.items) (omega arith) c.loop-item.invariant
    (c.in_ok-add_item.ensures ∙ ap (λ x. map item_of c.loop-item.list.items ++ own_item (new_name c.args.names.now) (item_of x)) c.item-item.is)

pub returns : goal.returns
returns c =
    end (λ x. own_item (new_name c.args.names.now) (item_of x)) (λ xs. own_items (new_name c.args.names.now) (map item_of xs)) (λ x xs. refl) refl
    c.args.items.now c.loop-item.item-index _ (map item_of c.loop-item.list.items) (omega (arith, c.loop-item-test.false)) c.loop-item.invariant
