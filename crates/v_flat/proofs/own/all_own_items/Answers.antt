use Rattle.std.proofs.Common.{◌∙◌, [], ◌∷◌, refl, ap, arith}
use Rattle.v_renamed.specs.NewNames.{new_name}
use Rattle.v_places.specs.Views.{spot_of, spots_of}
use Rattle.v_flat.specs.Items.{own_items}
use Rattle.v_flat.specs.Outputs.{own_lists}
use Rattle.v_flat.specs.Views.{items_of, lists_of}
use Rattle.v_flat.proofs.Loops.{turn, end, pushed}
use Rattle.v_flat.proofs.own.all_own_items.Goals as goal

pub loop-place-preserved : goal.loop-place-preserved
loop-place-preserved c =
    turn (λ x. own_items (new_name c.args.names.now) (spot_of x).of_module.items ∷ []) (λ xs. own_lists (new_name c.args.names.now) (spots_of xs)) (λ x xs. refl)
    c.args.places.now c.loop-place.place-index _ _ (lists_of c.loop-place.lists.items) (lists_of c.push.new.self.items) (omega arith) c.loop-place.invariant
    (pushed items_of c.loop-place.lists.items c.push.new.self.items c.in_ok-list.list _ c.in_ok-push.ensures.items
    (c.in_ok-list.ensures ∙ ap (λ x. own_items (new_name c.args.names.now) (spot_of x).of_module.items) c.place-item.is))

pub returns : goal.returns
returns c =
    end (λ x. own_items (new_name c.args.names.now) (spot_of x).of_module.items ∷ []) (λ xs. own_lists (new_name c.args.names.now) (spots_of xs)) (λ x xs. refl) refl
    c.args.places.now c.loop-place.place-index _ (lists_of c.loop-place.lists.items) (omega (arith, c.loop-place-test.false)) c.loop-place.invariant
