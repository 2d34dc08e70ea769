use Rattle.std.proofs.Common.{arith, ap, map, ◌++◌, List}
use Rattle.model_meaning.specs.Model.{states_of}
use Rattle.v_syntax.specs.Source.{item_of}
use Rattle.ila_model.specs.Model.{model_of}
use Rattle.emitted_modules.specs.Rtl.{register_item}
use Rattle.emitted_names.proofs.Turns.{ended}
use Rattle.emitted_trees.proofs.Whole.{register_more}
use Rattle.emitted_trees.proofs.items.registers.Goals as goal

pub loop-place-init : goal.loop-place-init
loop-place-init c = ap (λ xs. map item_of xs ++ map register_item (states_of (model_of c.args.model.now).top)) c.new-items.ensures.items

pub loop-place-preserved : goal.loop-place-preserved
loop-place-preserved c =
    register_more (states_of (model_of c.args.model.now).top) c.loop-place.place _ _ _ _ _ _ c.state_name.ensures c.state_sort.ensures.sort c.loop-place.invariant c.in_ok-item.ensures
    c.in_ok-items.ensures

pub returns : goal.returns
returns c =
    ended register_item (states_of (model_of c.args.model.now).top) c.loop-place.place _ (map item_of c.loop-place.items.items)
    (omega (arith, c.loop-place-test.false, c.state_count-place-end.ensures.states)) c.loop-place.invariant
