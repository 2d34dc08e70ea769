use Rattle.std.proofs.Common.{◌≡◌, ◌++◌, map, drop}
use Rattle.model_meaning.specs.Model.{states_of}
use Rattle.v_syntax.specs.Source.{item_of}
use Rattle.ila_model.specs.Model.{model_of}
use Rattle.emitted_modules.specs.Rtl.{register_item}
use Rattle.emitted_trees.proofs.items.registers.Given as goal

abbrev pub invariant-loop-place : goal.invariant-loop-place
invariant-loop-place l =
    map item_of l.items.items ++ map register_item (drop l.place (states_of (model_of l.model).top)) ≡ map register_item (states_of (model_of l.model).top)
