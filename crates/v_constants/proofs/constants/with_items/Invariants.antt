use Rattle.std.proofs.Common.{◌≡◌, drop, map}
use Rattle.verilog_meaning.specs.Hierarchy.{body_parameters}
use Rattle.verilog_designs.specs.Known.{with_known_parameters}
use Rattle.v_syntax.specs.Source.{item_of}
use Rattle.v_value.specs.Scope.{objects_of}
use Rattle.v_constants.specs.Given.{given_at}
use Rattle.v_constants.proofs.constants.with_items.Given as goal

abbrev pub invariant-loop-item : goal.invariant-loop-item
invariant-loop-item l =
    with_known_parameters (body_parameters (map item_of (drop l.item-index l.items))) (given_at l.given) (objects_of l.known.scope.declarations.items)
    ≡ with_known_parameters (body_parameters (map item_of l.items)) (given_at l.given) (objects_of l.initial.known.scope.declarations.items)
