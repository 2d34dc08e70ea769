use Rattle.std.proofs.Common.{◌∙◌, ◌++◌, refl, ap, map, arith}
use Rattle.std.proofs.lemmas.List.{map-append}
use Rattle.verilog_meaning.specs.Settled.{wire_assignment, wire_assignments}
use Rattle.verilog_renamed.specs.Renamed.{renamed_assignment, renamed_assignments}
use Rattle.v_syntax.specs.Source.{boxed_tree_of}
use Rattle.v_renamed.specs.NewNames.{new_name}
use Rattle.v_flat.specs.Views.{assignments_of}
use Rattle.v_flat.proofs.Loops.{turn, end}
use Rattle.v_flat.proofs.item.wires.Goals as goal

pub loop-net-preserved : goal.loop-net-preserved
loop-net-preserved c =
    turn (λ x. renamed_assignments (new_name c.args.names.now) (wire_assignment x.name.now (boxed_tree_of x.value))) (λ xs. renamed_assignments (new_name c.args.names.now) (wire_assignments (map (λ w. (w.name.now, boxed_tree_of w.value)) xs)))
    (λ x xs. map-append (renamed_assignment (new_name c.args.names.now)) (wire_assignment x.name.now (boxed_tree_of x.value)) (wire_assignments (map (λ w. (w.name.now, boxed_tree_of w.value)) xs)))
    c.args.nets.now c.loop-net.net-index _ _ (assignments_of c.loop-net.list.items) (assignments_of c.add_net.new.list.items) (omega arith) c.loop-net.invariant
    (c.in_ok-add_net.ensures ∙ ap (λ x. assignments_of c.loop-net.list.items ++ renamed_assignments (new_name c.args.names.now) (wire_assignment x.name.now (boxed_tree_of x.value))) c.net-item.is)

pub returns : goal.returns
returns c =
    end (λ x. renamed_assignments (new_name c.args.names.now) (wire_assignment x.name.now (boxed_tree_of x.value))) (λ xs. renamed_assignments (new_name c.args.names.now) (wire_assignments (map (λ w. (w.name.now, boxed_tree_of w.value)) xs)))
    (λ x xs. map-append (renamed_assignment (new_name c.args.names.now)) (wire_assignment x.name.now (boxed_tree_of x.value)) (wire_assignments (map (λ w. (w.name.now, boxed_tree_of w.value)) xs))) refl
    c.args.nets.now c.loop-net.net-index _ (assignments_of c.loop-net.list.items) (omega (arith, c.loop-net-test.false)) c.loop-net.invariant
