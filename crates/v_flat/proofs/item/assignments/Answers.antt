use Rattle.std.proofs.Common.{◌∙◌, [], ◌∷◌, refl, ap, arith}
use Rattle.verilog_renamed.specs.Renamed.{renamed_assignment, renamed_assignments}
use Rattle.v_syntax.specs.Tree.{target_of, tree_of}
use Rattle.v_renamed.specs.NewNames.{new_name}
use Rattle.v_flat.specs.Views.{assignments_of}
use Rattle.v_flat.proofs.Loops.{turn, end, pushed}
use Rattle.v_flat.proofs.item.assignments.Goals as goal

pub loop-each-preserved : goal.loop-each-preserved
loop-each-preserved c =
    turn (λ x. renamed_assignment (new_name c.args.names.now) (target_of x.target, tree_of x.value) ∷ []) (λ xs. renamed_assignments (new_name c.args.names.now) (assignments_of xs)) (λ x xs. refl)
    c.args.assigned.now c.loop-each.each-index _ _ (assignments_of c.loop-each.list.items) (assignments_of c.push.new.self.items) (omega arith) c.loop-each.invariant
    (pushed (λ a. (target_of a.target, tree_of a.value)) c.loop-each.list.items c.push.new.self.items c.in_ok-assignment.assignment _ c.in_ok-push.ensures.items
    (c.in_ok-assignment.ensures ∙ ap (λ x. renamed_assignment (new_name c.args.names.now) (target_of x.target, tree_of x.value)) c.each-item.is))

pub returns : goal.returns
returns c =
    end (λ x. renamed_assignment (new_name c.args.names.now) (target_of x.target, tree_of x.value) ∷ []) (λ xs. renamed_assignments (new_name c.args.names.now) (assignments_of xs)) (λ x xs. refl) refl
    c.args.assigned.now c.loop-each.each-index _ (assignments_of c.loop-each.list.items) (omega (arith, c.loop-each-test.false)) c.loop-each.invariant
