use Rattle.std.proofs.Common.{◌∙◌, [], ◌∷◌, ◌++◌, refl, ap, map, arith}
use Rattle.v_value.specs.Scope.{object_of, objects_of}
use Rattle.v_flat.specs.Entries.{flat_entry}
use Rattle.v_flat.specs.Views.{entry_in}
use Rattle.v_flat.proofs.Loops.{turn, end}
use Rattle.v_flat.proofs.Made.{objects_append}
use Rattle.v_flat.proofs.tables.add_names.Goals as goal

pub loop-each-preserved : goal.loop-each-preserved
loop-each-preserved c =
    turn (λ x. flat_entry (entry_in x) ∷ []) (λ xs. map flat_entry (map entry_in xs)) (λ x xs. refl)
    c.args.names.now c.loop-each.each-index _ _ (objects_of c.loop-each.list.items) (objects_of c.push.new.self.items) (omega arith) c.loop-each.invariant
    (ap objects_of c.in_ok-push.ensures.items ∙ objects_append c.loop-each.list.items (_ ∷ [])
    ∙ ap (λ t. objects_of c.loop-each.list.items ++ (t, object_of c.each-item.result.object) ∷ []) c.as_str.ensures.value
    ∙ ap (λ x. objects_of c.loop-each.list.items ++ flat_entry (entry_in x) ∷ []) c.each-item.is)

pub returns : goal.returns
returns c =
    end (λ x. flat_entry (entry_in x) ∷ []) (λ xs. map flat_entry (map entry_in xs)) (λ x xs. refl) refl
    c.args.names.now c.loop-each.each-index _ (objects_of c.loop-each.list.items) (omega (arith, c.loop-each-test.false)) c.loop-each.invariant
