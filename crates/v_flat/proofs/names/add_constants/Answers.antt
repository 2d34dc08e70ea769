use Rattle.std.proofs.Common.{[], ◌∷◌, refl, map, arith}
use Rattle.v_value.specs.Scope.{object_of, objects_of}
use Rattle.v_flat.specs.Entries.{dotted_entry, dotted_entries}
use Rattle.v_flat.specs.Views.{entry_in}
use Rattle.v_flat.proofs.Loops.{turn, end, pushed}
use Rattle.v_flat.proofs.names.add_constants.Goals as goal

pub loop-each-preserved : goal.loop-each-preserved
loop-each-preserved c =
    let front = c.args.front.now in
    turn (λ x. dotted_entry front (x.name.now, object_of x.object) ∷ []) (λ xs. dotted_entries front (objects_of xs)) (λ x xs. refl)
    c.args.constants.now c.loop-each.each-index _ _ (map entry_in c.loop-each.list.items) (map entry_in c.push.new.self.items) (omega arith) c.loop-each.invariant
    (pushed entry_in c.loop-each.list.items c.push.new.self.items c.in_ok-entry.entry _ c.in_ok-push.ensures.items
    c.in_ok-entry.ensures)

pub returns : goal.returns
returns c =
    let front = c.args.front.now in
    end (λ x. dotted_entry front (x.name.now, object_of x.object) ∷ []) (λ xs. dotted_entries front (objects_of xs)) (λ x xs. refl) refl
    c.args.constants.now c.loop-each.each-index _ (map entry_in c.loop-each.list.items) (omega (arith, c.loop-each-test.false)) c.loop-each.invariant
