use Rattle.std.proofs.Common.{◌∙◌, ◌++◌, refl, ap, map, arith}
use Rattle.v_value.specs.Scope.{objects_of}
use Rattle.v_flat.specs.Entries.{flat_entry, flat_entries}
use Rattle.v_flat.specs.Views.{entry_in, names_in}
use Rattle.v_flat.proofs.Loops.{turn, end}
use Rattle.v_flat.proofs.tables.scope_of.Goals as goal

pub loop-place-preserved : goal.loop-place-preserved
loop-place-preserved c =
    turn (λ x. map flat_entry (names_in x).entries) (λ xs. flat_entries (map names_in xs)) (λ x xs. refl)
    c.args.places.now c.loop-place.place-index _ _ (objects_of c.loop-place.list.items) (objects_of c.add_names.new.list.items) (omega arith) c.loop-place.invariant
    (c.in_ok-add_names.ensures ∙ ap (λ xs. objects_of c.loop-place.list.items ++ map flat_entry (map entry_in xs)) c.deref.ensures.value
    ∙ ap (λ x. objects_of c.loop-place.list.items ++ map flat_entry (names_in x).entries) c.place-item.is)

pub returns : goal.returns
returns c =
    ap objects_of c.in_ok-scope.ensures
    ∙ end (λ x. map flat_entry (names_in x).entries) (λ xs. flat_entries (map names_in xs)) (λ x xs. refl) refl
    c.args.places.now c.loop-place.place-index _ (objects_of c.loop-place.list.items) (omega (arith, c.loop-place-test.false)) c.loop-place.invariant
