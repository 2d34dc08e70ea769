use Rattle.std.proofs.Common.{◌∙◌, [], ◌∷◌, refl, ap, map, arith}
use Rattle.v_renamed.specs.NewNames.{new_name}
use Rattle.v_flat.specs.Entries.{named_in, naming_of}
use Rattle.v_flat.specs.Views.{entry_in, names_in, namings}
use Rattle.v_flat.proofs.Loops.{turn, end, pushed}
use Rattle.v_flat.proofs.tables.tables_of.Goals as goal

pub loop-place-preserved : goal.loop-place-preserved
loop-place-preserved c =
    turn (λ x. naming_of (names_in x) ∷ []) (λ xs. map naming_of (map names_in xs)) (λ x xs. refl)
    c.args.places.now c.loop-place.place-index _ _ (namings c.loop-place.tables.items) (namings c.push.new.self.items) (omega arith) c.loop-place.invariant
    (pushed new_name c.loop-place.tables.items c.push.new.self.items c.in_ok-table.table _ c.in_ok-push.ensures.items
    (c.in_ok-table.ensures ∙ ap (λ xs. named_in (map entry_in xs)) c.deref.ensures.value ∙ ap (λ x. naming_of (names_in x)) c.place-item.is))

pub returns : goal.returns
returns c =
    end (λ x. naming_of (names_in x) ∷ []) (λ xs. map naming_of (map names_in xs)) (λ x xs. refl) refl
    c.args.places.now c.loop-place.place-index _ (namings c.loop-place.tables.items) (omega (arith, c.loop-place-test.false)) c.loop-place.invariant
