use Rattle.std.proofs.Common.{◌∙◌, [], ◌∷◌, None, refl, ap, map, arith}
use Rattle.v_flat.specs.Entries.{named_after}
use Rattle.v_flat.specs.Views.{entry_in, names_in}
use Rattle.v_flat.proofs.Loops.{turn, end, pushed}
use Rattle.v_ordered.specs.Lines.{called_under}
use Rattle.v_ordered.specs.Tables.{text_under}
use Rattle.v_ordered.proofs.naming.tables_of.Goals as goal

pub loop-place-preserved : goal.loop-place-preserved
loop-place-preserved c =
    turn (λ x. called_under (names_in x) ∷ []) (λ xs. map called_under (map names_in xs)) (λ x xs. refl)
    c.args.places.now c.loop-place.place-index _ _ (map text_under c.loop-place.tables.items) (map text_under c.push.new.self.items) (omega arith) c.loop-place.invariant
    (pushed text_under c.loop-place.tables.items c.push.new.self.items c.in_ok-table.table _ c.in_ok-push.ensures.items
    ((λ i q. c.in_ok-table.ensures q i) ∙ ap (λ xs. named_after None (map entry_in xs)) c.deref.ensures.value ∙ ap (λ x. called_under (names_in x)) c.place-item.is))

pub returns : goal.returns
returns c =
    end (λ x. called_under (names_in x) ∷ []) (λ xs. map called_under (map names_in xs)) (λ x xs. refl) refl
    c.args.places.now c.loop-place.place-index _ (map text_under c.loop-place.tables.items) (omega (arith, c.loop-place-test.false)) c.loop-place.invariant
