use Rattle.std.proofs.Common.{◌≡◌, ◌<◌, ◌+◌, List, ◌∷◌, length, drop, get_or, Some, sym, ap, ◌∙◌, arith, rules, subst, [], map, add-one, drop-cons}
use Rattle.std.specs.Prelude.{codes}
use Rattle.serde_json.specs.Find.{as_array}
use Rattle.model_places.specs.ShapePlaces.{under}
use Rattle.serde_json.specs.Data.{depth}
use Rattle.serde_json.specs.View.{view, items_view}
use Rattle.serde_json.specs.declared.value.Value.{Value}
use Rattle.model_files.specs.Shape.{all_instructions, instruction_in}
use Rattle.std.proofs.lemmas.List.{drop_all}
use Rattle.ila_file.specs.Reading.{IsReading}
use Rattle.ila_file.specs.View.{instruction_view}
use Rattle.ila_file.proofs.Depth.{found_below, list_below, item_below}
use Rattle.ila_file.proofs.Instructions.{before, before_end, before_pushed}
use Rattle.ila_file.proofs.Shapes.{instruction_in-parts}
use Rattle.ila_file.proofs.shape.+instruction.Goals as goal

pub instruction_by_parts-child_under-requires : goal.instruction_by_parts-child_under-requires
instruction_by_parts-child_under-requires t c = (omega (arith, c.decreases), tt)

pub instruction_in-instruction_by_parts-requires : goal.instruction_in-instruction_by_parts-requires
instruction_in-instruction_by_parts-requires t c = (omega (arith, c.decreases), tt)

pub child_in-instructions_under-requires : goal.child_in-instructions_under-requires
child_in-instructions_under-requires t c = (omega (arith, c.decreases), tt)

pub child_under-child_in-requires : goal.child_under-child_in-requires
child_under-child_in-requires t c =
    let less : depth (view c.in-Some.found.now) < depth (view c.args.value.now) = found_below (codes "child") _ _ (sym c.in-Some.ensures) in
    (omega (arith, less, c.decreases), tt)

pub instructions_under-written_instructions-requires : goal.instructions_under-written_instructions-requires
instructions_under-written_instructions-requires t c =
    let ds = items_view c.in_ok-items.items.now.items in
    let listed : under as_array (codes "instructions") (view c.args.value.now) ≡ Some ds = search rules in
    (omega (arith, list_below (codes "instructions") (view c.args.value.now) ds listed, c.decreases), tt)

pub written_instructions-instruction_in-requires : goal.written_instructions-instruction_in-requires
written_instructions-instruction_in-requires t c =
    let vs = c.args.items.now.items in
    let i = c.loop-item.item-index in
    let here : i < length vs = search rules in
    let is : c.item-item.result ≡ get_or vs i c.item-item.result = search rules in
    (omega (arith, item_below vs i c.item-item.result here is, c.decreases), tt)

pub written_instructions-loop-item-preserved : goal.written_instructions-loop-item-preserved
written_instructions-loop-item-preserved t c =
    let vs = c.deref-item-items.result.now in
    let i = c.loop-item.item-index in
    let v = c.item-item.result in
    let kept = c.loop-item.instructions.items in
    let here : i < length vs = omega arith in
    let cut : drop i vs ≡ get_or vs i v ∷ drop (i + 1) vs = rw (add-one, drop-cons vs i v) in
    c.loop-item.invariant
    ∙ (ap (λ (us : List Value). before (map instruction_view kept) (all_instructions (items_view us))) cut
    ∙ before_pushed instruction_view kept _ c.in_ok-instruction.instruction _ (all_instructions (items_view (drop (i + 1) vs)))
    (ap (λ (w : Value). instruction_in (view w)) (sym c.item-item.is) ∙ c.in_ok-instruction.ensures) c.in_ok-push.ensures.items)

pub written_instructions-returns : goal.written_instructions-returns
written_instructions-returns t c =
    let vs = c.deref-item-items.result.now in
    let kept = c.loop-item.instructions.items in
    let over : drop c.loop-item.item-index vs ≡ [] = drop_all c.loop-item.item-index vs c.loop-item-test.false in
    ap (λ (us : List Value). all_instructions (items_view us)) (sym c.deref-item-items.ensures.value)
    ∙ (c.loop-item.invariant
    ∙ (ap (λ (us : List Value). before (map instruction_view kept) (all_instructions (items_view us))) over ∙ before_end (map instruction_view kept)))

pub instruction_in-returns : goal.instruction_in-returns
instruction_in-returns t c =
    subst (λ o. IsReading instruction_view c.instruction_by_parts.result o) (instruction_in-parts (view c.args.value.now)) c.instruction_by_parts.ensures
