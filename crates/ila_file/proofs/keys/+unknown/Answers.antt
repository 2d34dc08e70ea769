use Rattle.std.proofs.Common.{◌≡◌, ◌<◌, Some, length, get_or, sym, ◌∙◌, arith, rules}
use Rattle.std.specs.Prelude.{codes}
use Rattle.serde_json.specs.Data.{depth}
use Rattle.serde_json.specs.Find.{as_array}
use Rattle.serde_json.specs.View.{view, items_view}
use Rattle.model_places.specs.ShapePlaces.{under}
use Rattle.ila_file.proofs.Depth.{found_below, list_below, item_below}
use Rattle.ila_file.proofs.KnownKeys.{instruction_keys-parts}
use Rattle.ila_file.proofs.keys.+unknown.Goals as goal

pub instruction_has_unknown_key-instruction_by_parts-requires : goal.instruction_has_unknown_key-instruction_by_parts-requires
instruction_has_unknown_key-instruction_by_parts-requires t c = (omega (arith, c.decreases), tt)

pub instruction_by_parts-child_found_has_unknown_key-requires : goal.instruction_by_parts-child_found_has_unknown_key-requires
instruction_by_parts-child_found_has_unknown_key-requires t c = (omega (arith, c.decreases), tt)

pub child_found_has_unknown_key-child_has_unknown_key-requires : goal.child_found_has_unknown_key-child_has_unknown_key-requires
child_found_has_unknown_key-child_has_unknown_key-requires t c =
    let less : depth (view c.in-Some.child.now) < depth (view c.args.value.now) = found_below (codes "child") _ _ (sym c.in-Some.ensures) in
    (omega (arith, less, c.decreases), tt)

pub child_has_unknown_key-instructions_have_unknown_key-requires : goal.child_has_unknown_key-instructions_have_unknown_key-requires
child_has_unknown_key-instructions_have_unknown_key-requires t c = (omega (arith, c.decreases), tt)

pub instructions_have_unknown_key-some_instruction_has_unknown_key-requires : goal.instructions_have_unknown_key-some_instruction_has_unknown_key-requires
instructions_have_unknown_key-some_instruction_has_unknown_key-requires t c =
    let ds = items_view c.in-Some.items.now.items in
    let listed : under as_array (codes "instructions") (view c.args.value.now) ≡ Some ds = sym c.in-Some.ensures in
    (omega (arith, list_below (codes "instructions") (view c.args.value.now) ds listed, c.decreases), tt)

pub some_instruction_has_unknown_key-instruction_has_unknown_key-requires : goal.some_instruction_has_unknown_key-instruction_has_unknown_key-requires
some_instruction_has_unknown_key-instruction_has_unknown_key-requires t c =
    let vs = c.args.items.now.items in
    let i = c.loop-item.item-index in
    let here : i < length vs = search rules in
    let is : c.item-item.result ≡ get_or vs i c.item-item.result = search rules in
    (omega (arith, item_below vs i c.item-item.result here is, c.decreases), tt)

pub instruction_has_unknown_key-returns : goal.instruction_has_unknown_key-returns
instruction_has_unknown_key-returns t c = c.instruction_by_parts.ensures ∙ instruction_keys-parts (view c.args.value.now)
