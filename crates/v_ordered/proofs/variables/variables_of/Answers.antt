use Rattle.std.proofs.Common.{◌∙◌, ◌∷◌, ◌+◌, ◌||◌, ap, sym, map, drop, arith}
use Rattle.std.proofs.lemmas.List.{drop_more}
use Rattle.verilog_meaning.specs.Hierarchy.{item_declarations}
use Rattle.verilog_registers.specs.Order.{is_variable_among}
use Rattle.v_hier.specs.Tables.{has_name}
use Rattle.v_syntax.specs.Source.{item_of}
use Rattle.v_ordered.proofs.Texts.{item_turn}
use Rattle.v_ordered.proofs.variables.variables_of.Goals as goal

pub loop-item-preserved : goal.loop-item-preserved
loop-item-preserved c = λ q.
    let i = c.loop-item.item-index in
    let items = c.args.items.now in
    item_turn (item_of c.item-item.result) (map item_of (drop (i + 1) items)) _ (has_name c.loop-item.names q) (has_name c.add_item.new.names q) q
    (c.loop-item.invariant q
    ∙ ap (λ xs. has_name c.loop-item.names q || is_variable_among (item_declarations (map item_of xs)) q) (drop_more items i _ (omega arith))
    ∙ ap (λ x. has_name c.loop-item.names q || is_variable_among (item_declarations (item_of x ∷ map item_of (drop (i + 1) items))) q) (sym c.item-item.is))
    (c.in_ok-add_item.ensures q)
