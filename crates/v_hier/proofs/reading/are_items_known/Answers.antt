use Rattle.std.proofs.Common.{refl, map, List, arith}
use Rattle.verilog_designs.specs.Names.{Mention, all_item_mentions, item_mentions}
use Rattle.v_syntax.specs.declared.module.Item.{Item}
use Rattle.v_syntax.specs.Source.{item_of}
use Rattle.v_hier.proofs.Mentions.{read-known, loop-more, loop-stop}
use Rattle.v_hier.proofs.reading.are_items_known.Goals as goal

abbrev all : List Item → List Mention
all ds = all_item_mentions (map item_of ds)

abbrev part : Item → List Mention
part d = item_mentions (item_of d)

pub loop-item-preserved : goal.loop-item-preserved
loop-item-preserved c =
    loop-more all part (λ d ds. refl) c.args.items.now c.loop-item.item-index c.item-item.result c.args.names.now c.loop-item.names c.is_item_known.new.names (omega arith) c.item-item.is c.loop-item.invariant
    (read-known c.loop-item.names c.is_item_known.new.names _ _ _ c.if-not-branch.false c.in_ok-is_item_known.ensures)

pub returns-then-not-branch : goal.returns-then-not-branch
returns-then-not-branch c =
    loop-stop all part (λ d ds. refl) c.args.items.now c.loop-item.item-index c.item-item.result c.args.names.now c.loop-item.names c.is_item_known.new.names c.is_item_known.new.names (omega arith) c.item-item.is c.loop-item.invariant
    (read-known c.loop-item.names c.is_item_known.new.names _ _ _ c.if-not-branch.true c.in_ok-is_item_known.ensures)
