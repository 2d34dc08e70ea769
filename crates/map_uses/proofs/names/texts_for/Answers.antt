use Rattle.std.proofs.Common.{arith}
use Rattle.map_uses.specs.Table.{new_name_in}
use Rattle.map_uses.proofs.Turning.{no_texts, text_more_of, all_texts}
use Rattle.map_uses.proofs.names.texts_for.Goals as goal

pub loop-name-init : goal.loop-name-init
loop-name-init c = no_texts (new_name_in c.args.table.now) c.args.expression.now.names.items c.new-list.result.items c.new-list.ensures.items

pub loop-name-preserved : goal.loop-name-preserved
loop-name-preserved c =
    text_more_of (new_name_in c.args.table.now) c.args.expression.now.names.items c.deref-name-items.result.now c.deref-name-items.ensures.value c.loop-name.name-index _
    c.loop-name.list.items c.push.new.self.items c.in_ok-text.text (omega arith) c.in_ok-push.ensures.items c.in_ok-text.ensures.name c.in_ok-text.ensures.text
    c.loop-name.invariant

pub returns-clause-names : goal.returns-clause-names
returns-clause-names c =
    all_texts (new_name_in c.args.table.now) c.args.expression.now.names.items c.loop-name.name-index c.loop-name.list.items
    (omega (arith, c.loop-name-test.false)) c.loop-name.invariant

pub returns-clause-texts : goal.returns-clause-texts
returns-clause-texts c = c.loop-name.invariant.1
