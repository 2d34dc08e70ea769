use Rattle.std.proofs.Common.{◌∙◌, ap, sym, map, cond, Some, arith}
use Rattle.std.specs.String.{string_bytes}
use Rattle.std.proofs.lemmas.List.{at_drop_all}
use Rattle.wb_values.specs.Value.{same_name}
use Rattle.v_flat.specs.Entries.{named_after}
use Rattle.v_flat.specs.Views.{entry_in}
use Rattle.v_flat.proofs.Made.{entered, table_turn}
use Rattle.v_ordered.specs.Tables.{text_under}
use Rattle.v_ordered.proofs.naming.table_of.Goals as goal

pub loop-each-preserved : goal.loop-each-preserved
loop-each-preserved c = λ q.
    table_turn c.args.names.now c.loop-each.each-index _ (text_under c.loop-each.table q) (text_under c.insert.new.self q) _ q (omega arith) (c.loop-each.invariant q)
    (entered c.loop-each.table c.insert.new.self c.each-item.result.name c.as_str.result c.in_ok-insert.ensures.updates q
    ∙ ap (λ t. cond (same_name c.each-item.result.name.now q) (Some t) (text_under c.loop-each.table q)) c.as_str.ensures.value
    ∙ ap (λ x. cond (same_name x.name.now q) (Some (string_bytes x.text)) (text_under c.loop-each.table q)) c.each-item.is)

pub returns : goal.returns
returns c = λ q.
    sym (at_drop_all (λ xs. named_after (text_under c.loop-each.table q) (map entry_in xs) q) c.args.names.now c.loop-each.each-index (omega (arith, c.loop-each-test.false)))
    ∙ c.loop-each.invariant q
