use Rattle.std.proofs.Common.{◌∙◌, ap, arith, cond, Some}
use Rattle.std.proofs.lemmas.Map.Text.{btree_map_updates_str}
use Rattle.wb_values.specs.Value.{same_name}
use Rattle.v_hier.specs.Tables.{under_name}
use Rattle.v_places.specs.Views.{spot_of}
use Rattle.v_ordered.proofs.Entered.{entered}
use Rattle.v_ordered.proofs.below.enter.Goals as goal

pub returns-clause-entered : goal.returns-clause-entered
returns-clause-entered c =
    let x = spot_of c.args.place.now in
    let table = c.index_mut-table.result.now in
    entered c.args.number x c.args.tables.now.items c.insert.new.self table (omega (arith, c.if-place-number.false)) (omega (arith, c.requires, c.if-place-number.false))
    (λ q. btree_map_updates_str c.instance_name.result.now table c.insert.new.self (Some c.args.number) c.in_ok-insert.ensures.updates q
    ∙ ap (λ m. cond (same_name m q) (Some c.args.number) (under_name table q)) c.instance_name.ensures
    ∙ ap (λ t. cond (same_name x.instance q) (Some c.args.number) (under_name t q)) c.index_mut-table.ensures.value)
