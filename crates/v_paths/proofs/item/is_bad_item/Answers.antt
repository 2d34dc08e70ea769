use Rattle.v_value.specs.Scope.{scope_at}
use Rattle.v_hier.specs.Tables.{has_name}
use Rattle.v_paths.proofs.Items.{fit-block, bad-item}
use Rattle.v_paths.proofs.item.is_bad_item.Goals as goal

pub has_event_list-requires-clause-narrow : goal.has_event_list-requires-clause-narrow
has_event_list-requires-clause-narrow c =
    (fit-block (scope_at c.args.scope.now) c.args.item.now c.in-Always.events c.in-Always.block c.in-Always.is c.deref.result.now c.deref.ensures c.requires.fit).narrow

pub has_event_list-requires-clause-no_memory : goal.has_event_list-requires-clause-no_memory
has_event_list-requires-clause-no_memory c =
    (fit-block (scope_at c.args.scope.now) c.args.item.now c.in-Always.events c.in-Always.block c.in-Always.is c.deref.result.now c.deref.ensures c.requires.fit).no_memory

pub returns-in_ok-may-in-Always : goal.returns-in_ok-may-in-Always
returns-in_ok-may-in-Always c =
    bad-item (scope_at c.args.scope.now) c.args.item.now c.in-Always.events c.in-Always.block c.in-Always.is c.deref.result.now c.deref.ensures (has_name c.args.clocks.now) _ c.in_ok-may-in-Always.ensures
