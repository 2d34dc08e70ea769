use Rattle.std.proofs.Common.{◌∙◌, refl, sym}
use Rattle.v_value.specs.Scope.{scope_at}
use Rattle.v_paths.proofs.Items.{fit-block, clocked-item, latched-item}
use Rattle.v_paths.proofs.item.is_latched_item.Goals as goal

pub returns-then-is_clocked : goal.returns-then-is_clocked
returns-then-is_clocked c =
    clocked-item (scope_at c.args.scope.now) c.args.item.now c.in-Always.events c.in-Always.block c.in-Always.is c.in-Always.block.value refl
    c.is_clocked.result c.is_clocked.ensures c.if-is_clocked.true

pub is_latched-requires-clause-narrow : goal.is_latched-requires-clause-narrow
is_latched-requires-clause-narrow c =
    (fit-block (scope_at c.args.scope.now) c.args.item.now c.in-Always.events c.in-Always.block c.in-Always.is c.deref.result.now c.deref.ensures c.requires.fit).narrow

pub is_latched-requires-clause-no_memory : goal.is_latched-requires-clause-no_memory
is_latched-requires-clause-no_memory c =
    (fit-block (scope_at c.args.scope.now) c.args.item.now c.in-Always.events c.in-Always.block c.in-Always.is c.deref.result.now c.deref.ensures c.requires.fit).no_memory
    (sym c.is_clocked.ensures ∙ c.if-is_clocked.false)

pub returns-in_ok-latched-in-Always : goal.returns-in_ok-latched-in-Always
returns-in_ok-latched-in-Always c =
    latched-item (scope_at c.args.scope.now) c.args.item.now c.in-Always.events c.in-Always.block c.in-Always.is c.deref.result.now c.deref.ensures
    c.is_clocked.result _ c.is_clocked.ensures c.if-is_clocked.false c.in_ok-latched-in-Always.ensures
