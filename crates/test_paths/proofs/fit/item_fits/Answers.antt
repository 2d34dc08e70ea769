use Rattle.v_value.specs.Scope.{scope_at}
use Rattle.test_paths.proofs.Parts.{fit-block}
use Rattle.test_paths.proofs.fit.item_fits.Goals as goal

pub returns-in-Always : goal.returns-in-Always
returns-in-Always c = λ t.
    fit-block (scope_at c.args.names.scope.now) c.args.item.now c.in-Always.field-0 c.in-Always.block c.in-Always.is c.deref.result.now c.deref.ensures c.requires (c.statement_fits.ensures t)
