use Rattle.std.proofs.Common.{map, subst, sym, arith}
use Rattle.std.proofs.lemmas.Bool.{false≢true}
use Rattle.std.proofs.lemmas.List.{drop_all}
use Rattle.v_syntax.specs.Source.{item_of}
use Rattle.v_value.specs.Scope.{scope_at}
use Rattle.v_statement.proofs.Runs.{rest_is}
use Rattle.v_paths.specs.Modules.{AreFitItems}
use Rattle.test_paths.proofs.fit.items_fit.Goals as goal

pub loop-item-init : goal.loop-item-init
loop-item-init c = λ h. h

pub loop-item-preserved : goal.loop-item-preserved
loop-item-preserved c = λ h.
    c.loop-item.invariant
    (subst (λ ys. AreFitItems (scope_at c.args.names.scope.now) (map item_of ys)) (sym (rest_is c.args.items.now c.loop-item.item-index c.item-item.result (omega arith) c.item-item.is))
    (c.item_fits.ensures c.if-not-item_fits.false, h))

pub returns-then-not-item_fits : goal.returns-then-not-item_fits
returns-then-not-item_fits c = λ t. absurd (false≢true t)

pub returns : goal.returns
returns c = λ t.
    c.loop-item.invariant
    (subst (λ ys. AreFitItems (scope_at c.args.names.scope.now) (map item_of ys)) (sym (drop_all c.loop-item.item-index c.args.items.now c.loop-item-test.false)) tt)
