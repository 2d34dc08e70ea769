use Rattle.std.proofs.Common.{arith, ap, map, ◌++◌}
use Rattle.model_meaning.specs.Model.{states_of}
use Rattle.v_syntax.specs.Tree.{statement_of}
use Rattle.ila_model.specs.Model.{model_of}
use Rattle.emitted_trees.proofs.Written.{kept_statements, kept_more, kept_all}
use Rattle.emitted_trees.proofs.resets.reset_statements.Goals as goal

pub loop-place-init : goal.loop-place-init
loop-place-init c = ap (λ xs. xs ++ kept_statements (states_of (model_of c.args.model.now).top)) c.in_ok-all.ensures

pub loop-place-preserved : goal.loop-place-preserved
loop-place-preserved c =
    kept_more (states_of (model_of c.args.model.now).top) c.loop-place.place _ _ _ (map statement_of c.loop-place.all.items) _ c.state_name-name.ensures c.state_sort-sort.ensures.sort
    c.loop-place.invariant c.in_ok-all-2.ensures

pub returns : goal.returns
returns c =
    kept_all (states_of (model_of c.args.model.now).top) c.loop-place.place _ (map statement_of c.loop-place.all.items)
    (omega (arith, c.loop-place-test.false, c.state_count-place-end.ensures.states)) c.loop-place.invariant
