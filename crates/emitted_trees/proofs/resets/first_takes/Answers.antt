use Rattle.std.proofs.Common.{arith, ap, map, ◌++◌}
use Rattle.model_meaning.specs.Model.{states_of}
use Rattle.v_syntax.specs.Tree.{statement_of}
use Rattle.ila_model.specs.Model.{model_of}
use Rattle.emitted_trees.proofs.Written.{first_statements, first_more, first_all}
use Rattle.emitted_trees.proofs.resets.first_takes.Goals as goal

pub loop-place-init : goal.loop-place-init
loop-place-init c = ap (λ xs. map statement_of xs ++ first_statements (states_of (model_of c.args.model.now).top)) c.new-all.ensures.items

pub loop-place-preserved : goal.loop-place-preserved
loop-place-preserved c =
    first_more (states_of (model_of c.args.model.now).top) c.loop-place.place _ _ _ _ (map statement_of c.loop-place.all.items) _ c.state_name-name.ensures c.state_sort-sort.ensures.sort
    c.initial_value.ensures c.loop-place.invariant c.in_ok-all.ensures

pub returns : goal.returns
returns c =
    first_all (states_of (model_of c.args.model.now).top) c.loop-place.place (map statement_of c.loop-place.all.items)
    (omega (arith, c.loop-place-test.false, c.state_count-place-end.ensures.states)) c.loop-place.invariant
