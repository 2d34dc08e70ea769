use Rattle.std.proofs.Common.{◌∙◌, map, ap, subst, arith}
use Rattle.std.proofs.lemmas.List.{at_drop_all}
use Rattle.verilog_meaning.specs.Expression.{Object}
use Rattle.wb_terms.specs.Graph.{Graph}
use Rattle.wb_terms.specs.Sort.{as_sort}
use Rattle.v_value.specs.Scope.{scope_at}
use Rattle.v_lower.specs.Lowered.{IsSortOf}
use Rattle.v_elab.proofs.Entering.{storing_start, storing_fresh, storing_turn, storing_end}
use Rattle.v_elab.proofs.declaring.store_of.Goals as goal

pub loop-name-init : goal.loop-name-init
loop-name-init c =
    record {
      so_far = storing_start (scope_at c.args.scope.now) (map (λ n. n.now) c.args.list.now) c.in_ok-terms.terms.names (ap (λ (g : Graph). g.names) c.in_ok-terms.ensures) c.requires.distinct;
      nodes = ap (λ (g : Graph). g.nodes) c.in_ok-terms.ensures;
    }

pub declare-requires-clause-fresh : goal.declare-requires-clause-fresh
declare-requires-clause-fresh c =
    storing_fresh (scope_at c.args.scope.now) (map (λ n. n.now) c.args.list.now) c.args.list.now c.loop-name.name-index _ c.loop-name.terms.names (omega arith) c.loop-name.invariant.so_far

pub loop-name-preserved : goal.loop-name-preserved
loop-name-preserved c =
    record {
      so_far = storing_turn (scope_at c.args.scope.now) (map (λ n. n.now) c.args.list.now) c.args.list.now c.loop-name.name-index _ c.loop-name.terms c.declare.new.terms _ (omega arith)
          (subst (λ (o : Object). IsSortOf o (as_sort c.sort_of.result)) c.object.ensures c.sort_of.ensures.of_object) c.in_ok-declare.ensures c.loop-name.invariant.so_far;
      nodes = ap (λ (g : Graph). g.nodes) c.in_ok-declare.ensures ∙ c.loop-name.invariant.nodes;
    }

pub returns-clause-names : goal.returns-clause-names
returns-clause-names c =
    storing_end (scope_at c.args.scope.now) _ _ c.loop-name.terms.names (at_drop_all (map (λ n. n.now)) c.args.list.now c.loop-name.name-index c.loop-name-test.false)
    c.loop-name.invariant.so_far
