use Rattle.std.proofs.Common.{◌∙◌, ap, subst, arith}
use Rattle.std.proofs.lemmas.List.{at_drop_all}
use Rattle.verilog_designs.specs.Reads.{or_in, reads_in_all}
use Rattle.v_syntax.specs.Tree.{expressions_of}
use Rattle.v_value.specs.Scope.{scope_at}
use Rattle.v_value.specs.Narrow.{AreNarrow}
use Rattle.v_statement.proofs.Runs.{rest_is}
use Rattle.v_flow.specs.Spans.{bits_in}
use Rattle.v_flow.proofs.Sets.{turn, end}
use Rattle.v_depend.proofs.run.add_all_reads.Goals as goal

pub add_reads-requires-clause-narrow : goal.add_reads-requires-clause-narrow
add_reads-requires-clause-narrow c =
    let s = scope_at c.args.scope.now in
    let rest = rest_is c.args.expressions.now c.loop-expression.expression-index c.expression-item.result (omega arith) c.expression-item.is in
    (subst (λ ys. AreNarrow s (expressions_of ys)) rest c.loop-expression.invariant.narrow).0

pub loop-expression-preserved : goal.loop-expression-preserved
loop-expression-preserved c =
    let s = scope_at c.args.scope.now in
    let rest = rest_is c.args.expressions.now c.loop-expression.expression-index c.expression-item.result (omega arith) c.expression-item.is in
    record {
      same = turn _ _ _ _ _ (c.loop-expression.invariant.same ∙ ap (λ ys. or_in (bits_in c.loop-expression.found.items) (reads_in_all s (expressions_of ys))) rest) c.in_ok-add_reads.ensures;
      narrow = (subst (λ ys. AreNarrow s (expressions_of ys)) rest c.loop-expression.invariant.narrow).1;
    }

pub returns : goal.returns
returns c =
    end _ _ _ c.loop-expression.invariant.same
    (at_drop_all (λ ys. reads_in_all (scope_at c.args.scope.now) (expressions_of ys)) c.args.expressions.now c.loop-expression.expression-index c.loop-expression-test.false)
