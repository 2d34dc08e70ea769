use Rattle.std.proofs.Common.{◌∙◌, ap, subst, arith}
use Rattle.std.proofs.lemmas.List.{at_drop_all}
use Rattle.verilog_designs.specs.Reads.{or_in, reads_in_all}
use Rattle.v_syntax.specs.Tree.{expressions_of}
use Rattle.v_value.specs.Scope.{scope_at}
use Rattle.v_value.specs.Narrow.{AreNarrow}
use Rattle.v_statement.proofs.Runs.{rest_is}
use Rattle.v_flow.specs.Spans.{bits_in}
use Rattle.v_flow.proofs.Sets.{turn, end}
use Rattle.v_paths.proofs.label.add_labels.Goals as goal

pub add_reads-requires-clause-narrow : goal.add_reads-requires-clause-narrow
add_reads-requires-clause-narrow c =
    let rest = rest_is c.args.labels.now c.loop-label.label-index c.label-item.result (omega arith) c.label-item.is in
    (subst (λ es. AreNarrow (scope_at c.args.scope.now) (expressions_of es)) rest c.loop-label.invariant.narrow).0

pub loop-label-preserved : goal.loop-label-preserved
loop-label-preserved c =
    let s = scope_at c.args.scope.now in
    let rest = rest_is c.args.labels.now c.loop-label.label-index c.label-item.result (omega arith) c.label-item.is in
    record {
      same = turn _ _ _ _ _ (c.loop-label.invariant.same ∙ ap (λ es. or_in (bits_in c.loop-label.outside.items) (reads_in_all s (expressions_of es))) rest) c.in_ok-add_reads.ensures;
      narrow = (subst (λ es. AreNarrow s (expressions_of es)) rest c.loop-label.invariant.narrow).1;
    }

pub returns : goal.returns
returns c =
    end _ _ _ c.loop-label.invariant.same
    (at_drop_all (λ es. reads_in_all (scope_at c.args.scope.now) (expressions_of es)) c.args.labels.now c.loop-label.label-index c.loop-label-test.false)
