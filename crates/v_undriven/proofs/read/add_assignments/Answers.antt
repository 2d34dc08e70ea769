use Rattle.std.proofs.Common.{◌∙◌, ap, subst, arith}
use Rattle.std.proofs.lemmas.List.{at_drop_all}
use Rattle.verilog_designs.specs.Reads.{or_in}
use Rattle.v_value.specs.Scope.{scope_at}
use Rattle.v_statement.proofs.Runs.{rest_is}
use Rattle.v_flow.specs.Spans.{bits_in}
use Rattle.v_flow.proofs.Sets.{turn, end}
use Rattle.v_drivers.specs.Lists.{links_of}
use Rattle.v_undriven.specs.Reads.{links_read}
use Rattle.v_undriven.specs.Premises.{AreNarrowValues}
use Rattle.v_undriven.proofs.read.add_assignments.Goals as goal

pub add_reads-requires-clause-narrow : goal.add_reads-requires-clause-narrow
add_reads-requires-clause-narrow c =
    let s = scope_at c.args.scope.now in
    let rest = rest_is c.args.assignments.now c.loop-assignment.assignment-index c.assignment-item.result (omega arith) c.assignment-item.is in
    (subst (λ ys. AreNarrowValues s (links_of ys)) rest c.loop-assignment.invariant.narrow).0

pub loop-assignment-preserved : goal.loop-assignment-preserved
loop-assignment-preserved c =
    let s = scope_at c.args.scope.now in
    let rest = rest_is c.args.assignments.now c.loop-assignment.assignment-index c.assignment-item.result (omega arith) c.assignment-item.is in
    record {
      same = turn _ _ _ _ _
          (c.loop-assignment.invariant.same ∙ ap (λ ys. or_in (bits_in c.loop-assignment.found.items) (links_read s (links_of ys))) rest)
          c.in_ok-add_reads.ensures;
      narrow = (subst (λ ys. AreNarrowValues s (links_of ys)) rest c.loop-assignment.invariant.narrow).1;
    }

pub returns : goal.returns
returns c =
    let s = scope_at c.args.scope.now in
    end _ _ _ c.loop-assignment.invariant.same
    (at_drop_all (λ ys. links_read s (links_of ys)) c.args.assignments.now c.loop-assignment.assignment-index c.loop-assignment-test.false)
