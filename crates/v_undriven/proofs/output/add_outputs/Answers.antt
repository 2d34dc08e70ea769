use Rattle.std.proofs.Common.{arith}
use Rattle.std.proofs.lemmas.List.{at_drop_all}
use Rattle.v_value.specs.Scope.{scope_at}
use Rattle.v_flow.proofs.Sets.{end}
use Rattle.v_scopes.specs.Rows.{rows_of}
use Rattle.v_undriven.specs.Reads.{outputs_read}
use Rattle.v_undriven.proofs.Reading.{outputs-turn}
use Rattle.v_undriven.proofs.output.add_outputs.Goals as goal

pub loop-each-preserved : goal.loop-each-preserved
loop-each-preserved c =
    outputs-turn (scope_at c.args.scope.now) c.args.names.now c.args.declared.now c.loop-each.each-index _ _ _ _ (omega arith) c.in_ok-add_output.ensures c.loop-each.invariant

pub returns : goal.returns
returns c =
    end _ _ _ c.loop-each.invariant
    (at_drop_all (λ ys. outputs_read (scope_at c.args.scope.now) c.args.names.now (rows_of ys)) c.args.declared.now c.loop-each.each-index c.loop-each-test.false)
