use Rattle.std.proofs.lemmas.Result.{on_ok_weaker}
use Rattle.verilog_designs.specs.Reads.{or_in}
use Rattle.v_value.specs.Scope.{scope_at}
use Rattle.v_syntax.specs.Tree.{tree_of, target_of}
use Rattle.v_flow.specs.Flow.{reads_at, target_reads_at}
use Rattle.v_flow.proofs.Sets.{joins}
use Rattle.v_flow.proofs.Flows as flow
use Rattle.v_flow.proofs.statement.add_assignment.Goals as goal

pub returns : goal.returns
returns c = on_ok_weaker c.add_indexes.result (λ k. joins _ _ _ _ _ _ c.in_ok-add_read.ensures k (λ i. or_in (reads_at (scope_at c.args.scope.now) (tree_of c.args.value.now)) (target_reads_at (scope_at c.args.scope.now) (target_of c.args.target.now)))) c.add_indexes.ensures
