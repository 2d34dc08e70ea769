use Rattle.v_syntax.specs.Tree.{tree_of, target_of}
use Rattle.v_value.specs.Scope.{scope_at}
use Rattle.verilog_designs.specs.Reads.{or_in, reads, target_reads}
use Rattle.v_flow.proofs.Sets.{joins}
use Rattle.v_paths.proofs.path.add_assignment.Goals as goal

pub returns : goal.returns
returns c =
    let s = scope_at c.args.scope.now in
    joins _ _ _ _ _ _ c.in_ok-add_reads.ensures c.in_ok-add_target_reads.ensures (λ i. or_in (reads s (tree_of c.args.value.now)) (target_reads s (target_of c.args.target.now)))
