use Rattle.v_token.specs.View.{mark_of}
use Rattle.v_syntax.specs.Tree.{tree_of, target_of}
use Rattle.v_print.proofs.Written.{then, as_front}
use Rattle.v_print_source.proofs.Fronts.{assignment_whole}
use Rattle.v_print_source.proofs.target.write_assignment.Goals as goal

pub returns : goal.returns
returns c = as_front (assignment_whole (mark_of c.args.sign) (target_of c.args.target.now) (tree_of c.args.value.now)) (then c.in_ok-write_target.ensures (then c.in_ok-between.ensures c.in_ok-write.ensures))
