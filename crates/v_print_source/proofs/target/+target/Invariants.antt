use Rattle.std.proofs.Common.{false}
use Rattle.v_print.proofs.Loops.{IsLoop}
use Rattle.v_print_source.proofs.Fronts.{targets_front}
use Rattle.v_print_source.proofs.target.+target.Given as goal

abbrev pub invariant-write_targets-loop-part : goal.invariant-write_targets-loop-part
invariant-write_targets-loop-part l = IsLoop targets_front l.parts l.part-index l.started l.initial.out l.out (targets_front false l.parts)
