use Rattle.std.proofs.Common.{false}
use Rattle.v_print.proofs.Arms.{prefixes_front}
use Rattle.v_print.proofs.Loops.{IsLoop}
use Rattle.v_print.proofs.expression.write_prefixes.Given as goal

abbrev pub invariant-loop-operator : goal.invariant-loop-operator
invariant-loop-operator l = IsLoop prefixes_front l.operators l.operator-index l.started l.initial.out l.out (prefixes_front false l.operators)
