use Rattle.std.proofs.Common.{◌≡◌, drop}
use Rattle.verilog_meaning.specs.Statement.{all_signed}
use Rattle.v_value.specs.Scope.{scope_at}
use Rattle.v_syntax.specs.Tree.{expressions_of}
use Rattle.v_write.proofs.choosing.all_signed.Given as goal

abbrev pub invariant-loop-expression : goal.invariant-loop-expression
invariant-loop-expression l =
    all_signed (scope_at l.scope) (expressions_of l.expressions) ≡ all_signed (scope_at l.scope) (expressions_of (drop l.expression-index l.expressions))
