use Rattle.std.proofs.Common.{◌≡◌, ◌++◌, drop}
use Rattle.v_instances.specs.Texts.{texts}
use Rattle.map_judged.specs.Asked.{code_names}
use Rattle.map_judged.proofs.expression.all_names.Given as goal

abbrev pub invariant-loop-expression : goal.invariant-loop-expression
invariant-loop-expression l = code_names l.expressions ≡ texts l.all.items ++ code_names (drop l.expression-index l.expressions)
