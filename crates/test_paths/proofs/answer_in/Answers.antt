use Rattle.std.proofs.Common.{◌≡◌, subst, false}
use Rattle.wb_values.specs.Value.{Name}
use Rattle.verilog_meaning.specs.Expression.{is_memory, scope_of}
use Rattle.v_value.specs.Scope.{objects_of}
use Rattle.test_paths.proofs.answer_in.Goals as goal

pub items_fit-requires : goal.items_fit-requires
items_fit-requires c =
    subst (λ ds. (n : Name) → is_memory (scope_of (objects_of ds) n) ≡ false) c.declarations.ensures (c.are_no_memories.ensures c.if-not-are_no_memories.false)
