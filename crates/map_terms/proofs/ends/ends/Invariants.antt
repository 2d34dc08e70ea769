use Rattle.std.proofs.Common.{map, take, drop}
use Rattle.verilog_meaning.specs.Expression.{Scope}
use Rattle.v_value.specs.Scope.{scope_at}
use Rattle.v_operators.specs.Meaning.{Grows}
use Rattle.v_lower.specs.Lowered.{HasImages}
use Rattle.v_lower.specs.Table.{images_at}
use Rattle.map_trees.specs.View.{instruction_tree_view}
use Rattle.mapped_designs.specs.View.{instruction_view}
use Rattle.map_terms.specs.Terms.{AreEnds}
use Rattle.map_terms.specs.Ready.{HaveEnds}
use Rattle.map_terms.specs.View.{called_of}
use Rattle.map_terms.proofs.ends.ends.Given as goal

abbrev pub invariant-loop-instruction : goal.invariant-loop-instruction
invariant-loop-instruction l = record {
  grows : Grows l.fn.terms l.terms;
  known : HasImages (scope_at l.scope) (images_at l.table) l.terms;
  rest : (m : Scope) × HaveEnds (scope_at l.scope) m (map instruction_tree_view l.entries) (map called_of (drop l.instruction-index l.instructions));
  made : AreEnds (scope_at l.scope) (images_at l.table) l.terms (map instruction_tree_view l.entries) (map called_of (take l.instruction-index l.instructions))
      (map instruction_view l.list.items);
}
