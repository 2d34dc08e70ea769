use Rattle.std.proofs.Common.{map, take, drop}
use Rattle.verilog_meaning.specs.Expression.{Scope}
use Rattle.v_value.specs.Scope.{scope_at}
use Rattle.v_operators.specs.Meaning.{Grows}
use Rattle.v_lower.specs.Lowered.{HasImages}
use Rattle.v_lower.specs.Table.{images_at}
use Rattle.map_trees.specs.View.{mapped_tree_view}
use Rattle.map_terms.specs.Terms.{AreEntryTerms}
use Rattle.map_terms.specs.Ready.{HaveReadableEntries}
use Rattle.map_terms.specs.View.{wanted_view}
use Rattle.map_terms.proofs.states.entry_terms.Given as goal

abbrev pub invariant-loop-want : goal.invariant-loop-want
invariant-loop-want l = record {
  grows : Grows l.fn.terms l.terms;
  known : HasImages (scope_at l.scope) (images_at l.table) l.terms;
  rest : (m : Scope) × HaveReadableEntries (scope_at l.scope) m (map mapped_tree_view l.entries) (map wanted_view (drop l.want-index l.wanted));
  made : AreEntryTerms (scope_at l.scope) (images_at l.table) l.terms (map mapped_tree_view l.entries) (map wanted_view (take l.want-index l.wanted))
      (map (λ id. id.0) l.list.items);
}
