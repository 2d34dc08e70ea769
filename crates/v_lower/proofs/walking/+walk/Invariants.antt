use Rattle.std.proofs.Common.{◌≡◌, ◌≤◌, ℕ, drop, take, length}
use Rattle.wb_values.specs.Value.{word}
use Rattle.verilog_trees.specs.Syntax.{Expression}
use Rattle.v_syntax.specs.Tree.{expressions_of}
use Rattle.v_syntax.specs.Chain.{linked, test_linked, chosen}
use Rattle.v_value.specs.Scope.{scope_at}
use Rattle.v_value.specs.Evaluation.{AreLinksWithin}
use Rattle.v_operators.specs.Meaning.{Grows, IsOfSort}
use Rattle.v_lower.specs.Table.{images_at}
use Rattle.v_lower.specs.Lowered.{IsLowered, AreLowered}
use Rattle.v_lower.specs.Walking.{AreLinksSound, IsBit}
use Rattle.v_lower.proofs.Turns.{IsGoing, IsTesting}
use Rattle.v_lower.proofs.walking.+walk.Given as goal

abbrev pub invariant-lower_links-loop-link : goal.invariant-lower_links-loop-link
invariant-lower_links-loop-link l = record {
  grows : Grows l.fn.terms l.terms;
  of_sort : IsOfSort l.terms l.left.0 (word l.width);
  sound : AreLinksSound (scope_at l.names.scope.now) (drop l.link-index l.links);
  within : AreLinksWithin (scope_at l.names.scope.now) l.width (drop l.link-index l.links);
  going : (x : Expression) → IsLowered (scope_at l.names.scope.now) (images_at l.names.table.now) l.fn.terms x l.width l.signed l.fn.first.0
      → IsGoing (scope_at l.names.scope.now) (images_at l.names.table.now) l.width l.signed l.terms (linked l.links x) (drop l.link-index l.links) l.left.0;
}

abbrev pub invariant-lower_tests-loop-i : goal.invariant-lower_tests-loop-i
invariant-lower_tests-loop-i l = record {
  grows : Grows l.fn.terms l.terms;
  some : 1 ≤ l.i;
  of_sort : IsOfSort l.terms l.said.0 (word 1);
  testing : (x : Expression) → IsBit (scope_at l.names.scope.now) (images_at l.names.table.now) l.fn.terms x l.fn.first.0
      → IsTesting (scope_at l.names.scope.now) (images_at l.names.table.now) l.terms (test_linked (drop 1 l.links) x) (drop l.i l.links) l.said.0;
}

abbrev pub invariant-lower_choices-loop-i : goal.invariant-lower_choices-loop-i
invariant-lower_choices-loop-i l = record {
  grows : Grows l.fn.terms l.terms;
  of_sort : IsOfSort l.terms l.other.0 (word l.width);
  chosen : (x : Expression) → IsLowered (scope_at l.names.scope.now) (images_at l.names.table.now) l.fn.terms x l.width l.signed l.fn.last.0
      → IsLowered (scope_at l.names.scope.now) (images_at l.names.table.now) l.terms (chosen (drop l.i l.choices) x) l.width l.signed l.other.0;
}

abbrev pub invariant-lower_parts-loop-i : goal.invariant-lower_parts-loop-i
invariant-lower_parts-loop-i l = record {
  grows : Grows l.fn.terms l.terms;
  some : 1 ≤ l.i;
  parts : AreLowered (scope_at l.names.scope.now) (images_at l.names.table.now) l.terms (expressions_of (take l.i l.parts)) l.all.width l.all.id.0;
}
