use Rattle.std.proofs.Common.{◌≤◌, ◌∙◌, ap, sym, subst}
use Rattle.v_syntax.specs.Tree.{tree_of, target_of}
use Rattle.v_value.specs.Scope.{scope_at}
use Rattle.v_lower.specs.Table.{images_at}
use Rattle.v_lower.proofs.Lowering.{images_kept}
use Rattle.v_write.specs.Parts.{AreParts, counts}
use Rattle.v_write.specs.Selecting.{ArePrepared}
use Rattle.v_write.proofs.Indexed.{assignment_prepared, assignment_width}
use Rattle.v_write.proofs.preparing.prepared.Goals as goal

pub add_parts-requires-clause-parts : goal.add_parts-requires-clause-parts
add_parts-requires-clause-parts c = subst (AreParts (scope_at c.args.scope.now) c.args.terms.now) (sym c.new-parts.ensures.items) tt

pub width_of_parts-width-requires : goal.width_of_parts-width-requires
width_of_parts-width-requires c = subst (λ k. k ≤ 128) (sym (ap counts c.deref.ensures.value ∙ (assignment_width (scope_at c.args.scope.now) (images_at c.args.table.now) c.args.terms.now c.add_parts.new.terms (target_of c.args.target.now) c.add_parts.new.parts.items (subst (λ qs. ArePrepared (scope_at c.args.scope.now) (images_at c.args.table.now) c.args.terms.now qs (target_of c.args.target.now) c.add_parts.new.terms c.add_parts.new.parts.items) c.new-parts.ensures.items c.in_ok-add_parts.ensures.prepared)))) c.requires.sound.2

pub assigned-requires-clause-known : goal.assigned-requires-clause-known
assigned-requires-clause-known c = images_kept (scope_at c.args.scope.now) (images_at c.args.table.now) c.args.terms.now c.add_parts.new.terms c.in_ok-add_parts.ensures.grows c.requires.known

pub assigned-requires-clause-some_bits : goal.assigned-requires-clause-some_bits
assigned-requires-clause-some_bits c = subst (λ k. 1 ≤ k) (sym (c.width_of_parts-width.ensures ∙ (ap counts c.deref.ensures.value ∙ (assignment_width (scope_at c.args.scope.now) (images_at c.args.table.now) c.args.terms.now c.add_parts.new.terms (target_of c.args.target.now) c.add_parts.new.parts.items (subst (λ qs. ArePrepared (scope_at c.args.scope.now) (images_at c.args.table.now) c.args.terms.now qs (target_of c.args.target.now) c.add_parts.new.terms c.add_parts.new.parts.items) c.new-parts.ensures.items c.in_ok-add_parts.ensures.prepared))))) c.requires.sound.1

pub assigned-requires-clause-at_most_128 : goal.assigned-requires-clause-at_most_128
assigned-requires-clause-at_most_128 c = subst (λ k. k ≤ 128) (sym (c.width_of_parts-width.ensures ∙ (ap counts c.deref.ensures.value ∙ (assignment_width (scope_at c.args.scope.now) (images_at c.args.table.now) c.args.terms.now c.add_parts.new.terms (target_of c.args.target.now) c.add_parts.new.parts.items (subst (λ qs. ArePrepared (scope_at c.args.scope.now) (images_at c.args.table.now) c.args.terms.now qs (target_of c.args.target.now) c.add_parts.new.terms c.add_parts.new.parts.items) c.new-parts.ensures.items c.in_ok-add_parts.ensures.prepared))))) c.requires.sound.2

pub returns-clause-prepared : goal.returns-clause-prepared
returns-clause-prepared c =
    assignment_prepared (scope_at c.args.scope.now) (images_at c.args.table.now) c.args.terms.now c.add_parts.new.terms c.assigned.new.terms (target_of c.args.target.now) (tree_of c.args.expression.now) c.add_parts.new.parts.items c.in_ok-value.value.0 c.width_of_parts-width.result
    (images_kept (scope_at c.args.scope.now) (images_at c.args.table.now) c.args.terms.now c.add_parts.new.terms c.in_ok-add_parts.ensures.grows c.requires.known) c.in_ok-value.ensures.grows (c.width_of_parts-width.ensures ∙ ap counts c.deref.ensures.value)
    (subst (λ qs. ArePrepared (scope_at c.args.scope.now) (images_at c.args.table.now) c.args.terms.now qs (target_of c.args.target.now) c.add_parts.new.terms c.add_parts.new.parts.items) c.new-parts.ensures.items c.in_ok-add_parts.ensures.prepared)
    c.in_ok-value.ensures.assigned.of_sort c.in_ok-value.ensures.assigned.value
