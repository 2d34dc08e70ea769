use Rattle.std.proofs.Common.{◌∙◌, None, ap, sym, subst}
use Rattle.wb_values.specs.Value.{word}
use Rattle.v_syntax.specs.Tree.{target_of}
use Rattle.v_value.specs.Scope.{scope_at}
use Rattle.v_operators.proofs.Growing.{IsOfSort-kept}
use Rattle.v_lower.specs.Table.{images_at}
use Rattle.v_lower.proofs.Lowering.{images_kept}
use Rattle.v_write.specs.Parts.{AreParts, counts}
use Rattle.v_write.specs.Written.{ArePartsWritten}
use Rattle.v_write.specs.Selecting.{ArePrepared}
use Rattle.v_write.proofs.Indexed.{assignment_width}
use Rattle.v_write.proofs.Whole.{target_written}
use Rattle.v_write.proofs.block.write_number.Goals as goal

pub add_parts-requires-clause-parts : goal.add_parts-requires-clause-parts
add_parts-requires-clause-parts c = subst (AreParts (scope_at c.args.scope.now) c.args.terms.now) (sym c.new-parts.ensures.items) tt

pub write_parts-requires-clause-known : goal.write_parts-requires-clause-known
write_parts-requires-clause-known c = images_kept (scope_at c.args.scope.now) (images_at c.args.table.now) c.args.terms.now c.add_parts.new.terms c.in_ok-add_parts.ensures.grows c.requires.known

pub write_parts-requires-clause-parts : goal.write_parts-requires-clause-parts
write_parts-requires-clause-parts c = subst (AreParts (scope_at c.args.scope.now) c.add_parts.new.terms) (sym c.deref.ensures.value) c.in_ok-add_parts.ensures.prepared.parts

pub write_parts-requires-clause-number : goal.write_parts-requires-clause-number
write_parts-requires-clause-number c = IsOfSort-kept c.args.number.0 (word c.args.width) c.in_ok-add_parts.ensures.grows c.requires.number

pub write_parts-requires-clause-width : goal.write_parts-requires-clause-width
write_parts-requires-clause-width c =
    c.requires.width ∙ (sym (assignment_width (scope_at c.args.scope.now) (images_at c.args.table.now) c.args.terms.now c.add_parts.new.terms (target_of c.args.target.now) c.add_parts.new.parts.items (subst (λ qs. ArePrepared (scope_at c.args.scope.now) (images_at c.args.table.now) c.args.terms.now qs (target_of c.args.target.now) c.add_parts.new.terms c.add_parts.new.parts.items) c.new-parts.ensures.items c.in_ok-add_parts.ensures.prepared)) ∙ ap counts (sym c.deref.ensures.value))

pub write_parts-requires-clause-guard : goal.write_parts-requires-clause-guard
write_parts-requires-clause-guard c = tt

pub returns-clause-written : goal.returns-clause-written
returns-clause-written c =
    target_written (scope_at c.args.scope.now) (images_at c.args.table.now) (images_at c.write_parts.new.table) c.args.terms.now c.add_parts.new.terms c.write_parts.new.terms (target_of c.args.target.now) c.add_parts.new.parts.items c.args.number.0 c.args.width
    c.requires.known c.in_ok-add_parts.ensures.grows c.requires.number (subst (λ qs. ArePrepared (scope_at c.args.scope.now) (images_at c.args.table.now) c.args.terms.now qs (target_of c.args.target.now) c.add_parts.new.terms c.add_parts.new.parts.items) c.new-parts.ensures.items c.in_ok-add_parts.ensures.prepared)
    (subst (λ qs. ArePartsWritten (scope_at c.args.scope.now) (images_at c.args.table.now) c.add_parts.new.terms None qs c.args.number.0 c.args.width (images_at c.write_parts.new.table) c.write_parts.new.terms) c.deref.ensures.value c.in_ok-write_parts.ensures.written)
