use Rattle.v_syntax.specs.Tree.{tree_of, target_of}
use Rattle.v_value.specs.Scope.{scope_at}
use Rattle.v_lower.specs.Table.{images_at}
use Rattle.std.proofs.Common.{◌∙◌, ap, sym, subst}
use Rattle.v_lower.proofs.Lowering.{images_kept}
use Rattle.v_write.specs.Parts.{AreParts, counts}
use Rattle.v_write.specs.Written.{ArePartsWritten}
use Rattle.v_write.proofs.Kept.{guard_there}
use Rattle.v_write.proofs.Running.{blocking_ran}
use Rattle.v_write.proofs.statement.assign.Goals as goal

pub write_parts-requires-clause-known : goal.write_parts-requires-clause-known
write_parts-requires-clause-known c = images_kept (scope_at c.args.scope.now) (images_at c.args.table.now) c.args.terms.now c.prepared.new.terms c.in_ok-ready.ensures.grows c.requires.known

pub write_parts-requires-clause-parts : goal.write_parts-requires-clause-parts
write_parts-requires-clause-parts c = subst (AreParts (scope_at c.args.scope.now) c.prepared.new.terms) (sym c.deref.ensures.value) c.in_ok-ready.ensures.prepared.parts

pub write_parts-requires-clause-number : goal.write_parts-requires-clause-number
write_parts-requires-clause-number c = c.in_ok-ready.ensures.prepared.of_sort

pub write_parts-requires-clause-width : goal.write_parts-requires-clause-width
write_parts-requires-clause-width c = c.in_ok-ready.ensures.prepared.width ∙ ap counts (sym c.deref.ensures.value)

pub write_parts-requires-clause-guard : goal.write_parts-requires-clause-guard
write_parts-requires-clause-guard c = guard_there c.args.terms.now c.prepared.new.terms c.in_ok-ready.ensures.grows c.args.guard c.requires.guard

pub returns-clause-ran : goal.returns-clause-ran
returns-clause-ran c n next =
    blocking_ran (scope_at c.args.scope.now) c.args.terms.now c.prepared.new.terms c.write_parts.new.terms c.args.guard (target_of c.args.target.now) (tree_of c.args.expression.now) c.in_ok-ready.ready.parts.items c.in_ok-ready.ready.value.0 c.in_ok-ready.ready.width c.in_ok-ready.ensures.grows c.requires.guard
    (images_at c.args.table.now) n (images_at c.write_parts.new.table) c.requires.known next c.in_ok-write_parts.ensures.grows c.in_ok-ready.ensures.prepared
    (subst (λ qs. ArePartsWritten (scope_at c.args.scope.now) (images_at c.args.table.now) c.prepared.new.terms c.args.guard qs c.in_ok-ready.ready.value.0 c.in_ok-ready.ready.width (images_at c.write_parts.new.table) c.write_parts.new.terms) c.deref.ensures.value c.in_ok-write_parts.ensures.written)
