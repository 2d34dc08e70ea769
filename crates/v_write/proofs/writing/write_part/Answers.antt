use Rattle.std.proofs.Common.{sym, subst}
use Rattle.v_value.specs.Scope.{scope_at}
use Rattle.v_operators.proofs.Growing.{IsOfSort-kept}
use Rattle.v_lower.specs.Table.{images_at}
use Rattle.v_lower.proofs.Named.{without_number}
use Rattle.v_write.specs.Parts.{IsPartOf}
use Rattle.v_write.specs.Changed.{IsTermOf}
use Rattle.v_write.specs.Written.{Changes}
use Rattle.v_write.proofs.Kept.{guard_there, guard_kept}
use Rattle.v_write.proofs.Stands.{term_there, part_written}
use Rattle.v_write.proofs.writing.write_part.Goals as goal

pub named-old-requires-clause-sort : goal.named-old-requires-clause-sort
named-old-requires-clause-sort c = c.requires.part.sort

pub named-old-requires-clause-no_number : goal.named-old-requires-clause-no_number
named-old-requires-clause-no_number c = without_number (scope_at c.args.scope.now c.args.part.now.name.now) c.requires.part.variable

pub changed-requires-clause-part : goal.changed-requires-clause-part
changed-requires-clause-part c = subst (λ o. IsPartOf o c.args.terms.now c.args.part.now) (sym c.object-object.ensures) c.requires.part

pub changed-requires-clause-old : goal.changed-requires-clause-old
changed-requires-clause-old c =
    subst (λ o. IsTermOf o c.args.terms.now c.named-old.result.0) (sym c.object-object.ensures)
    (term_there (scope_at c.args.scope.now) (images_at c.args.table.now) c.args.terms.now c.args.part.now.name.now c.named-old.result.0 c.requires.known c.named-old.ensures)

pub guarded-requires-clause-guard : goal.guarded-requires-clause-guard
guarded-requires-clause-guard c = guard_there c.args.terms.now c.changed.new.terms c.in_ok-new.ensures.grows c.args.guard c.requires.guard

pub guarded-requires-clause-same : goal.guarded-requires-clause-same
guarded-requires-clause-same c =
    let t = term_there (scope_at c.args.scope.now) (images_at c.args.table.now) c.args.terms.now c.args.part.now.name.now c.named-old.result.0 c.requires.known c.named-old.ensures in
    let o = subst (λ o. Changes o c.args.terms.now c.changed.new.terms c.args.part.now c.named-old.result.0 c.args.number.0 c.in_ok-new.new.0) c.object-object.ensures c.in_ok-new.ensures.changed in
    (t.sort, o.of_sort t.sort t.of_name t.of_sort, IsOfSort-kept c.named-old.result.0 t.sort c.in_ok-new.ensures.grows t.of_sort)

pub returns-clause-written : goal.returns-clause-written
returns-clause-written c =
    part_written (scope_at c.args.scope.now) (images_at c.args.table.now) (images_at c.insert.new.self) c.args.terms.now c.changed.new.terms c.guarded.new.terms c.args.part.now c.args.guard c.args.number.0 c.named-old.result.0 c.in_ok-new.new.0 c.in_ok-id.id.0
    c.in_ok-new.ensures.grows c.in_ok-id.ensures.grows c.requires.known c.requires.part c.named-old.ensures
    (subst (λ o. Changes o c.args.terms.now c.changed.new.terms c.args.part.now c.named-old.result.0 c.args.number.0 c.in_ok-new.new.0) c.object-object.ensures c.in_ok-new.ensures.changed)
    c.in_ok-insert.ensures c.in_ok-id.ensures.choice.of_sort
    (λ p b is. c.in_ok-id.ensures.choice.value p b (guard_kept c.args.terms.now c.changed.new.terms c.in_ok-new.ensures.grows p c.args.guard b c.requires.guard is))
