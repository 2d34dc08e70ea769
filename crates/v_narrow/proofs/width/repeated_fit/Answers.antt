use Rattle.verilog_meaning.specs.Expression.{widths_of}
use Rattle.v_value.specs.Scope.{scope_at}
use Rattle.v_syntax.specs.Tree.{tree_of, expressions_of}
use Rattle.v_value.specs.Evaluation.{count_at}
use Rattle.v_narrow.proofs.Decided.{copies-if}
use Rattle.v_narrow.proofs.Narrowed.{narrow_if, parts_if}
use Rattle.v_narrow.proofs.Fitted.{objects_if}
use Rattle.v_narrow.proofs.width.repeated_fit.Goals as goal

pub count_of-requires-clause-objects : goal.count_of-requires-clause-objects
count_of-requires-clause-objects c =
    objects_if c.args.checked.scope.now.declarations.items c.args.checked.objects c.args.checked.known c.if-not-checked.false

pub count_of-requires-clause-narrow : goal.count_of-requires-clause-narrow
count_of-requires-clause-narrow c =
    narrow_if c.args.checked.objects (scope_at c.args.checked.scope.now)
    (objects_if c.args.checked.scope.now.declarations.items c.args.checked.objects c.args.checked.known)
    (tree_of c.args.count.now) c.args.counted c.requires.count c.if-not-counted.false

pub width_together-requires : goal.width_together-requires
width_together-requires c =
    parts_if c.args.checked.objects (scope_at c.args.checked.scope.now)
    (objects_if c.args.checked.scope.now.declarations.items c.args.checked.objects c.args.checked.known)
    c.args.parts.now c.args.narrow c.requires.parts c.if-not-narrow.false

pub returns : goal.returns
returns c =
    copies-if c.args.checked.objects c.args.counted c.args.narrow c.copies_fit.result
    c.count_of.result (count_at (scope_at c.args.checked.scope.now) (tree_of c.args.count.now))
    c.width_together.result (widths_of (scope_at c.args.checked.scope.now) (expressions_of c.args.parts.now))
    c.if-not-checked.false c.if-not-counted.false c.if-not-narrow.false
    c.copies_fit.ensures c.count_of.ensures c.width_together.ensures
