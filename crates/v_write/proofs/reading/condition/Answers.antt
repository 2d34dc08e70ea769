use Rattle.v_syntax.specs.Tree.{tree_of}
use Rattle.v_value.specs.Scope.{scope_at}
use Rattle.v_lower.specs.Table.{images_at}
use Rattle.v_lower.proofs.Lowering.{images_kept}
use Rattle.v_write.proofs.Lowered.{condition_made}
use Rattle.v_write.proofs.reading.condition.Goals as goal

pub is_nonzero-requires : goal.is_nonzero-requires
is_nonzero-requires c = c.in_ok-own.ensures.lowered.lowered.of_sort

pub returns-clause-condition : goal.returns-clause-condition
returns-clause-condition c =
    condition_made (scope_at c.args.scope.now) (images_at c.args.table.now) c.lowered_alone.new.terms c.is_nonzero.new.terms (tree_of c.args.expression.now) c.in_ok-own.own.width c.in_ok-own.own.id.0 c.in_ok-id.id.0
    (images_kept (scope_at c.args.scope.now) (images_at c.args.table.now) c.args.terms.now c.lowered_alone.new.terms c.in_ok-own.ensures.grows c.requires.known) c.in_ok-id.ensures.grows c.in_ok-own.ensures.lowered c.in_ok-id.ensures.made
