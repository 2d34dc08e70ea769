use Rattle.verilog_meaning.specs.Statement.{items_width}
use Rattle.v_syntax.specs.Tree.{tree_of, case_kind_of}
use Rattle.v_value.specs.Scope.{scope_at}
use Rattle.v_lower.proofs.Soundness.{sound-narrow}
use Rattle.v_write.specs.Sound.{item_list}
use Rattle.v_write.proofs.Values.{items_narrow, selector_within}
use Rattle.v_write.proofs.choosing.lowered_selector.Goals as goal

pub case_width-width-requires-clause-narrow : goal.case_width-width-requires-clause-narrow
case_width-width-requires-clause-narrow c = sound-narrow (scope_at c.args.scope.now) (tree_of c.args.expression.now) c.requires.objects c.requires.expression

pub case_width-width-requires-clause-values_narrow : goal.case_width-width-requires-clause-values_narrow
case_width-width-requires-clause-values_narrow c = items_narrow (scope_at c.args.scope.now) (case_kind_of c.args.kind) c.args.items.now c.requires.objects c.requires.items

pub lowered-requires-clause-within : goal.lowered-requires-clause-within
lowered-requires-clause-within c =
    selector_within (scope_at c.args.scope.now) (tree_of c.args.expression.now) c.case_width-width.result (items_width (scope_at c.args.scope.now) (item_list c.args.items.now)) c.case_width-width.ensures.width

pub returns-clause-selector : goal.returns-clause-selector
returns-clause-selector c = record { width = c.case_width-width.ensures.width; sign = c.case_signed-signed.ensures; lowered = c.in_ok-id.ensures.lowered }
