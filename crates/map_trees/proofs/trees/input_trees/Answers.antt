use Rattle.std.proofs.Common.{◌∙◌, ap, arith}
use Rattle.wb_values.specs.Value.{Name}
use Rattle.map_files.specs.Written.{Text}
use Rattle.map_trees.specs.Tokens.{IsInputEntry}
use Rattle.map_trees.specs.Trees.{AreEntryTrees}
use Rattle.map_trees.proofs.Places.{each_turn, each_end, each_at, each_through}
use Rattle.map_trees.proofs.Readings.{IsInputTree, inputs_read, one_unread, view_among, handed_up}
use Rattle.map_trees.proofs.Turns.{IsInputTreeOf}
use Rattle.map_trees.proofs.trees.input_trees.Goals as goal

pub returns-in_err-tree : goal.returns-in_err-tree
returns-in_err-tree c = λ es h.
    let at = each_at IsInputEntry c.args.inputs.now es c.loop-input.input-index c.input-item.result _ (omega arith) c.input-item.is h in
    handed_up (AreEntryTrees es) c.from_residual.result c.in_err-tree.field-0.0 c.from_residual.ensures.1
    (one_unread c.in_err-tree.field-0.0 _ at.0.1 (view_among (λ (e : Name × Text). e.1) es at.0 at.1) (c.in_err-tree.ensures at.0.1 at.2.1))

pub loop-input-preserved : goal.loop-input-preserved
loop-input-preserved c =
    each_turn IsInputTreeOf c.loop-input.list.items c.push.new.self.items c.args.inputs.now c.loop-input.input-index _ c.input-item.result _ (omega arith)
    c.input-item.is c.in_ok-push.ensures.items
    (λ e is. (c.as_str-name.ensures.value ∙ ap (λ (y : Name × Text). y.0) is.0, c.in_ok-tree.ensures e.1 is.1)) c.loop-input.invariant

pub returns : goal.returns
returns c = λ es h.
    inputs_read c.loop-input.list.items es
    (each_through IsInputTreeOf IsInputEntry IsInputTree (λ x y e read is. read e is) c.loop-input.list.items c.args.inputs.now es
    (each_end IsInputTreeOf c.loop-input.list.items c.args.inputs.now c.loop-input.input-index c.loop-input-test.false c.loop-input.invariant) h)
