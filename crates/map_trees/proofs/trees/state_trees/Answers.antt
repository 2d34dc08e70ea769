use Rattle.std.proofs.Common.{arith}
use Rattle.map_rules.specs.Case.{is_memory_named}
use Rattle.map_trees.specs.Tokens.{IsStateEntry}
use Rattle.map_trees.specs.Trees.{AreStateTrees, IsValueTree}
use Rattle.map_trees.specs.View.{mapped_tree_view}
use Rattle.map_trees.proofs.Places.{each_turn, each_end, each_at, each_through}
use Rattle.map_trees.proofs.Readings.{states_read, state_unread, handed_up}
use Rattle.map_trees.proofs.Turns.{IsStateTreeOf}
use Rattle.map_trees.proofs.trees.state_trees.Goals as goal

pub returns-in_err-tree : goal.returns-in_err-tree
returns-in_err-tree c = λ m es h.
    let at = each_at (IsStateEntry (is_memory_named m)) c.args.states.now es c.loop-state.state-index c.state-item.result _ (omega arith) c.state-item.is h in
    handed_up (AreStateTrees m es) c.from_residual.result c.in_err-tree.field-0.0 c.from_residual.ensures.1
    (state_unread m c.in_err-tree.field-0.0 es at.0 at.1 (c.in_err-tree.ensures (is_memory_named m at.0.0) at.0 at.2.0 at.2.1))

pub loop-state-preserved : goal.loop-state-preserved
loop-state-preserved c =
    each_turn IsStateTreeOf c.loop-state.list.items c.push.new.self.items c.args.states.now c.loop-state.state-index _ c.state-item.result _ (omega arith)
    c.state-item.is c.in_ok-push.ensures.items c.in_ok-tree.ensures c.loop-state.invariant

pub returns : goal.returns
returns c = λ m es h.
    states_read m c.loop-state.list.items es
    (each_through IsStateTreeOf (IsStateEntry (is_memory_named m)) (λ x e. IsValueTree (is_memory_named m e.0) e (mapped_tree_view x))
    (λ x y e read is. read (is_memory_named m e.0) e is.0 is.1) c.loop-state.list.items c.args.states.now es
    (each_end IsStateTreeOf c.loop-state.list.items c.args.states.now c.loop-state.state-index c.loop-state-test.false c.loop-state.invariant) h)
