use Rattle.std.proofs.Common.{arith}
use Rattle.map_rules.specs.Expressions.{ReadsAs}
use Rattle.v_syntax.specs.Tree.{tree_of}
use Rattle.map_trees.specs.Tokens.{IsTokens}
use Rattle.map_trees.specs.Trees.{AreTrees}
use Rattle.map_trees.proofs.Places.{each_turn, each_end, each_at, each_through}
use Rattle.map_trees.proofs.Readings.{all_read, one_unread, handed_up}
use Rattle.map_trees.proofs.Turns.{IsTreeOf}
use Rattle.map_trees.proofs.trees.trees_of.Goals as goal

pub returns-in_err-tree : goal.returns-in_err-tree
returns-in_err-tree c = λ ts h.
    let at = each_at IsTokens c.args.tokens.now ts c.loop-index.index c.index-tokens-index.result _ (omega arith) c.index-tokens-index.is h in
    handed_up (λ r. AreTrees r ts) c.from_residual.result c.in_err-tree.field-0.0 c.from_residual.ensures.1
    (one_unread c.in_err-tree.field-0.0 ts at.0 at.1 (c.in_err-tree.ensures at.0 at.2))

pub loop-index-preserved : goal.loop-index-preserved
loop-index-preserved c =
    each_turn IsTreeOf c.loop-index.list.items c.push.new.self.items c.args.tokens.now c.loop-index.index _ c.index-tokens-index.result _ (omega arith)
    c.index-tokens-index.is c.in_ok-push.ensures.items c.in_ok-tree.ensures c.loop-index.invariant

pub returns : goal.returns
returns c = λ ts h.
    all_read c.loop-index.list.items ts
    (each_through IsTreeOf IsTokens (λ e t. ReadsAs t (tree_of e)) (λ e x t read is. read t is) c.loop-index.list.items c.args.tokens.now ts
    (each_end IsTreeOf c.loop-index.list.items c.args.tokens.now c.loop-index.index c.loop-index-test.false c.loop-index.invariant) h)
