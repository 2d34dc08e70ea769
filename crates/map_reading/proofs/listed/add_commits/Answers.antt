use Rattle.std.proofs.Common.{◌≡◌, subst, arith, length}
use Rattle.map_reading.specs.Listed.{IsCommitOf, commit_asked}
use Rattle.map_reading.proofs.Lists.{as_many, both_at, more_turn}
use Rattle.map_reading.proofs.listed.add_commits.Goals as goal

pub bounds-tokens-index : goal.bounds-tokens-index
bounds-tokens-index c =
    let same : length c.args.tokens.now ≡ length c.args.trees.now = as_many IsCommitOf c.args.tokens.now c.args.trees.now c.requires in
    omega (arith, same)

pub add-requires : goal.add-requires
add-requires c =
    subst (λ x. IsCommitOf x c.index-trees-index.result) c.index-tokens-index.is
    (both_at IsCommitOf c.args.tokens.now c.args.trees.now c.loop-index.index c.index-tokens-index.result _ c.index-trees-index.result _ (omega arith)
    c.index-tokens-index.is c.index-trees-index.is c.requires)

pub loop-index-preserved : goal.loop-index-preserved
loop-index-preserved c =
    more_turn commit_asked c.args.list.now.items c.loop-index.list.items c.add.new.list.items c.args.trees.now c.loop-index.index c.index-trees-index.result _ (omega arith)
    c.index-trees-index.is c.loop-index.invariant c.in_ok-add.ensures
