use Rattle.std.proofs.Common.{◌≡◌, arith, length}
use Rattle.map_reading.specs.Listed.{IsConditionOf, condition_asked}
use Rattle.map_reading.proofs.Lists.{as_many, both_at, more_turn}
use Rattle.map_reading.proofs.listed.add_conditions.Goals as goal

pub bounds-tokens-index : goal.bounds-tokens-index
bounds-tokens-index c =
    let same : length c.args.tokens.now ≡ length c.args.trees.now = as_many IsConditionOf c.args.tokens.now c.args.trees.now c.requires in
    omega (arith, same)

pub add-requires : goal.add-requires
add-requires c =
    both_at IsConditionOf c.args.tokens.now c.args.trees.now c.loop-index.index c.index-tokens-index.result _ c.index-trees-index.result _ (omega arith)
    c.index-tokens-index.is c.index-trees-index.is c.requires

pub loop-index-preserved : goal.loop-index-preserved
loop-index-preserved c =
    more_turn condition_asked c.args.list.now.items c.loop-index.list.items c.add.new.list.items c.args.trees.now c.loop-index.index c.index-trees-index.result _ (omega arith)
    c.index-trees-index.is c.loop-index.invariant c.in_ok-add.ensures
