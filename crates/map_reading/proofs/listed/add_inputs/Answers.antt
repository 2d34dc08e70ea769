use Rattle.std.proofs.Common.{◌≡◌, ◌∙◌, ap, subst, arith, length, [], ◌∷◌}
use Rattle.v_syntax.specs.Tree.{tree_of}
use Rattle.map_rules.specs.Mapped.{wanted_width}
use Rattle.map_sorts.specs.Tables.{sort_of_input_in}
use Rattle.map_reading.specs.Listed.{IsInputOf, IsMore, input_asked}
use Rattle.map_reading.proofs.Lists.{as_many, both_at, more_turn}
use Rattle.map_reading.proofs.listed.add_inputs.Goals as goal

pub bounds-tokens-index : goal.bounds-tokens-index
bounds-tokens-index c =
    let same : length c.args.tokens.now ≡ length c.args.trees.now = as_many IsInputOf c.args.tokens.now c.args.trees.now c.requires in
    omega (arith, same)

pub add-requires : goal.add-requires
add-requires c =
    subst (λ x. IsInputOf x c.index-trees-index.result) c.index-tokens-index.is
    (both_at IsInputOf c.args.tokens.now c.args.trees.now c.loop-index.index c.index-tokens-index.result _ c.index-trees-index.result _ (omega arith)
    c.index-tokens-index.is c.index-trees-index.is c.requires)

pub loop-index-preserved : goal.loop-index-preserved
loop-index-preserved c =
    let wide : c.width_of-width.result ≡ wanted_width (sort_of_input_in c.args.sorts.now c.index-trees-index.result.name.now) =
    c.width_of-width.ensures ∙ ap wanted_width c.input.ensures in
    more_turn (input_asked c.args.sorts.now) c.args.list.now.items c.loop-index.list.items c.add.new.list.items c.args.trees.now c.loop-index.index c.index-trees-index.result _ (omega arith)
    c.index-trees-index.is c.loop-index.invariant
    (subst (λ w. IsMore c.loop-index.list.items c.add.new.list.items (record { tree = tree_of c.index-trees-index.result.tree; wanted = w } ∷ [])) wide c.in_ok-add.ensures)
