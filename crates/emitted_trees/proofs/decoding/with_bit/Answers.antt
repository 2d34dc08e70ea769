use Rattle.std.proofs.Common.{◌∙◌, ◌++◌, ◌∷◌, [], ap, map}
use Rattle.v_syntax.specs.Source.{item_of}
use Rattle.emitted_trees.proofs.decoding.with_bit.Goals as goal

pub returns : goal.returns
returns c = c.in_ok-items.ensures ∙ ap (λ i. map item_of c.args.items.items ++ i ∷ []) c.in_ok-item.ensures
