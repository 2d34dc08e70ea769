use Rattle.std.proofs.Common.{◌∙◌, ◌++◌, ap, map}
use Rattle.v_syntax.specs.Source.{item_of}
use Rattle.emitted_trees.specs.Emitted.{start_items}
use Rattle.emitted_trees.proofs.module.with_ready.Goals as goal

pub returns : goal.returns
returns c = c.in_ok-items.ensures ∙ ap (λ e. map item_of c.args.items.items ++ start_items e) c.in_ok-ready.ensures
