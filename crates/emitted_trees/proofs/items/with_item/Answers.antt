use Rattle.v_syntax.specs.Source.{item_of}
use Rattle.emitted_names.proofs.Turns.{pushed_view}
use Rattle.emitted_trees.proofs.items.with_item.Goals as goal

pub returns : goal.returns
returns c = pushed_view item_of c.args.items.items _ c.args.item c.in_ok-all.ensures
