use Rattle.v_syntax.specs.Tree.{tree_of}
use Rattle.map_reading.proofs.Lists.{more_one}
use Rattle.map_reading.proofs.listed.add.Goals as goal

pub returns : goal.returns
returns c = more_one c.args.list.now.items c.push.new.self.items _ c.in_ok-push.ensures.items (c.in_ok-names.ensures (tree_of c.args.tree.now) c.requires)
