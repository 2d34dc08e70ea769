use Rattle.std.proofs.Common.{subst}
use Rattle.v_standing.specs.Standing.{left_in, numbered, IsBelowOne, AreAdded}
use Rattle.v_standing.proofs.Numbered.{items_got}
use Rattle.v_standing.proofs.below.add_below.Goals as goal

pub returns-clause-added : goal.returns-clause-added
returns-clause-added c = λ source.
    subst (λ is. AreAdded source (IsBelowOne source is) (left_in source c.args.left.now) (numbered source c.args.found.now.items) (left_in source c.add_found.new.left) (numbered source c.add_found.new.found.items))
    (items_got c.args.modules.now c.args.number c.get.result c.get.ensures.lookup) (c.in_ok-add_found.ensures.added source)
