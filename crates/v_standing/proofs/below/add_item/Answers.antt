use Rattle.std.proofs.Common.{subst, sym}
use Rattle.v_syntax.specs.Source.{item_of}
use Rattle.v_standing.specs.Standing.{left_in, numbered, IsBelow, AreAdded}
use Rattle.v_standing.proofs.below.add_item.Goals as goal

pub returns-in_ok-add_named-in-Instances-clause-added : goal.returns-in_ok-add_named-in-Instances-clause-added
returns-in_ok-add_named-in-Instances-clause-added c = λ source.
    subst (λ i. AreAdded source (IsBelow source (item_of i)) (left_in source c.args.left.now) (numbered source c.args.found.now.items) (left_in source c.add_named.new.left) (numbered source c.add_named.new.found.items))
    (sym c.in-Instances.is) (c.in_ok-add_named-in-Instances.ensures.added source)
