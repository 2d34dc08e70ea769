use Rattle.std.proofs.Common.{◌∙◌, map}
use Rattle.v_syntax.specs.Source.{item_of}
use Rattle.v_instances.proofs.Fitting.{items_bad}
use Rattle.v_instances.proofs.ports.has_bad_instance.Goals as goal

pub returns : goal.returns
returns c = λ source so. c.in_ok-bad.ensures ∙ items_bad c.args.interfaces.now source so (map item_of c.args.items.now)
