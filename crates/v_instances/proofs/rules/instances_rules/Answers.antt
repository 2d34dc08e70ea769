use Rattle.std.proofs.Common.{◌∙◌, map}
use Rattle.v_value.specs.Scope.{scope_at}
use Rattle.v_syntax.specs.Source.{item_of}
use Rattle.v_instances.specs.Outputs.{none}
use Rattle.v_instances.proofs.Told.{items-told}
use Rattle.v_instances.proofs.rules.instances_rules.Goals as goal

pub returns : goal.returns
returns c = λ source so. c.broken_by_instances.ensures ∙ items-told (scope_at c.args.names.scope.now) c.args.interfaces.now source so (map item_of c.args.items.now) none
