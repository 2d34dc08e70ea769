use Rattle.std.proofs.Common.{◌∙◌, ap, map}
use Rattle.std.specs.String.{string_bytes}
use Rattle.v_syntax.specs.Source.{parameter_of}
use Rattle.emitted_names.specs.Ids.{kept_by}
use Rattle.emitted_trees.proofs.Whole.{module_is}
use Rattle.emitted_trees.proofs.module.module_tree.Goals as goal

pub returns : goal.returns
returns c =
    module_is (string_bytes c.args.model.now.name) c.as_str.result.now c.args.model.now.parts (kept_by c.args.keep.now) _ _ _ c.as_str.ensures.value
    (ap (map parameter_of) c.new.ensures.items) c.in_ok-ports.ensures c.in_ok-items.ensures
