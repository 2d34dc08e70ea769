use Rattle.std.proofs.Common.{◌∙◌, ap, ◌++◌, ◌∷◌, map, sym}
use Rattle.verilog_designs.specs.Names.{all_instance_names, instance_names}
use Rattle.v_syntax.specs.declared.module.Instance.{Instance}
use Rattle.v_syntax.specs.Source.{connections_of, item_of}
use Rattle.v_hier.specs.declared.entry.Tag.TheVariants.{Other}
use Rattle.v_hier.specs.Entries.{entries_of, tagged}
use Rattle.v_hier.proofs.Declared.{put-before, tagged-append}
use Rattle.v_hier.proofs.entry.add_placed.Goals as goal

pub returns-in_ok-add_instance_list-in-Instances : goal.returns-in_ok-add_instance_list-in-Instances
returns-in_ok-add_instance_list-in-Instances c = λ rest.
    ap (λ i. entries_of c.args.entries.now.items ++ tagged Other (all_instance_names (item_of i ∷ rest))) c.in-Instances.is
    ∙ put-before _ _ _ _ _ c.in_ok-add_instance_list-in-Instances.ensures
    (ap (λ is. tagged Other (instance_names (map (λ (i : Instance). (i.name.now, connections_of i.connections)) is) ++ all_instance_names rest)) (sym c.deref.ensures.value)
    ∙ tagged-append Other _ (all_instance_names rest))
