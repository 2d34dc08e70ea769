use Rattle.std.proofs.Common.{◌≡◌, ◌++◌, drop, map}
use Rattle.verilog_designs.specs.Names.{instance_names}
use Rattle.v_syntax.specs.declared.module.Instance.{Instance}
use Rattle.v_syntax.specs.Source.{connections_of}
use Rattle.v_hier.specs.declared.entry.Tag.TheVariants.{Other}
use Rattle.v_hier.specs.Entries.{entries_of, tagged}
use Rattle.v_hier.proofs.entry.add_instance_list.Given as goal

abbrev pub invariant-loop-instance : goal.invariant-loop-instance
invariant-loop-instance l =
    entries_of l.entries.items ++ tagged Other (instance_names (map (λ (i : Instance). (i.name.now, connections_of i.connections)) (drop l.instance-index l.instances))) ≡ entries_of l.initial.entries.items ++ tagged Other (instance_names (map (λ (i : Instance). (i.name.now, connections_of i.connections)) l.instances))
