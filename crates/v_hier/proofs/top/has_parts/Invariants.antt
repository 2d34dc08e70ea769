use Rattle.std.proofs.Common.{◌≡◌, drop, map}
use Rattle.std.specs.List.{list_any}
use Rattle.v_syntax.specs.Source.{module_of}
use Rattle.v_hier.specs.Instances.{module_has_parts}
use Rattle.v_hier.proofs.top.has_parts.Given as goal

abbrev pub invariant-loop-each : goal.invariant-loop-each
invariant-loop-each l = list_any module_has_parts (map module_of l.tree.modules.items) ≡ list_any module_has_parts (map module_of (drop l.each-index l.tree.modules.items))
