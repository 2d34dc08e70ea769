use Rattle.std.proofs.Common.{◌≡◌, drop, map}
use Rattle.verilog_meaning.specs.Hierarchy.{module_named}
use Rattle.v_syntax.specs.Source.{module_of}
use Rattle.v_hier.proofs.top.top_of.Given as goal

abbrev pub invariant-loop-each : goal.invariant-loop-each
invariant-loop-each l = module_named (map module_of l.tree.modules.items) l.top ≡ module_named (map module_of (drop l.each-index l.tree.modules.items)) l.top
