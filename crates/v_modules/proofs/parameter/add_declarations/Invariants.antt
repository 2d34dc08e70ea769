use Rattle.std.proofs.Common.{◌≡◌, ◌||◌, ℕ, List, drop, map}
use Rattle.verilog_designs.specs.Names.{is_among, parameter_names}
use Rattle.v_syntax.specs.Source.{parameter_of}
use Rattle.v_hier.specs.Tables.{has_name}
use Rattle.v_modules.proofs.parameter.add_declarations.Given as goal

abbrev pub invariant-loop-declaration : goal.invariant-loop-declaration
invariant-loop-declaration l = (q : List ℕ) → (has_name l.names q || is_among (parameter_names (map parameter_of (drop l.declaration-index l.declarations))) q) ≡ (has_name l.initial.names q || is_among (parameter_names (map parameter_of l.declarations)) q)
