use Rattle.std.proofs.Common.{◌≡◌, drop, map}
use Rattle.verilog_designs.specs.Accepted.{variable_names}
use Rattle.v_syntax.specs.declared.module.Variable.{Variable}
use Rattle.v_syntax.specs.Source.{optional_range_of}
use Rattle.verilog_designs.specs.Names.{is_among}
use Rattle.v_named.proofs.wide.is_variable.Given as goal

abbrev pub invariant-loop-variable : goal.invariant-loop-variable
invariant-loop-variable l =
    is_among (variable_names (map (λ (v : Variable). (v.name.now, optional_range_of v.addresses)) l.variables)) l.name
    ≡ is_among (variable_names (map (λ (v : Variable). (v.name.now, optional_range_of v.addresses)) (drop l.variable-index l.variables))) l.name
