use Rattle.std.proofs.Common.{◌≡◌, drop, map}
use Rattle.v_syntax.specs.Source.{optional_range_of}
use Rattle.v_hier.specs.Reading.{knows, addresses_known}
use Rattle.v_hier.proofs.item.are_variables_known.Given as goal

abbrev pub invariant-loop-variable : goal.invariant-loop-variable
invariant-loop-variable l = addresses_known (knows l.names) (map (λ v. (v.name.now, optional_range_of v.addresses)) l.variables) ≡ addresses_known (knows l.names) (map (λ v. (v.name.now, optional_range_of v.addresses)) (drop l.variable-index l.variables))
