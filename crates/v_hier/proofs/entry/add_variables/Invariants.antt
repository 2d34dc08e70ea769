use Rattle.std.proofs.Common.{◌≡◌, ◌++◌, drop, map}
use Rattle.v_syntax.specs.declared.module.Variable.{Variable}
use Rattle.v_hier.specs.declared.entry.Tag.TheVariants.{Net}
use Rattle.v_hier.specs.Entries.{entries_of, tagged}
use Rattle.v_hier.proofs.entry.add_variables.Given as goal

abbrev pub invariant-loop-variable : goal.invariant-loop-variable
invariant-loop-variable l =
    entries_of l.entries.items ++ tagged Net (map (λ (v : Variable). v.name.now) (drop l.variable-index l.variables)) ≡ entries_of l.initial.entries.items ++ tagged Net (map (λ (v : Variable). v.name.now) l.variables)
