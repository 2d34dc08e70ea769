use Rattle.std.proofs.Common.{◌≡◌, ◌++◌}
use Rattle.v_depend.proofs.table.entries_of.Given as goal

abbrev pub invariant-loop-name : goal.invariant-loop-name
invariant-loop-name l = l.entries.items ++ l.name-iterator ≡ l.initial.name-iterator
