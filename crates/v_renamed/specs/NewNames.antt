-- A table of new names as a function of names.
use Rattle.std.specs.Prelude.{ℕ, List, Option, Some, None}
use Rattle.std.specs.Borrow.{Bor}
use Rattle.wb_values.specs.Value.{Name}
use Rattle.v_hier.specs.Tables.{under_name}
use Rattle.v_renamed.specs.declared.names.Names.{Names}

abbrev pub name_or : Option (Bor (List ℕ)) → Name → Name
name_or (Some m) n = m.now
name_or None n = n

-- The new name of a name; a name that the table has not stays as it is.
abbrev pub new_name : Names → Name → Name
new_name t n = name_or (under_name t.table n) n
