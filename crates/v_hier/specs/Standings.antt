-- How the names of a table stand.
use Rattle.std.specs.Prelude.{ℕ, List, Option, Some, None}
use Rattle.std.specs.Borrow.{Bor}
use Rattle.std.specs.BTreeMap.{BTreeMap}
use Rattle.wb_values.specs.Value.{Name}
use Rattle.v_hier.specs.declared.duplicate.Standing.{Standing}
use Rattle.v_hier.specs.declared.duplicate.Standing.TheVariants.{Free}
use Rattle.v_hier.specs.Tables.{under_name}

abbrev pub or_free : Option Standing → Standing
or_free None = Free
or_free (Some s) = s

abbrev pub standing_at : BTreeMap (Bor (List ℕ)) Standing → Name → Standing
standing_at t n = or_free (under_name t n)
