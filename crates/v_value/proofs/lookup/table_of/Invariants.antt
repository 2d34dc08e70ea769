use Rattle.std.proofs.Common.{◌≡◌, ℕ, List, drop}
use Rattle.wb_values.specs.Value.{entry_of}
use Rattle.wb_values.specs.Choice.{first_of}
use Rattle.v_value.specs.Objects.{objects_of}
use Rattle.v_value.specs.Tables.{object_at}
use Rattle.v_value.proofs.lookup.table_of.Given as goal

abbrev pub invariant-loop-each : goal.invariant-loop-each
invariant-loop-each l =
    (q : List ℕ) → first_of (object_at l.table q) (entry_of (objects_of (drop l.each-index l.declarations)) q) ≡ entry_of (objects_of l.declarations) q
