use Rattle.std.proofs.Common.{◌≡◌, map, drop, None}
use Rattle.wb_values.specs.Value.{Name}
use Rattle.v_flat.specs.Entries.{named_after}
use Rattle.v_flat.specs.Views.{entry_in}
use Rattle.v_ordered.specs.Tables.{text_under}
use Rattle.v_ordered.proofs.naming.table_of.Given as goal

abbrev pub invariant-loop-each : goal.invariant-loop-each
invariant-loop-each l =
    (q : Name) → named_after (text_under l.table q) (map entry_in (drop l.each-index l.names)) q ≡ named_after None (map entry_in l.names) q
