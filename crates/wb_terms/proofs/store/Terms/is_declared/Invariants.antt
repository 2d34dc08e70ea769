use Rattle.std.proofs.Common.{◌≡◌, drop}
use Rattle.std.specs.Prelude.{map}
use Rattle.wb_values.specs.Value.{entry_of}
use Rattle.wb_terms.specs.Entries.{name_of}
use Rattle.wb_terms.proofs.store.Terms.is_declared.Given as goal

abbrev pub invariant-loop-each : goal.invariant-loop-each
invariant-loop-each l =
    entry_of l.self.names l.name ≡ entry_of (map name_of (drop l.each-index l.each-items)) l.name
