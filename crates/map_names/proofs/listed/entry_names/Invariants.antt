use Rattle.std.proofs.Common.{◌≡◌, ◌++◌, map, drop}
use Rattle.map_file.specs.View.{mapped_view}
use Rattle.map_rules.specs.Case.{entry_names}
use Rattle.map_names.specs.Texts.{texts}
use Rattle.map_names.proofs.listed.entry_names.Given as goal

abbrev pub invariant-loop-entry : goal.invariant-loop-entry
invariant-loop-entry l = (texts l.names.items ++ entry_names (map mapped_view (drop l.entry-index l.entries))) ≡ entry_names (map mapped_view l.entries)
