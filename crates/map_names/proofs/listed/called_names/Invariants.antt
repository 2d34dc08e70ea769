use Rattle.std.proofs.Common.{◌≡◌, ◌++◌, map, drop}
use Rattle.map_file.specs.View.{entry_view}
use Rattle.map_names.specs.Texts.{texts}
use Rattle.map_names.proofs.listed.called_names.Given as goal

abbrev pub invariant-loop-entry : goal.invariant-loop-entry
invariant-loop-entry l =
    (texts l.names.items ++ map (λ i. i.called) (map entry_view (drop l.entry-index l.entries))) ≡ map (λ i. i.called) (map entry_view l.entries)
