use Rattle.std.proofs.Common.{◌≡◌, ◌++◌, drop, map}
use Rattle.v_hier.specs.Entries.{entries_of, tagged}
use Rattle.v_hier.proofs.entry.add_names.Given as goal

abbrev pub invariant-loop-name : goal.invariant-loop-name
invariant-loop-name l =
    entries_of l.entries.items ++ tagged l.tag (map (λ n. n.now) (drop l.name-index l.names)) ≡ entries_of l.initial.entries.items ++ tagged l.tag (map (λ n. n.now) l.names)
