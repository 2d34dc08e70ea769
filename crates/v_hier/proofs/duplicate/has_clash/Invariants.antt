use Rattle.std.proofs.Common.{◌≡◌, drop}
use Rattle.v_hier.specs.declared.duplicate.Standing.TheVariants.{Free}
use Rattle.v_hier.specs.Entries.{entries_of, clashes}
use Rattle.v_hier.specs.Standings.{standing_at}
use Rattle.v_hier.proofs.duplicate.has_clash.Given as goal

abbrev pub invariant-loop-entry : goal.invariant-loop-entry
invariant-loop-entry l = clashes (λ q. Free) (entries_of l.entries) ≡ clashes (standing_at l.table) (entries_of (drop l.entry-index l.entries))
