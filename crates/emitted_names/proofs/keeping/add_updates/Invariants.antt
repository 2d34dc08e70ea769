use Rattle.std.proofs.Common.{◌≡◌, ◌++◌, drop}
use Rattle.emitted_names.specs.Keeping.{updated_by}
use Rattle.emitted_names.proofs.keeping.add_updates.Given as goal

abbrev pub invariant-loop-place : goal.invariant-loop-place
invariant-loop-place l = l.ids.items ++ updated_by (drop l.place l.updates) ≡ l.fn.ids.items ++ updated_by l.updates
