use Rattle.std.proofs.Common.{◌≡◌, map}
use Rattle.serde_json.specs.View.{members_view}
use Rattle.model_files.specs.Shape.{entries_in}
use Rattle.ila_file.specs.View.{update_view}
use Rattle.ila_file.proofs.Lists.{onto}
use Rattle.ila_file.proofs.declarations.updates_in.Given as goal

abbrev pub invariant-loop-state : goal.invariant-loop-state
invariant-loop-state l = entries_in (members_view l.initial.state-iterator) ≡ onto (map update_view l.updates.items) (entries_in (members_view l.state-iterator))
