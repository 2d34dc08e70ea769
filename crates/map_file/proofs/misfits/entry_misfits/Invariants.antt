use Rattle.std.proofs.Common.{◌≡◌}
use Rattle.serde_json.specs.View.{members_view}
use Rattle.map_file.specs.Places.{entry_misfits}
use Rattle.map_file.proofs.misfits.entry_misfits.Given as goal

abbrev pub invariant-loop-name : goal.invariant-loop-name
invariant-loop-name l = entry_misfits l.key (members_view l.initial.name-iterator) ≡ entry_misfits l.key (members_view l.name-iterator)
