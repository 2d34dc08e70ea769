use Rattle.std.proofs.Common.{◌≡◌, map}
use Rattle.serde_json.specs.View.{members_view}
use Rattle.map_files.specs.Shape.{members_mapped_in}
use Rattle.map_file.specs.View.{mapped_view}
use Rattle.map_file.proofs.Lists.{onto}
use Rattle.map_file.proofs.shape.members_mapped_in.Given as goal

abbrev pub invariant-loop-name : goal.invariant-loop-name
invariant-loop-name l =
    members_mapped_in (members_view l.initial.name-iterator) ≡ onto (map mapped_view l.entries.items) (members_mapped_in (members_view l.name-iterator))
