use Rattle.std.proofs.Common.{◌≡◌, ◌++◌, map, drop}
use Rattle.v_value.specs.Scope.{objects_of}
use Rattle.v_places.specs.Views.{spots_of}
use Rattle.map_paths.specs.Tables.{numbers_in}
use Rattle.map_scope.specs.Named.{objects_named}
use Rattle.map_scope.proofs.scope.declarations_of.Given as goal

abbrev pub invariant-loop-name : goal.invariant-loop-name
invariant-loop-name l =
    (objects_of l.list.items ++ objects_named (spots_of l.places) (numbers_in l.instances) (map (λ n. n.now) (drop l.name-index l.names)))
    ≡ objects_named (spots_of l.places) (numbers_in l.instances) (map (λ n. n.now) l.names)
