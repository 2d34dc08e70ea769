use Rattle.std.proofs.Common.{◌≡◌, map, drop}
use Rattle.std.specs.List.{list_any}
use Rattle.v_clocks.specs.Views.{sets_of}
use Rattle.map_paths.specs.Tables.{numbers_in}
use Rattle.map_clocks.specs.Clocked.{is_clock_named}
use Rattle.map_clocks.proofs.named.any_clock.Given as goal

abbrev pub invariant-loop-name : goal.invariant-loop-name
invariant-loop-name l =
    list_any (is_clock_named (numbers_in l.instances) (sets_of l.nets)) (map (λ n. n.now) l.names)
    ≡ list_any (is_clock_named (numbers_in l.instances) (sets_of l.nets)) (map (λ n. n.now) (drop l.name-index l.names))
