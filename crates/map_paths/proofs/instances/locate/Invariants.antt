use Rattle.std.proofs.Common.{◌≡◌, length}
use denote.Text.{Utf8}
use denote.Shadow.{shadow}
use Rattle.refinement.specs.Map.{dotted_parts}
use Rattle.map_paths.specs.Located.{located}
use Rattle.map_paths.specs.Tables.{below_in}
use Rattle.map_paths.proofs.instances.locate.Given as goal

abbrev pub invariant-parts : goal.invariant-parts
invariant-parts l =
    (located (below_in l.tables) 0 (dotted_parts l.name) ≡ located (below_in l.tables) l.place (dotted_parts l.rest)) × shadow (Utf8 l.rest)

abbrev pub decreases-parts : goal.decreases-parts
decreases-parts l = length l.rest
