use Rattle.std.proofs.Common.{◌≡◌, ℕ, List, ◌||◌, drop}
use Rattle.std.specs.List.{list_any}
use Rattle.v_hier.specs.Tables.{has_name}
use Rattle.v_clocks.specs.Nets.{gives}
use Rattle.v_clocks.specs.Views.{uses_in}
use Rattle.v_clocks.proofs.nets.ports_given.Given as goal

abbrev pub invariant-loop-each : goal.invariant-loop-each
invariant-loop-each l = (q : List ℕ) → (has_name l.ports q || list_any (gives q) (uses_in (drop l.each-index l.uses))) ≡ list_any (gives q) (uses_in l.uses)
