use Rattle.std.proofs.Common.{◌≡◌, length}
use Rattle.v_places.specs.Views.{spots_of}
use Rattle.map_scope.specs.Named.{AreScopes}
use Rattle.map_scope.proofs.scope.asked_scopes.Given as goal

abbrev pub invariant-loop-number : goal.invariant-loop-number
invariant-loop-number l = (length l.scopes.items ≡ l.number) × AreScopes l.scopes.items (spots_of l.places)
