use Rattle.std.proofs.Common.{◌≡◌, ◌++◌, drop}
use Rattle.ila_model.specs.Scope.{name_scopes, private_scopes}
use Rattle.ila_model.proofs.scopes.name_scopes.Given as goal

abbrev pub invariant-loop-place : goal.invariant-loop-place
invariant-loop-place l =
    l.scopes.items ++ private_scopes l.place (drop l.place l.children) ≡ name_scopes l.tops l.children
