use Rattle.ila_model.specs.Scope.{AreTermScopes}
use Rattle.ila_model.proofs.scopes.term_scopes.Given as goal

abbrev pub invariant-loop-k : goal.invariant-loop-k
invariant-loop-k l = AreTermScopes l.parts l.k l.terms.items
