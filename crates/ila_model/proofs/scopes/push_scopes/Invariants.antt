use Rattle.std.proofs.Common.{◌≡◌, ◌++◌, replicate}
use Rattle.ila_model.proofs.scopes.push_scopes.Given as goal

abbrev pub invariant-loop-k : goal.invariant-loop-k
invariant-loop-k l = l.scopes.items ≡ l.initial.scopes.items ++ replicate l._k l.scope
