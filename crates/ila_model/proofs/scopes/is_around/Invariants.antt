use Rattle.std.proofs.Common.{◌≡◌, ◌-◌}
use Rattle.ila_model.specs.Scope.{encloses, nesting}
use Rattle.ila_model.proofs.scopes.is_around.Given as goal

abbrev pub invariant-loop-level : goal.invariant-loop-level
invariant-loop-level l =
    encloses l.children nesting l.child l.fn.at ≡ encloses l.children (3 - l._level) l.child l.at
