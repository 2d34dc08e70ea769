use Rattle.std.proofs.Common.{◌≡◌, ◌-◌, Some}
use Rattle.ila_model.specs.Scope.{is_nested, nesting}
use Rattle.ila_model.proofs.scopes.is_child_nested.Given as goal

abbrev pub invariant-loop-level : goal.invariant-loop-level
invariant-loop-level l =
    is_nested l.children nesting (Some l.place) ≡ is_nested l.children (3 - l._level) l.at
