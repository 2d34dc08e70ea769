use Rattle.std.proofs.Common.{◌≡◌, ◌≤◌, ◌++◌, drop}
use Rattle.verilog_meaning.specs.Statement.{all_places, targets_width}
use Rattle.v_value.specs.Scope.{scope_at, valuation_at}
use Rattle.v_statement.specs.Places.{places_of}
use Rattle.v_statement.specs.Statements.{HaveNarrowSelects, target_list}
use Rattle.v_statement.proofs.target.+places.Given as goal

abbrev pub invariant-add_all_places-loop-target : goal.invariant-add_all_places-loop-target
invariant-add_all_places-loop-target l = record {
  same : places_of l.initial.found.items ++ all_places (scope_at l.scope) (valuation_at l.values) (target_list l.targets)
      ≡ places_of l.found.items ++ all_places (scope_at l.scope) (valuation_at l.values) (target_list (drop l.target-index l.targets));
  narrow : HaveNarrowSelects (scope_at l.scope) (target_list (drop l.target-index l.targets));
  at_most_128 : targets_width (scope_at l.scope) (target_list (drop l.target-index l.targets)) ≤ 128;
}
