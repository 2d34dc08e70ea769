use Rattle.std.proofs.Common.{ap, ap₂, ◌∙◌, ◌||◌, not}
use Rattle.verilog_meaning.specs.Expression.{scope_of}
use Rattle.v_syntax.specs.Source.{module_of}
use Rattle.v_value.specs.Scope.{scope_at, objects_of}
use Rattle.v_scopes.proofs.Clocks.{lacks-so}
use Rattle.v_scopes.proofs.clock.lacks_clock.Goals as goal

pub returns : goal.returns
returns c =
    c.either.ensures
    ∙ (ap₂ (λ a b. not a || b) c.is_input_port-input.ensures c.is_wide_name-wide.ensures
    ∙ lacks-so (module_of c.args.within.now) c.args.clock.now (scope_at c.no_constants-scope.result) (ap (λ ds. scope_of (objects_of ds)) c.no_constants-scope.ensures))
