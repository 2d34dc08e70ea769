use Rattle.std.proofs.Common.{◌∙◌, ap, sym, ◌∷◌}
use Rattle.verilog_meaning.specs.Hierarchy.{body_parameters}
use Rattle.verilog_designs.specs.Known.{with_known_parameters}
use Rattle.v_syntax.specs.Source.{item_of}
use Rattle.v_value.specs.Scope.{objects_of}
use Rattle.v_constants.specs.Given.{given_at}
use Rattle.v_constants.proofs.constants.with_item.Goals as goal

pub returns-in_ok-known-in-Parameter : goal.returns-in_ok-known-in-Parameter
returns-in_ok-known-in-Parameter c = λ rest.
    ap (λ i. with_known_parameters (body_parameters (item_of i ∷ rest)) (given_at c.args.given.now) (objects_of c.args.before.scope.declarations.items)) c.in-Parameter.is
    ∙ ap (with_known_parameters (body_parameters rest) (given_at c.args.given.now)) (sym c.in_ok-known-in-Parameter.ensures)
