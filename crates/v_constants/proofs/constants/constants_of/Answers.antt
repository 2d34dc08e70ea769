use Rattle.std.proofs.Common.{◌∙◌, ap, map}
use Rattle.verilog_meaning.specs.Hierarchy.{body_parameters}
use Rattle.verilog_designs.specs.Known.{with_known_parameters}
use Rattle.v_syntax.specs.Source.{parameter_of, item_of}
use Rattle.v_value.specs.Scope.{objects_of}
use Rattle.v_constants.specs.Given.{given_of, given_at}
use Rattle.v_constants.proofs.Lists.{all_so}
use Rattle.v_constants.proofs.constants.constants_of.Goals as goal

pub returns-clause-constants : goal.returns-clause-constants
returns-clause-constants c =
    let g = given_at c.in_ok-table.table in
    all_so (map parameter_of c.args.within.now.parameters.items) (body_parameters (map item_of c.args.within.now.items.items)) g (given_of c.args.given.now)
    (objects_of c.none.result.scope.declarations.items) (objects_of c.in_ok-header.header.scope.declarations.items) (objects_of c.in_ok-whole.whole.scope.declarations.items)
    c.in_ok-table.ensures (ap objects_of c.none.ensures)
    (c.in_ok-header.ensures ∙ ap (λ ds. with_known_parameters (map parameter_of ds) g (objects_of c.none.result.scope.declarations.items)) c.deref.ensures.value)
    (c.in_ok-whole.ensures ∙ ap (λ is. with_known_parameters (body_parameters (map item_of is)) g (objects_of c.in_ok-header.header.scope.declarations.items)) c.deref-2.ensures.value)
