use Rattle.std.proofs.Common.{ap, sym, ◌∙◌, option_map, Bor, Option}
use Rattle.verilog_designs.specs.Known.{known_module_scope, known_overrides}
use Rattle.v_syntax.specs.declared.module.Module.{Module}
use Rattle.v_syntax.specs.Source.{connections_of, module_of}
use Rattle.v_value.specs.Scope.{objects_of}
use Rattle.v_constants.specs.Given.{given_of}
use Rattle.v_places.proofs.Parts.{given_some, given_none}
use Rattle.v_places.proofs.below.given_below.Goals as goal

pub returns-in_ok-list-in-Some : goal.returns-in_ok-list-in-Some
returns-in_ok-list-in-Some c = λ x d e.
    given_some (module_of c.in-Some.below.now) d (known_overrides (known_module_scope x (objects_of c.args.around.scope.now.declarations.items)) (connections_of c.args.given.now)) (given_of c.in_ok-list-in-Some.list.items)
    (c.in_ok-list-in-Some.ensures x) (sym (ap (λ (o : Option (Bor Module)). option_map (λ m. module_of m.now) o) c.in-Some.is) ∙ e)

pub returns-in-None : goal.returns-in-None
returns-in-None c = λ x d e n. given_none d _ (sym (ap (λ (o : Option (Bor Module)). option_map (λ m. module_of m.now) o) c.in-None.is) ∙ e)
