use Rattle.std.proofs.Common.{ap, ◌∙◌, sym, map}
use Rattle.verilog_meaning.specs.Hierarchy.{overridable, all_parameters}
use Rattle.verilog_designs.specs.Known.{known_overrides}
use Rattle.v_syntax.specs.Source.{connections_of, module_of, optional_tree_of}
use Rattle.v_value.specs.Scope.{objects_of, scope_at}
use Rattle.v_constants.specs.Given.{named_given, ordered_given}
use Rattle.v_constants.proofs.Alike.{same_overrides}
use Rattle.v_constants.proofs.Gathered.{by_names}
use Rattle.v_constants.proofs.overrides.overrides_of.Goals as goal

pub returns-in_ok-list-in-ByName : goal.returns-in_ok-list-in-ByName
returns-in_ok-list-in-ByName c = λ m n.
    let s = scope_at c.args.around.scope.now in
    let known = objects_of c.args.around.scope.now.declarations.items in
    c.in_ok-list-in-ByName.ensures n
    ∙ (ap (λ cs. named_given s (by_names cs) n) c.deref.ensures.value
    ∙ (ap (λ g. known_overrides s (connections_of g) (module_of c.args.below.now) n) (sym c.in-ByName.is)
    ∙ same_overrides m known (connections_of c.args.given.now) (module_of c.args.below.now) n))

pub returns-in_ok-list-in-ByOrder : goal.returns-in_ok-list-in-ByOrder
returns-in_ok-list-in-ByOrder c = λ m n.
    let s = scope_at c.args.around.scope.now in
    let known = objects_of c.args.around.scope.now.declarations.items in
    c.in_ok-list-in-ByOrder.ensures n
    ∙ (ap (λ es. ordered_given s (map optional_tree_of es) (overridable (all_parameters (module_of c.args.below.now))) n) c.deref-in-ByOrder.ensures.value
    ∙ (ap (λ g. known_overrides s (connections_of g) (module_of c.args.below.now) n) (sym c.in-ByOrder.is)
    ∙ same_overrides m known (connections_of c.args.given.now) (module_of c.args.below.now) n))
