use Rattle.std.proofs.Common.{map, subst, sym}
use Rattle.v_syntax.specs.Source.{item_of, module_of}
use Rattle.v_value.specs.Scope.{scope_at}
use Rattle.v_design.specs.Design.{outputs_of}
use Rattle.v_elab.specs.Names.{top_front, is_given_input, is_given_port}
use Rattle.v_elab.specs.Elaborable.{IsElaborable}
use Rattle.v_elab.specs.Elaborated.{IsElaborated, body_in}
use Rattle.v_elab.specs.Elements.{elements_of}
use Rattle.v_elab.proofs.Inputs.{same_given}
use Rattle.v_elab.proofs.Lowering.{elaborable_in, elaborated_in}
use Rattle.v_elab.proofs.flat.elements_below.Goals as goal

pub outputs_of-requires : goal.outputs_of-requires
outputs_of-requires c = (scope_at c.args.top.now.constants, c.in_ok-names.ensures)

pub elements_in-requires : goal.elements_in-requires
elements_in-requires c =
    subst (λ is. IsElaborable (body_in (scope_at c.args.flat.now.scope) (map item_of is) (map (λ n. n.now) c.args.declared.now)) (is_given_input c.in_ok-names.names c.args.clock.now top_front))
    (sym c.items_of-items.ensures)
    (elaborable_in (body_in (scope_at c.args.flat.now.scope) (map item_of c.args.flat.now.items.items) (map (λ n. n.now) c.args.declared.now))
    (is_given_input c.in_ok-names.names c.args.clock.now top_front) (is_given_port (module_of c.args.top.now.within.now) c.args.clock.now top_front)
    (same_given (scope_at c.args.top.now.constants) c.in_ok-names.names (module_of c.args.top.now.within.now) c.args.clock.now top_front c.in_ok-names.ensures) c.requires)

pub returns : goal.returns
returns c =
    subst (λ is. IsElaborated (body_in (scope_at c.args.flat.now.scope) (map item_of is) (map (λ n. n.now) c.args.declared.now))
    (is_given_port (module_of c.args.top.now.within.now) c.args.clock.now top_front)
    (outputs_of (module_of c.args.top.now.within.now)) (elements_of c.in_ok-elements.elements))
    c.items_of-items.ensures
    (elaborated_in _ _ _ _ _ _
    (same_given (scope_at c.args.top.now.constants) c.in_ok-names.names (module_of c.args.top.now.within.now) c.args.clock.now top_front c.in_ok-names.ensures)
    c.in_ok-outputs.ensures c.in_ok-elements.ensures)
