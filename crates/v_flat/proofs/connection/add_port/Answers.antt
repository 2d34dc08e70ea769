use Rattle.std.proofs.Common.{◌∙◌, ◌++◌, ap, sym, option_map}
use Rattle.v_syntax.specs.Tree.{tree_of}
use Rattle.v_syntax.specs.Source.{direction_of}
use Rattle.v_renamed.specs.NewNames.{new_name}
use Rattle.v_flat.specs.Links.{port_link}
use Rattle.v_flat.specs.Views.{assignments_of}
use Rattle.v_flat.proofs.Loops.{nothing}
use Rattle.v_flat.proofs.Connected.{port_none}
use Rattle.v_flat.proofs.connection.add_port.Goals as goal

pub returns-in_ok-add_way-in-Some : goal.returns-in_ok-add_way-in-Some
returns-in_ok-add_way-in-Some c = λ m i.
    c.in_ok-add_way-in-Some.ensures
    ∙ ap (λ o. assignments_of c.args.list.now.items ++ port_link (direction_of c.args.way) (new_name c.args.names.now) (new_name c.args.below.now) c.args.port.now (tree_of c.args.expression.now) o)
    (sym (ap (option_map direction_of) c.in-Some.is) ∙ c.direction_under.ensures ∙ i.directions c.args.port.now)

pub returns-in-None : goal.returns-in-None
returns-in-None c = λ m i.
    nothing (assignments_of c.args.list.now.items) _
    (ap (λ o. port_link (direction_of c.args.way) (new_name c.args.names.now) (new_name c.args.below.now) c.args.port.now (tree_of c.args.expression.now) o) (sym (sym (ap (option_map direction_of) c.in-None.is) ∙ c.direction_under.ensures ∙ i.directions c.args.port.now))
    ∙ port_none (new_name c.args.names.now) (new_name c.args.below.now) (direction_of c.args.way) c.args.port.now (tree_of c.args.expression.now))
