use Rattle.std.proofs.Common.{ap, ◌∙◌, ◌||◌, map}
use Rattle.verilog_meaning.specs.Hierarchy.{body_parameters}
use Rattle.verilog_designs.specs.Names.{is_among, parameter_names}
use Rattle.v_syntax.specs.Source.{item_of, parameter_of}
use Rattle.v_hier.specs.Tables.{has_name}
use Rattle.v_modules.proofs.Nets.{all-names, none-yet}
use Rattle.v_modules.proofs.parameter.parameter_set.Goals as goal

pub returns : goal.returns
returns c = λ q.
    let within = c.args.within.now in
    all-names (map parameter_of within.parameters.items) (body_parameters (map item_of within.items.items)) q
    (has_name c.new-names.result q) (has_name c.add_declarations.new.names q) (has_name c.add_items.new.names q) (none-yet c.new-names.result c.new-names.ensures.empty q)
    (c.in_ok-add_declarations.ensures q ∙ ap (λ ds. has_name c.new-names.result q || is_among (parameter_names (map parameter_of ds)) q) c.deref.ensures.value)
    (c.in_ok-add_items.ensures q ∙ ap (λ is. has_name c.add_declarations.new.names q || is_among (parameter_names (body_parameters (map item_of is))) q) c.deref-2.ensures.value)
