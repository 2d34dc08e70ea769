use Rattle.std.proofs.Common.{◌∙◌, ap, ◌++◌, ◌∷◌, map, sym}
use Rattle.verilog_meaning.specs.Hierarchy.{body_parameters, value_names}
use Rattle.verilog_designs.specs.Names.{parameter_names}
use Rattle.v_syntax.specs.declared.module.ParameterValue.{ParameterValue}
use Rattle.v_syntax.specs.Tree.{tree_of}
use Rattle.v_syntax.specs.Source.{item_of}
use Rattle.v_hier.specs.declared.entry.Tag.TheVariants.{Other}
use Rattle.v_hier.specs.Entries.{entries_of, tagged}
use Rattle.v_hier.proofs.Declared.{put-before, tagged-append}
use Rattle.v_hier.proofs.entry.add_body.Goals as goal

pub returns-in_ok-add_values-in-Parameter : goal.returns-in_ok-add_values-in-Parameter
returns-in_ok-add_values-in-Parameter c = λ rest.
    ap (λ i. entries_of c.args.entries.now.items ++ tagged Other (parameter_names (body_parameters (item_of i ∷ rest)))) c.in-Parameter.is
    ∙ put-before _ _ _ _ _ c.in_ok-add_values-in-Parameter.ensures
    (ap (λ vs. tagged Other (value_names (map (λ (v : ParameterValue). (v.name.now, tree_of v.value)) vs) ++ parameter_names (body_parameters rest))) (sym c.deref.ensures.value)
    ∙ tagged-append Other _ (parameter_names (body_parameters rest)))
