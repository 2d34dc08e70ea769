use Rattle.std.proofs.Common.{ap, ◌∙◌, ◌++◌, List}
use Rattle.verilog_meaning.specs.Hierarchy.{all_parameters}
use Rattle.verilog_designs.specs.Names.{is_among, parameter_names}
use Rattle.v_syntax.specs.Source.{module_of}
use Rattle.v_hier.specs.declared.entry.Entry.{Entry}
use Rattle.v_hier.specs.declared.entry.Tag.TheVariants.{Other}
use Rattle.v_hier.specs.Entries.{entries_of, entry_names, tagged}
use Rattle.v_hier.proofs.Named.{names-tagged}
use Rattle.v_hier.proofs.undeclared.parameter_set.Goals as goal

pub returns : goal.returns
returns c = λ q.
    let ns = parameter_names (all_parameters (module_of c.args.within.now)) in
    c.in_ok-set.ensures q
    ∙ (ap (λ es. is_among (entry_names es) q)
    (ap entries_of c.deref.ensures.value ∙ (c.in_ok-add_parameters.ensures ∙ ap (λ (es : List Entry). entries_of es ++ tagged Other ns) c.new-entries.ensures.items))
    ∙ ap (λ ms. is_among ms q) (names-tagged Other ns))
