use Rattle.std.proofs.Common.{map, ap, ◌∙◌}
use Rattle.verilog_designs.specs.Names.{is_among, module_names}
use Rattle.v_syntax.specs.Source.{module_of}
use Rattle.v_hier.specs.declared.entry.Tag.TheVariants.{Other}
use Rattle.v_hier.specs.Entries.{entries_of, entry_names}
use Rattle.v_hier.proofs.Named.{names-tagged}
use Rattle.v_hier.proofs.undeclared.module_set.Goals as goal

pub returns : goal.returns
returns c = λ q.
    c.in_ok-set.ensures q
    ∙ (ap (λ es. is_among (entry_names es) q) (ap entries_of c.deref.ensures.value ∙ c.in_ok-entries.ensures)
    ∙ ap (λ ns. is_among ns q) (names-tagged Other (module_names (map module_of c.args.modules.now))))
